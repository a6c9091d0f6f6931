use Rattle.sat_draw.proofs.Heads.{no_seats, more_seats}
use Rattle.sat_draw.proofs.head.push_seats.Goals as goal

pub loop-site-init : goal.loop-site-init
loop-site-init c = no_seats c.args.out.now.items c.args.d.now c.args.epoch c.args.y c.args.tree.now

pub loop-site-preserved : goal.loop-site-preserved
loop-site-preserved c =
    more_seats c.args.out.now.items c.loop-site.out.items c.push_seat.new.out.items c.args.d.now c.args.epoch c.args.y c.args.tree.now c.loop-site.site
    c.in_ok-push_seat.ensures c.loop-site.invariant
