use Rattle.sat_draw.proofs.Heads.{no_names, more_names}
use Rattle.sat_draw.proofs.head.push_names.Goals as goal

pub loop-n-init : goal.loop-n-init
loop-n-init c = no_names c.args.out.now.items c.args.top c.args.column c.args.name.now

pub loop-n-preserved : goal.loop-n-preserved
loop-n-preserved c =
    more_names c.args.out.now.items c.loop-n.out.items c.push.new.self.items c.args.top c.args.column c.args.name.now c.loop-n.n c.in_ok-again.again
    c.in_ok-push.ensures.items c.in_ok-again.ensures c.loop-n.invariant
