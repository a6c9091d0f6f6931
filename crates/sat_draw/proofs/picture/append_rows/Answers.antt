use Rattle.sat_draw.proofs.Following.{drawn_none}
use Rattle.sat_draw.proofs.picture.append_rows.Goals as goal

pub loop-place-init : goal.loop-place-init
loop-place-init c =
    drawn_none c.args.d.now c.new-lines.result.items c.new-words.result.items c.new-tracks.result c.new-lines.ensures.items c.new-words.ensures.items c.new-tracks.ensures.seats c.new-tracks.ensures.spots c.new-tracks.ensures.under_way c.new-tracks.ensures.sendings
