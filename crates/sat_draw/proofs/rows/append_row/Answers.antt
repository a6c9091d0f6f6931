use Rattle.std.proofs.Common.{◌∙◌}
use Rattle.sat_draw.proofs.Following.{drawn_on}
use Rattle.sat_draw.proofs.rows.append_row.Goals as goal

pub returns : goal.returns
returns c = λ earlier same drawn.
    drawn_on c.args.d.now c.args.lines.now.items c.args.words.now.items c.append_elements.new.out.items c.append_elements-2.new.out.items c.args.tracks.now c.follow.new.self
    earlier c.args.row c.mark_spot-here.result c.args.entry.now c.as_slice.result.now c.as_slice-2.result.now
    drawn same c.mark_spot-here.ensures.spot
    (c.as_slice.ensures.value ∙ c.in_ok-ways.ensures) c.in_ok-append_elements.ensures.ok
    (c.as_slice-2.ensures.value ∙ c.in_ok-marks.ensures) c.in_ok-append_elements-2.ensures.ok
    c.in_ok-follow.ensures
