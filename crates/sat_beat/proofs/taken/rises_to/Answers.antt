use Rattle.std.specs.Prelude.{◌≡◌}
use Rattle.std.proofs.Common.{rules, sym, ◌∙◌}
use Rattle.sat_beat.specs.Beats.{are_reached}
use Rattle.sat_beat.proofs.Last.{last_rises}
use Rattle.sat_beat.proofs.taken.rises_to.Goals as goal

pub returns-then-last-number : goal.returns-then-last-number
returns-then-last-number c e =
    let reached : c.are_reached.result ≡ are_reached c.in-Some.below.now.counts c.args.beat.now.counts = search rules in
    last_rises c.args.later.now.entries (c.in-Some.last.now, c.in-Some.below.now) c.args.number c.args.beat.now c.requires c.in-Some.ensures.last (sym reached ∙ e)
