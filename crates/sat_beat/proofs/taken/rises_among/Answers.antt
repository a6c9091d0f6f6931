use Rattle.std.specs.Prelude.{◌≡◌}
use Rattle.std.specs.Ordering.{nat_cmp}
use Rattle.std.specs.BTreeMap.Range.{entries_between}
use Rattle.std.specs.declared.ops.Bound.TheVariants.{Excluded, Unbounded}
use Rattle.std.proofs.Common.{rules, sym, ◌∙◌}
use Rattle.sat_beat.specs.Beats.{are_reached}
use Rattle.sat_beat.proofs.Rising.{rises_from_last}
use Rattle.sat_beat.proofs.taken.rises_among.Goals as goal

pub returns-in-Some : goal.returns-in-Some
returns-in-Some c e =
    let between : c.range.result ≡ entries_between nat_cmp Unbounded (Excluded c.args.number) c.args.later.now.entries = c.range.ensures.between tt in
    let reached : c.are_reached.result ≡ are_reached c.in-Some.below.now.counts c.args.beat.now.counts = search rules in
    rises_from_last c.args.later.now.entries c.next_back.new.self c.args.number c.args.beat.now (c.in-Some.field-0-0.now, c.in-Some.below.now) c.requires
    (sym between ∙ c.in-Some.ensures.steps) (sym reached ∙ e)
