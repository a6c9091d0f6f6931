use Rattle.std.proofs.Common.{◌≡◌, ◌++◌, OnOk, length, refl, slice_get, sym, subst}
use Rattle.std.proofs.lemmas.Option.{slice_get_past, slice_get_read}
use Rattle.sat_finish.specs.Marks.{read_as}
use Rattle.sat_finish.specs.Parts.{hub_part}
use Rattle.sat_finish.proofs.Marked.{none_read}
use Rattle.sat_finish.proofs.hub_parts.add_part_at.Goals as goal

pub returns-in-None : goal.returns-in-None
returns-in-None g c = none_read (hub_part c.args.d.now c.args.site c.args.gear) c.args.list.now.items (slice_get c.args.journal.now c.args.mark) (slice_get_past c.args.journal.now c.args.mark c.in-None.ensures.lookup.3)

pub returns-in-Some : goal.returns-in-Some
returns-in-Some g c =
    subst (λ o. OnOk c.add_part.result (c.add_part.new.list.items ≡ c.args.list.now.items ++ read_as (hub_part c.args.d.now c.args.site c.args.gear) o)) (sym (slice_get_read c.args.journal.now (length c.args.journal.now) c.args.mark c.in-Some.kept.now refl c.in-Some.ensures.lookup.3.0 c.in-Some.ensures.lookup.1)) c.add_part.ensures
