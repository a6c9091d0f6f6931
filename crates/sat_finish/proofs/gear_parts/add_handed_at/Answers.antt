use Rattle.std.proofs.Common.{◌≡◌, ◌++◌, ℕ, Some, OnOk, length, refl, slice_get, sym, subst}
use Rattle.std.proofs.lemmas.Option.{slice_get_past, slice_get_read}
use Rattle.sat_finish.specs.Marks.{read_as}
use Rattle.sat_finish.specs.Parts.{kept_part}
use Rattle.sat_finish.proofs.Marked.{none_read}
use Rattle.sat_finish.proofs.gear_parts.add_handed_at.Goals as goal

pub returns-in-None : goal.returns-in-None
returns-in-None g c = λ n. none_read (kept_part c.args.site n (Some c.args.home)) c.args.list.now.items (slice_get c.args.journal.now c.args.mark) (slice_get_past c.args.journal.now c.args.mark c.in-None.ensures.lookup.3)

pub returns-in-Some : goal.returns-in-Some
returns-in-Some g c =
    subst (λ o. OnOk c.add_one_kept.result ((n : ℕ) → c.add_one_kept.new.list.items ≡ c.args.list.now.items ++ read_as (kept_part c.args.site n (Some c.args.home)) o)) (sym (slice_get_read c.args.journal.now (length c.args.journal.now) c.args.mark c.in-Some.kept.now refl c.in-Some.ensures.lookup.3.0 c.in-Some.ensures.lookup.1)) c.add_one_kept.ensures
