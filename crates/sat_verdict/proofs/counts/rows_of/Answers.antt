use Rattle.std.specs.Prelude.{ℕ, List, length, refl}
use Rattle.std.proofs.Common.{ap}
use Rattle.std.proofs.lemmas.List.{get_or_default}
use Rattle.sat_verdict.proofs.Columns.{known-start, known-next}
use Rattle.sat_verdict.proofs.counts.rows_of.Goals as goal

pub loop-place-init : goal.loop-place-init
loop-place-init c = known-start c.args.tales.now c.args.clients c.in_ok-now.now.items c.in_ok-rows.rows.items c.in_ok-now.ensures (ap (λ (ys : List (List ℕ)). length ys) c.in_ok-rows.ensures.items)

pub loop-place-preserved : goal.loop-place-preserved
loop-place-preserved c =
    known-next c.args.tales.now c.loop-place.place c.args.clients _ c.args.numbers.now c.loop-place.now.items c.as_slice.result.now c.learn.new.now.items
    c.loop-place.rows.items c.as_slice-in-loop-place.result.now c.push.new.self.items c.in_ok-row.row c.client.result _
    c.loop-place-test.true (get_or_default c.args.tales.now c.loop-place.place _ _ c.loop-place-test.true) c.requires.unique c.requires.clients c.requires.numbers refl c.loop-place.invariant
    c.as_slice.ensures.value c.client.ensures c.in_ok-row.ensures c.as_slice-in-loop-place.ensures.value c.learn.ensures c.in_ok-push.ensures.items
