use Rattle.std.specs.Prelude.{refl}
use Rattle.std.specs.BTreeMap.{get}
use Rattle.std.proofs.lemmas.List.{get_or_default}
use Rattle.sat_verdict.specs.Tables.{point_cmp}
use Rattle.sat_verdict.proofs.Makings.{makers-start, makers-next}
use Rattle.sat_verdict.proofs.makers.makers_of.Goals as goal

pub loop-place-init : goal.loop-place-init
loop-place-init c = makers-start c.new-makers.result c.new-makers.ensures.empty

pub loop-place-preserved : goal.loop-place-preserved
loop-place-preserved c =
    makers-next c.args.tales.now c.loop-place.place _ _ (λ p. get point_cmp c.loop-place.makers p) (λ p. get point_cmp c.note.new.makers p) c.loop-place-test.true
    (get_or_default c.args.tales.now c.loop-place.place _ _ c.loop-place-test.true) c.requires.unique refl c.loop-place.invariant c.in_ok-note.ensures
