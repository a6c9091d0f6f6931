use Rattle.std.proofs.Common.{List, ℕ, [], ◌∷◌, ◌∙◌, ap}
use Rattle.sat_act.specs.declared.act.Act.TheVariants as act
use Rattle.sat_world.proofs.Writing.{writes-one}
use Rattle.sat_world.proofs.world.World.handed_one.Goals as goal

pub handed_write-requires : goal.handed_write-requires
handed_write-requires c = (act.Write _ _ _, writes-one _ _ _ _ _ (c.in_ok-values.ensures ∙ ap (λ (v : List ℕ). v ∷ []) c.in_ok-copy.ensures) c.requires)

pub returns : goal.returns
returns c = c.handed_write.ensures (act.Write _ _ _) (writes-one _ _ _ _ _ (c.in_ok-values.ensures ∙ ap (λ (v : List ℕ). v ∷ []) c.in_ok-copy.ensures) c.requires)
