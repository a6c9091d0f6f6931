-- The deployments of tests.
use Rattle.std.proofs.Common.{◌≡◌, ◌&&◌, ℕ, nat_lt, true, List, [], ◌∷◌, length, Some, refl, ap, arith}
use Rattle.sat_label.specs.declared.items.Items.TheVariants.{Two}
use Rattle.sat_label.specs.Formats.{limits_of}
use Rattle.sat_tree.specs.Shape.{TreeShape}
use Rattle.sat_act.specs.declared.act.Act.TheVariants as act
use Rattle.sat_act.specs.declared.deployment.Plan.{Plan}
use Rattle.sat_act.specs.declared.deployment.Plan.TheVariants as plan
use Rattle.sat_act.specs.Deployed.{Deployed}
use Rattle.sat_act.specs.Parts.{planned_tree, tree_of}
use Rattle.sat_act.specs.Ranges.{IsActOf}
use Rattle.sat_session.specs.Calls.{IsGroup}

first-tree : (d : Deployed) (tree : TreeShape) → d.plans ≡ plan.Tree tree ∷ plan.Stamp ∷ [] → tree_of d 1 ≡ Some tree
unfolding tree_of
first-tree d tree plans = ap (λ (ps : List Plan). planned_tree ps 0) plans

-- the first serializer of the first tree may be killed
pub first_kill : (d : Deployed) (tree : TreeShape) → d.plans ≡ plan.Tree tree ∷ plan.Stamp ∷ [] → length tree.parents ≡ 1 → IsActOf d (act.Kill 1 0)
first_kill d tree plans one = (tree, omega arith, first-tree d tree plans, omega (arith, one))

-- both items of two may be written at once
pub two_items : (d : Deployed) (values : List (List ℕ)) → d.format ≡ 2 → length d.items ≡ 2 → length values ≡ 2 → IsGroup d (Two 0 1) values
two_items d values format known many =
    let written : (limits_of d.format).written ≡ 4 = ap (λ (f : ℕ). (limits_of f).written) format in
    record {
      some = omega arith;
      few = omega (arith, written);
      order = refl;
      known = ap (λ (n : ℕ). nat_lt 0 n && (nat_lt 1 n && true)) known;
      each = many;
    }
