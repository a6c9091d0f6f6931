-- The tree of an epoch stands among the plans.
use Rattle.std.specs.Prelude.{◌≡◌, ◌≤◌, ◌-◌, ◌==◌, ℕ, Bool, true, false, Option, Some, None, slice_get, if◌then◌else◌, refl}
use Rattle.std.proofs.Common.{arith, ap}
use Rattle.std.proofs.lemmas.Bool.Decides.{nat_tests}
use Rattle.sat_tree.specs.Shape.{TreeShape}
use Rattle.sat_act.specs.declared.deployment.Plan.{Plan}
use Rattle.sat_act.specs.declared.deployment.Plan.TheVariants as plan
use Rattle.sat_act.specs.Deployed.{Deployed}
use Rattle.sat_act.specs.Parts.{tree_of, planned_tree}

zero-or-more : (n : ℕ) → (n == 0) ≡ false → 1 ≤ n
zero-or-more n e = grind (arith, nat_tests)

more-not-zero : (n : ℕ) → 1 ≤ n → (n == 0) ≡ false
more-not-zero n e = grind (arith, nat_tests)

planned : (o : Option Plan) (tree : TreeShape) → elim o [ None ↦ None | Some p ↦ elim p [ plan.Stamp ↦ None | plan.Tree t ↦ Some t ] ] ≡ Some tree → o ≡ Some (plan.Tree tree)
planned (Some (plan.Tree t)) tree e = let same : t ≡ tree = cc in ap (λ (x : TreeShape). Some (plan.Tree x)) same
planned (Some plan.Stamp) tree e = absurd (cc)
planned None tree e = absurd (cc)

-- an epoch that counts from 1 has the tree of its plan
pub tree_from_plans : (d : Deployed) (epoch : ℕ) → 1 ≤ epoch → tree_of d epoch ≡ planned_tree d.plans (epoch - 1)
unfolding tree_of
tree_from_plans d epoch some = ap (λ (b : Bool). if b then None else planned_tree d.plans (epoch - 1)) (more-not-zero epoch some)

-- an epoch with a tree is at least the first, and its plan is that tree
pub tree_in_plans : (d : Deployed) (epoch : ℕ) (tree : TreeShape) → tree_of d epoch ≡ Some tree → (1 ≤ epoch) × (slice_get d.plans (epoch - 1) ≡ Some (plan.Tree tree))
unfolding tree_of
tree_in_plans d epoch tree e = go (epoch == 0) refl e
  where
    go : (b : Bool) → (epoch == 0) ≡ b → (if b then None else planned_tree d.plans (epoch - 1)) ≡ Some tree → (1 ≤ epoch) × (slice_get d.plans (epoch - 1) ≡ Some (plan.Tree tree))
    go true is e = absurd (cc)
    go false is e = (zero-or-more epoch is, planned (slice_get d.plans (epoch - 1)) tree e)
