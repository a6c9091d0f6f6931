-- The premises of the headline can be met: the run of the plain path is good.
use Rattle.std.specs.Prelude.{◌≡◌, ◌<◌, ◌≤◌, ℕ, false, length, zero, suc, ◌-◌, List, [], ◌∷◌, Some, None, slice_get, unwrap_or, refl}
use Rattle.std.proofs.Common.{subst, arith, lit≤}
use Rattle.sat_label.specs.declared.node.NodeId.TheVariants.{Site}
use Rattle.sat_tree.specs.Shape.{TreeShape}
use Rattle.sat_tree.specs.Cut.{IsTree, parent_of, seat_of, is_edge, hangs_on, over}
use Rattle.sat_act.specs.declared.act.Act.{Act}
use Rattle.sat_act.specs.declared.act.Act.TheVariants.{Write, Read, Gather, Emit, Hop, Turn, Bulk}
use Rattle.sat_act.specs.declared.deployment.Plan.TheVariants as plan
use Rattle.sat_act.specs.Deployed.{Deployed}
use Rattle.sat_act.proofs.Plans.{tree_in_plans}
use Rattle.sat_act.specs.Parts.{tree_of, home, view, emission, fallen, killed}
use Rattle.sat_act.specs.Settling.{run, settle}
use Rattle.sat_rest.specs.Ends.{IsWithin}
use Rattle.sat_rest.specs.Rest.{CanEnd, IsAtRest}
use Rattle.sat_act.specs.declared.entry.Entry.{Entry}
use Rattle.sat_rest.proofs.Rest.{rests}
use Rattle.sat_act.specs.Goals.{IsValid}
use Rattle.sat_act.specs.Headline.{HasTrees, AllInRange, IsGood}
use Rattle.sat_laws.proofs.Labels.{some_is}
use Rattle.sat_rest.proofs.Headlines.{every-run, run-is}

abbrev star : TreeShape
star = record { parents = None ∷ []; seats = 0 ∷ 0 ∷ [] }

abbrev A : Deployed
A = record {
  format = 1;
  sites = 2;
  gears = 1;
  items = record { name = 120 ∷ []; replicas = record { bits = 3 } } ∷ [];
  clients = record { name = 97 ∷ []; site = 0 } ∷ record { name = 98 ∷ []; site = 1 } ∷ [];
  plans = plan.Tree star ∷ [];
}

homes : (c i : ℕ) → home A c ≡ Some i → i < 2
unfolding home
homes zero i e = subst (λ (n : ℕ). n < 2) (some_is 0 i e) (lit≤ tt)
homes (suc zero) i e = subst (λ (n : ℕ). n < 2) (some_is 1 i e) (lit≤ tt)
homes (suc (suc c)) i e = absurd (cc)

valid : IsValid A
valid = record { some_gear = lit≤ tt; few_gears = lit≤ tt; homes = homes }

star-tree : IsTree star
unfolding parent_of seat_of
star-tree = record {
  down = λ z p e. absurd (no_parent z p e);
  inner = λ z p e. absurd (no_parent z p e);
  hung = λ z a b. absurd (omega arith);
  seats = seat;
}
  where
    no_parent : (z p : ℕ) → unwrap_or (slice_get (None ∷ []) z) None ≡ Some p → ⊥
    no_parent zero p e = cc
    no_parent (suc z) p e = cc

    seat : (i : ℕ) → unwrap_or (slice_get (0 ∷ 0 ∷ []) i) 0 < 1
    seat zero = lit≤ tt
    seat (suc zero) = lit≤ tt
    seat (suc (suc i)) = lit≤ tt

only-plan : (n : ℕ) (t : TreeShape) → slice_get (plan.Tree star ∷ []) n ≡ Some (plan.Tree t) → star ≡ t
only-plan zero t k = let e : plan.Tree star ≡ plan.Tree t = cc in cc
only-plan (suc n) t k = absurd (cc)

only-tree : (e : ℕ) (t : TreeShape) → tree_of A e ≡ Some t → star ≡ t
only-tree e t k = only-plan (e - 1) t (tree_in_plans A e t k).1

trees : HasTrees A
trees e t k = subst IsTree (only-tree e t k) star-tree

abbrev script : List Act
script = Read 1 0 ∷ Turn 1 ∷ Bulk 0 0 1 None ∷ Hop 1 (Site 0) 0 ∷ Emit 0 ∷ Gather 0 ∷ Write 0 0 (104 ∷ []) ∷ []

in-range : AllInRange A script
unfolding tree_of is_edge hangs_on over seat_of parent_of
in-range = (((((((tt, tt), lit≤ tt), lit≤ tt), (star, refl, refl)), (lit≤ tt, lit≤ tt, lit≤ tt, refl)), lit≤ tt), tt)

within : IsWithin A
within = record {
  valid = valid;
  some_site = lit≤ tt;
  trees = trees;
  some_plan = lit≤ tt;
  few_serializers = λ e t k. subst (λ (s : TreeShape). length s.parents ≤ 15) (only-tree e t k) (lit≤ tt);
  all_seated = λ e t k. subst (λ (s : TreeShape). length s.seats ≡ 2) (only-tree e t k) refl;
}

abbrev after_settle : List Entry
after_settle = (settle A (run A script)).1

one-view : (j : ℕ) → j < 2 → view after_settle j ≡ 1
unfolding settle run view
one-view zero b = refl
one-view (suc zero) b = refl
one-view (suc (suc j)) b = absurd (omega arith)

one-emission : (j : ℕ) → j < 2 → emission after_settle j ≡ 1
unfolding settle run emission
one-emission zero b = refl
one-emission (suc zero) b = refl
one-emission (suc (suc j)) b = absurd (omega arith)

no-fall : (j : ℕ) → j < 2 → fallen after_settle j ≡ false
unfolding settle run fallen
no-fall zero b = refl
no-fall (suc zero) b = refl
no-fall (suc (suc j)) b = absurd (omega arith)

no-kill : (z : ℕ) → killed after_settle 1 z ≡ false
unfolding settle run killed
no-kill z = refl

can-end : CanEnd A after_settle
can-end = record { epoch = 1; views = one-view; emissions = one-emission; no_fall = no-fall; no_kill = no-kill }

-- and so can those of the quiet end
at-rest : IsAtRest A after_settle 1
unfolding can-end
at-rest = rests A (run A script) within (run-is A script in-range) can-end
