-- Legs that stand for edges.
use Rattle.std.proofs.Common.{ℕ, zero, suc, ◌≡◌, ◌<◌, ◌≤◌, ◌+◌, ◌⊎◌, inl, inr, List, [], ◌∷◌, ◌++◌, length, map, get_or, slice_index, refl, arith, ap, ◌∙◌, sym, length-append}
use Rattle.std.proofs.Math.Nat.{eq-or-lt_of_le}
use Rattle.std.proofs.Math.Seq.{get_or-append_seam}
use Rattle.std.proofs.lemmas.Bool.{cases_lt}
use Rattle.std.proofs.lemmas.List.{get_or_append_left, get_or_past, length-map}
use Rattle.std.proofs.lemmas.List.Elements.{All-get_or}
use Rattle.std.proofs.lemmas.Option.{get_or_from_slice_get}
use Rattle.sat_label.specs.declared.node.NodeId.TheVariants.{Site}
use Rattle.sat_label.specs.Words.{below}
use Rattle.sat_label.proofs.Numbers.{length-below, below-get, get-map}
use Rattle.sat_tree.specs.Shape.{TreeShape}
use Rattle.sat_tree.specs.Flaw.{IsSmallTree}
use Rattle.sat_delay.specs.Table.{DelayTable, IsWithinLimits}
use Rattle.sat_plan.specs.declared.edges.Edge.{Edge}
use Rattle.sat_plan.specs.declared.routes.Leg.{Leg}
use Rattle.sat_plan.specs.declared.routes.Routes.{Routes}
use Rattle.sat_plan.specs.Config.{edges, edge_at, edge_of}
use Rattle.sat_plan.specs.Routes.{no_leg, leg_way, routed_leg, site_access, IsLeg, AreLegs, IsRoutes, AreShort}
use Rattle.sat_plan.specs.Drafts.{IsEdgeOf}
use Rattle.sat_plan.proofs.Lists.{edges_are, edges_few}

-- within a list the default doesn't matter
pub get_or_default : {X : Type 0} (xs : List X) (i : ℕ) (d e : X) → i < length xs → get_or xs i d ≡ get_or xs i e
get_or_default [] i d e under = absurd (omega arith)
get_or_default (x ∷ xs) zero d e under = refl
get_or_default (x ∷ xs) (suc i) d e under = get_or_default xs i d e (omega arith)

-- a read of a list of edges
pub edge_read : (t : TreeShape) (list : List Edge) (e : ℕ) → list ≡ edges t → get_or list e (edge_of 0 (Site 0)) ≡ edge_at t e
unfolding edge_at
edge_read t list e is = rw is refl

pub edge_in : (t : TreeShape) (list : List Edge) (e : ℕ) → list ≡ edges t → e < length list → IsEdgeOf t (get_or list e (edge_of 0 (Site 0)))
edge_in t list e is within = rw is (All-get_or (IsEdgeOf t) (edges t) e (edge_of 0 (Site 0)) (let l = ap length is in omega arith) (edges_are t))

pub routed_leg_is : (legs : List Leg) (delays : List ℕ) (i k e : ℕ) (leg : Leg) → e < length legs → leg ≡ get_or legs e leg → leg_way leg (slice_index delays e) i k ≡ routed_leg legs delays i k e
unfolding routed_leg
routed_leg_is legs delays i k e leg within at = rw (at ∙ get_or_default legs e leg no_leg within) refl

pub legs_start : (d : DelayTable) (t : TreeShape) (places : List ℕ) → AreLegs d t places 0 []
legs_start d t places = record { many = refl; stand = λ e under. absurd (omega arith); short = λ e. omega arith }

pub legs_more : (d : DelayTable) (t : TreeShape) (places : List ℕ) (n : ℕ) (legs : List Leg) (leg : Leg) → AreLegs d t places n legs → IsLeg d t places (edge_at t n) leg → leg.span ≤ 100000 → AreLegs d t places (n + 1) (legs ++ leg ∷ [])
legs_more d t places n legs leg front is short = record {
  many = let many = front.many in omega (arith, length-append legs (leg ∷ []));
  stand = λ e under. by_place e (eq-or-lt_of_le (let m : e ≤ n = omega arith in m));
  short = λ e. elim (cases_lt e n) [ inl under ↦ rw (old e under) (front.short e) | inr past ↦ last e past ];
}
  where
    old : (e : ℕ) → e < n → get_or (legs ++ leg ∷ []) e no_leg ≡ get_or legs e no_leg
    old e under = get_or_append_left legs (leg ∷ []) no_leg e (let many = front.many in omega arith)

    at_end : (e : ℕ) → e ≡ n → get_or (legs ++ leg ∷ []) e no_leg ≡ leg
    at_end e same = rw (same, ← front.many) (get_or-append_seam legs leg [] no_leg)

    by_place : (e : ℕ) → (e ≡ n) ⊎ (e < n) → IsLeg d t places (edge_at t e) (get_or (legs ++ leg ∷ []) e no_leg)
    by_place e (inl same) = rw (at_end e same, same) is
    by_place e (inr under) = rw (old e under) (front.stand e under)

    last : (e : ℕ) → n ≤ e → (get_or (legs ++ leg ∷ []) e no_leg).span ≤ 100000
    last e past = elim (eq-or-lt_of_le past) [
      | inl same ↦ rw (at_end e (sym same)) short
      | inr over ↦ rw (get_or_past (legs ++ leg ∷ []) e no_leg (let many = front.many in omega (arith, length-append legs (leg ∷ [])))) (omega arith)
    ]

pub legs_step : (d : DelayTable) (t : TreeShape) (places : List ℕ) (n : ℕ) (list : List Edge) (legs more : List Leg) (leg : Leg) → list ≡ edges t → AreLegs d t places n legs → IsLeg d t places (get_or list n (edge_of 0 (Site 0))) leg → leg.span ≤ 100000 → more ≡ legs ++ leg ∷ [] → AreLegs d t places (n + 1) more
legs_step d t places n list legs more leg is front stands short grown = rw grown (legs_more d t places n legs leg front (rw (edge_read t list n is) at stands) short)

-- ---- routes

access_length : (d : DelayTable) (t : TreeShape) (places : List ℕ) (access : List ℕ) → access ≡ map (site_access d t places) (below (length t.seats)) → length access ≡ length t.seats
access_length d t places access is = rw is (length-map (below (length t.seats)) (site_access d t places) ∙ length-below (length t.seats))

pub access_at : (d : DelayTable) (t : TreeShape) (places : List ℕ) (access : List ℕ) (i : ℕ) → access ≡ map (site_access d t places) (below (length t.seats)) → i < length t.seats → slice_index access i ≡ site_access d t places i
access_at d t places access i is under =
    rw is (get_or_from_slice_get _ i (site_access d t places i) 0 (get-map (site_access d t places) (below (length t.seats)) i i (below-get (length t.seats) i under)))

access_short : (d : DelayTable) (t : TreeShape) (places : List ℕ) (access : List ℕ) (i : ℕ) → IsWithinLimits d → access ≡ map (site_access d t places) (below (length t.seats)) → slice_index access i ≤ 100000
unfolding site_access
access_short d t places access i limits is = elim (cases_lt i (length t.seats)) [
  | inl under ↦ rw (access_at d t places access i is under) (limits.reach.bounded i _)
  | inr past ↦ rw (get_or_past access i 0 (let l = access_length d t places access is in omega arith)) (omega arith)
]

pub are_short : (d : DelayTable) (t : TreeShape) (places : List ℕ) (r : Routes) → IsWithinLimits d → IsSmallTree t → length t.seats ≡ d.sites → r.access.items ≡ map (site_access d t places) (below (length t.seats)) → AreLegs d t places (length (edges t)) r.legs.items → AreShort r
are_short d t places r limits small seats access legs = record {
  access = λ i. access_short d t places r.access.items i limits access;
  spans = legs.short;
  few = let many = legs.many in let few = edges_few t small (let sites = limits.few_sites in omega arith) in omega arith;
}

pub routes_seated : (d : DelayTable) (t : TreeShape) (places : List ℕ) (r : Routes) → IsRoutes d t places r → length r.access.items ≡ length t.seats
routes_seated d t places r routes = access_length d t places r.access.items routes.access
