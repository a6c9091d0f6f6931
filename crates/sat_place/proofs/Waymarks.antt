-- Hops, and what is kept of pairs.
use Rattle.std.proofs.Common.{ℕ, zero, suc, ◌≡◌, ◌<◌, ◌≤◌, ◌+◌, ◌&&◌, inl, inr, Bool, true, false, not, max, nat_lt, if◌then◌else◌, List, [], ◌∷◌, ◌++◌, length, map, take, get_or, refl, arith, ap, ◌∙◌, sym, add-one, length-append}
use Rattle.std.specs.List.{All}
use Rattle.std.proofs.Math.Nat.{eq-or-lt_of_le}
use Rattle.std.proofs.lemmas.Bool.{lt-ltb}
use Rattle.std.proofs.lemmas.List.{length-map, map-append, take_more, take_all}
use Rattle.std.proofs.lemmas.List.Elements.{All-nil, All-push, All-get_or, All-from_get_or}
use Rattle.sat_label.specs.Words.{bit}
use Rattle.sat_label.specs.declared.node.NodeId.{NodeId}
use Rattle.sat_label.specs.declared.node.NodeId.TheVariants.{Site, Serializer}
use Rattle.sat_tree.specs.Shape.{TreeShape}
use Rattle.sat_tree.specs.Cut.{beyond, seat_of}
use Rattle.sat_tree.specs.Flaw.{IsSmallTree}
use Rattle.sat_delay.specs.Table.{DelayTable, IsWithinLimits}
use Rattle.sat_plan.specs.declared.edges.Edge.{Edge}
use Rattle.sat_plan.specs.declared.pairs.Pair.{Pair}
use Rattle.sat_plan.specs.Config.{edge_of, edges, edge_at}
use Rattle.sat_plan.specs.Drafts.{IsPairBelow}
use Rattle.sat_plan.specs.Mismatch.{on_way, pairs}
use Rattle.sat_plan.proofs.Legs.{edge_read}
use Rattle.sat_plan.proofs.Lists.{edges_few, pairs_are, pairs_few}
use Rattle.sat_place.specs.declared.ways.Hop.{Hop}
use Rattle.sat_place.specs.declared.ways.Way.{Way}
use Rattle.sat_place.specs.Ways.{hop_to, hop_over, hops_below, hops_of, no_hop, highest, way_of, IsHopWithin, IsWay, AreWays}

pub far_is : (t : TreeShape) (e : Edge) (bits i k : ℕ) → ((z : ℕ) → bit bits z ≡ (nat_lt z (length t.seats) && beyond t (Serializer e.from) e.to (Site z))) → i < length t.seats → k < length t.seats → (bit bits k && not (bit bits i)) ≡ on_way t e i k
unfolding on_way
far_is t e bits i k far from to = rw (far k, far i, lt-ltb i (length t.seats) from, lt-ltb k (length t.seats) to) refl

-- ---- hops

pub hops_start : (t : TreeShape) (i k : ℕ) → hops_below t i k 0 ≡ []
unfolding hops_below
hops_start t i k = refl

pub hops_more : (t : TreeShape) (list : List Edge) (i k e : ℕ) (hops more : List Hop) → list ≡ edges t → hops ≡ hops_below t i k e → more ≡ hops ++ hop_over t (get_or list e (edge_of 0 (Site 0))) i k → more ≡ hops_below t i k (e + 1)
unfolding hops_below
hops_more t list i k e hops more is front grown = grown ∙ rw (add-one, hops_below, front, edge_read t list e is) refl

length-hop_over : (t : TreeShape) (e : Edge) (i k : ℕ) → length (hop_over t e i k) ≤ 1
unfolding hop_over
length-hop_over t e i k = go (on_way t e i k) refl e.to
  where
    one : (n : NodeId) → length (hop_to e.from n) ≤ 1
    one (Site j) = omega arith
    one (Serializer y) = omega arith

    go : (b : Bool) → on_way t e i k ≡ b → NodeId → length (if on_way t e i k then hop_to e.from e.to else []) ≤ 1
    go true is n = rw is (one e.to)
    go false is n = rw is (omega arith)

hops_few : (t : TreeShape) (i k n : ℕ) → length (hops_below t i k n) ≤ n
unfolding hops_below
hops_few t i k zero = omega arith
hops_few t i k (suc n) =
    let front = hops_few t i k n in
    let here = length-hop_over t (edge_at t n) i k in
    let whole = length-append (hops_below t i k n) (hop_over t (edge_at t n) i k) in
    omega arith

-- ---- the highest serializer

pub highest_start : (near far : ℕ) (hops : List Hop) → highest near far hops 0 ≡ max near far
unfolding highest
highest_start near far hops = refl

pub highest_more : (near far n : ℕ) (hops : List Hop) (was now : ℕ) → was ≡ highest near far hops n → now ≡ max was (max (get_or hops n no_hop).from (get_or hops n no_hop).to) → now ≡ highest near far hops (n + 1)
unfolding highest
highest_more near far n hops was now before is = is ∙ rw (add-one, highest, before) refl

ends_within : (near far : ℕ) (hops : List Hop) (n : ℕ) → (near ≤ highest near far hops n) × (far ≤ highest near far hops n)
unfolding highest
ends_within near far hops zero = (omega arith, omega arith)
ends_within near far hops (suc n) = let front = ends_within near far hops n in let a = front.0 in let b = front.1 in (omega arith, omega arith)

hop_within : (near far : ℕ) (hops : List Hop) (n k : ℕ) → k < n → IsHopWithin (highest near far hops n) (get_or hops k no_hop)
unfolding highest
hop_within near far hops zero k under = absurd (omega arith)
hop_within near far hops (suc n) k under = elim (eq-or-lt_of_le (let m : k ≤ n = omega arith in m)) [
  | inl same ↦ rw same (record { from = omega arith; to = omega arith })
  | inr below ↦ let front = hop_within near far hops n k below in record { from = let a = front.from in omega arith; to = let b = front.to in omega arith }
]

hops_within : (near far : ℕ) (hops : List Hop) → All (IsHopWithin (highest near far hops (length hops))) hops
hops_within near far hops = All-from_get_or (IsHopWithin (highest near far hops (length hops))) hops no_hop (λ k under. hop_within near far hops (length hops) k under)

-- ---- pairs

pub pair_in : (sites n : ℕ) (list : List Pair) (p : Pair) → list ≡ pairs sites → n < length list → IsPairBelow sites (get_or list n p)
pair_in sites n list p is within = rw is (All-get_or (IsPairBelow sites) (pairs sites) n p (let l = ap length is in omega arith) (pairs_are sites))

own_way : (d : DelayTable) (t : TreeShape) (p : Pair) → IsWithinLimits d → IsSmallTree t → length t.seats ≡ d.sites → IsPairBelow d.sites p → IsWay d (way_of d t p)
unfolding way_of hops_of
own_way d t p limits small seats pair = record {
  from = pair.from;
  to = pair.to;
  near = (ends_within (seat_of t p.from) (seat_of t p.to) (hops_below t p.from p.to (length (edges t))) _).0;
  far = (ends_within (seat_of t p.from) (seat_of t p.to) (hops_below t p.from p.to (length (edges t))) _).1;
  hops = hops_within (seat_of t p.from) (seat_of t p.to) (hops_below t p.from p.to (length (edges t)));
  few = let few = hops_few t p.from p.to (length (edges t)) in let most = edges_few t small (let sites = limits.few_sites in omega arith) in omega arith;
  weight = limits.weight.bounded p.from p.to;
  optimal = limits.optimal.bounded p.from p.to;
}

-- the ways of the first so many pairs
pub record AreFirst (d : DelayTable) (t : TreeShape) (list : List Pair) (n : ℕ) (ways : List Way) : Type 0 where
  pub same : ways ≡ map (way_of d t) (take n list)
  pub sound : All (IsWay d) ways

pub first_none : (d : DelayTable) (t : TreeShape) (list : List Pair) (ways : List Way) → ways ≡ [] → AreFirst d t list 0 ways
first_none d t list ways none = record { same = none; sound = rw none (All-nil (IsWay d)) }

pub first_more : (d : DelayTable) (t : TreeShape) (list : List Pair) (n : ℕ) (p : Pair) (w : Way) (ways more : List Way) → IsWithinLimits d → IsSmallTree t → length t.seats ≡ d.sites → list ≡ pairs d.sites → n < length list → w ≡ way_of d t (get_or list n p) → more ≡ ways ++ w ∷ [] → AreFirst d t list n ways → AreFirst d t list (n + 1) more
first_more d t list n p w ways more limits small seats is within own grown front = record {
  same = grown ∙ rw (front.same, own, take_more list n p within) (sym (map-append (way_of d t) (take n list) (get_or list n p ∷ [])));
  sound = rw grown (All-push (IsWay d) ways w front.sound (rw own (own_way d t (get_or list n p) limits small seats (pair_in d.sites n list p is within))));
}

pub first_all : (d : DelayTable) (t : TreeShape) (list : List Pair) (n : ℕ) (ways : List Way) → list ≡ pairs d.sites → n ≡ length list → AreFirst d t list n ways → ways ≡ map (way_of d t) (pairs d.sites)
first_all d t list n ways is whole front = front.same ∙ rw (whole, take_all (length list) list (omega arith), is) refl

pub are_ways : (d : DelayTable) (t : TreeShape) (list : List Pair) (n : ℕ) (ways : List Way) → IsWithinLimits d → list ≡ pairs d.sites → n ≡ length list → AreFirst d t list n ways → AreWays d ways
are_ways d t list n ways limits is whole front = record {
  limits = limits;
  sound = front.sound;
  few = let few = pairs_few d.sites limits.few_sites in let count = length-map (pairs d.sites) (way_of d t) in let same = ap length (first_all d t list n ways is whole front) in omega arith;
}
