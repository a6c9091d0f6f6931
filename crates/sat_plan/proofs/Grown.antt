-- Trees that grow are sound, and fit the table.
use Rattle.std.proofs.Common.{ℕ, zero, suc, ◌≡◌, ◌<◌, ◌≤◌, ◌⊎◌, inl, inr, List, [], ◌∷◌, ◌++◌, length, map, replicate, get_or, slice_index, Option, Some, None, refl, arith, ap, ◌∙◌, sym, length-append}
use Rattle.std.proofs.Math.Nat.{eq-or-lt_of_le}
use Rattle.std.proofs.lemmas.Bool.{cases_lt}
use Rattle.std.proofs.lemmas.List.{length-map, length-replicate, get_or_append_left}
use Rattle.std.proofs.lemmas.Option.{slice_get_past, unwrap_or-slice_get}
use Rattle.std.proofs.Math.Seq.{get_or-append_seam}
use Rattle.sat_label.specs.Words.{below}
use Rattle.sat_label.proofs.Numbers.{length-below, below-get, get-map, get-front}
use Rattle.sat_tree.specs.Shape.{TreeShape}
use Rattle.sat_tree.specs.Cut.{parent_of, seat_of}
use Rattle.sat_tree.specs.Flaw.{IsSmallTree}
use Rattle.sat_delay.specs.Table.{DelayTable, IsWithinLimits}
use Rattle.sat_delay.specs.declared.read.TheConstants.{MOST_TABLE_SITES}
use Rattle.sat_plan.specs.Config.{Config, edges, Fits}
use Rattle.sat_plan.specs.Steps.{star, undelayed, start_at, seat_cost, nearest, nearest_seats, hung, hung_tree}
use Rattle.sat_plan.proofs.SumLemmas.{least_is_least}

zeros : (n i : ℕ) → get_or (replicate n zero) i 0 ≡ 0
zeros zero i = refl
zeros (suc n) zero = refl
zeros (suc n) (suc i) = zeros n i

-- ---- one serializer

alone : (z p : ℕ) → parent_of (None ∷ []) z ≡ Some p → ⊥
unfolding parent_of
alone zero p is = cc
alone (suc z) p is = cc

seat_alone : (sites i : ℕ) → seat_of (star sites) i ≡ 0
unfolding seat_of
seat_alone sites i = unwrap_or-slice_get (replicate sites 0) i 0 ∙ zeros sites i

pub star_small : (sites : ℕ) → sites ≤ MOST_TABLE_SITES → IsSmallTree (star sites)
star_small sites few = record {
  tree = record {
    down = λ z p is. absurd (alone z p is);
    inner = λ z p is. absurd (alone z p is);
    hung = λ z some within. absurd (omega arith);
    seats = λ i. rw (seat_alone sites i) (omega arith);
  };
  some_serializer = omega arith;
  few_serializers = omega arith;
  few_seats = rw (length-replicate sites zero) (omega arith);
}

-- ---- one serializer more

parent_front : (parents : List (Option ℕ)) (q z : ℕ) → z < length parents → parent_of (parents ++ Some q ∷ []) z ≡ parent_of parents z
unfolding parent_of
parent_front parents q z under = rw (get-front parents (Some q ∷ []) z under) refl

parent_last : (parents : List (Option ℕ)) (q : ℕ) → parent_of (parents ++ Some q ∷ []) (length parents) ≡ Some q
unfolding parent_of
parent_last parents q = unwrap_or-slice_get (parents ++ Some q ∷ []) (length parents) None ∙ get_or-append_seam parents (Some q) [] None

parent_past : (parents : List (Option ℕ)) (z : ℕ) → length parents ≤ z → parent_of parents z ≡ None
unfolding parent_of
parent_past parents z past = rw (slice_get_past parents z past) refl

length-one_more : {X : Type 0} (xs : List X) (x : X) → length (xs ++ x ∷ []) ≡ suc (length xs)
length-one_more xs x = omega (arith, length-append xs (x ∷ []))

nearest_within : (d : DelayTable) (places : List ℕ) (i : ℕ) → 0 < length places → nearest d places i < length places
unfolding nearest
nearest_within d places i some = (least_is_least (seat_cost d places i) (length places) some).below

seats_within : (d : DelayTable) (parents : List (Option ℕ)) (places : List ℕ) (i : ℕ) → 0 < length places → seat_of (record { parents = parents; seats = nearest_seats d places }) i < length places
unfolding seat_of nearest_seats
seats_within d parents places i some = elim (cases_lt i d.sites) [
  | inl under ↦ rw (get-map (nearest d places) (below d.sites) i i (below-get d.sites i under)) (nearest_within d places i some)
  | inr past ↦ rw (slice_get_past (map (nearest d places) (below d.sites)) i (let l = length-map (below d.sites) (nearest d places) in omega (arith, length-below d.sites))) some
]

pub nearest_seats_length : (d : DelayTable) (places : List ℕ) → length (nearest_seats d places) ≡ d.sites
unfolding nearest_seats
nearest_seats_length d places = length-map (below d.sites) (nearest d places) ∙ length-below d.sites

pub hung_small : (d : DelayTable) (c : Config) (q p : ℕ) → IsWithinLimits d → IsSmallTree c.tree → length c.places ≡ length c.tree.parents → length c.tree.parents ≤ 14 → q < length c.tree.parents → IsSmallTree (hung_tree d c q p)
hung_small d c q p limits small one_each room within = record {
  tree = record {
    down = λ z r is. down z r is;
    inner = λ z r is. inner z r is;
    hung = λ z some under. hung_on z some under;
    seats = λ i. let count = length-one_more c.tree.parents (Some q) in let places = length-one_more c.places p in let seat = seats_within d (c.tree.parents ++ Some q ∷ []) (c.places ++ p ∷ []) i (omega arith) in omega arith;
  };
  some_serializer = let count = length-one_more c.tree.parents (Some q) in omega arith;
  few_serializers = let count = length-one_more c.tree.parents (Some q) in omega arith;
  few_seats = rw (nearest_seats_length d (c.places ++ p ∷ [])) (let few = limits.few_sites in omega arith);
}
  where
    now : List (Option ℕ)
    now = c.tree.parents ++ Some q ∷ []

    by_place : (z : ℕ) → (z < length c.tree.parents) ⊎ ((z ≡ length c.tree.parents) ⊎ (length now ≤ z))
    by_place z = elim (cases_lt z (length c.tree.parents)) [
      | inl under ↦ inl under
      | inr past ↦ elim (eq-or-lt_of_le past) [ inl same ↦ inr (inl (sym same)) | inr over ↦ inr (inr (let count = length-one_more c.tree.parents (Some q) in omega arith)) ]
    ]

    down : (z r : ℕ) → parent_of now z ≡ Some r → r < z
    down z r is = elim (by_place z) [
      | inl under ↦ small.tree.down z r (sym (parent_front c.tree.parents q z under) ∙ is)
      | inr rest ↦ elim rest [
        | inl same ↦ let last = parent_last c.tree.parents q in let e : Some q ≡ Some r = sym last ∙ ap (parent_of now) (sym same) ∙ is in let f : q ≡ r = cc in omega arith
        | inr past ↦ absurd (let none = parent_past now z past in cc)
      ]
    ]

    inner : (z r : ℕ) → parent_of now z ≡ Some r → z < length now
    inner z r is = elim (cases_lt z (length now)) [ inl under ↦ under | inr past ↦ absurd (let none = parent_past now z past in cc) ]

    hung_on : (z : ℕ) → 0 < z → z < length now → (r : ℕ) × (parent_of now z ≡ Some r)
    hung_on z some under = elim (by_place z) [
      | inl below ↦ let found = small.tree.hung z some below in (found.0, parent_front c.tree.parents q z below ∙ found.1)
      | inr rest ↦ elim rest [
        | inl same ↦ (q, ap (parent_of now) same ∙ parent_last c.tree.parents q)
        | inr past ↦ absurd (omega arith)
      ]
    ]

-- ---- they fit the table

pub undelayed_fits : (d : DelayTable) (t : TreeShape) (places : List ℕ) → length t.seats ≡ d.sites → length places ≡ length t.parents → ((z : ℕ) → z < length places → slice_index places z < d.places) → Fits d (undelayed t places)
unfolding undelayed
undelayed_fits d t places seats one_each placed = record {
  seats = seats;
  one_each = one_each;
  placed = placed;
  edges = length-replicate (length (edges t)) zero;
  prompt = λ e. rw (zeros (length (edges t)) e) (omega arith);
}

pub start_fits : (d : DelayTable) (p : ℕ) → p < d.places → Fits d (start_at d p)
unfolding start_at
start_fits d p within = undelayed_fits d (star d.sites) (p ∷ []) (length-replicate d.sites zero) refl (λ z under. first z under)
  where
    first : (z : ℕ) → z < length (p ∷ []) → slice_index (p ∷ []) z < d.places
    first zero under = within
    first (suc z) under = absurd (omega arith)

pub placed_more : (places : List ℕ) (p most : ℕ) → p < most → ((z : ℕ) → z < length places → slice_index places z < most) → (z : ℕ) → z < length (places ++ p ∷ []) → slice_index (places ++ p ∷ []) z < most
placed_more places p most within placed z under = elim (cases_lt z (length places)) [
  | inl front ↦ rw (get_or_append_left places (p ∷ []) 0 z front) (placed z front)
  | inr past ↦ let e : z ≡ length places = let count = length-one_more places p in omega arith in rw (e, get_or-append_seam places p [] 0) within
]

pub hung_fits : (d : DelayTable) (c : Config) (q p : ℕ) → Fits d c → p < d.places → Fits d (hung d c q p)
unfolding hung
hung_fits d c q p fits within =
    undelayed_fits d (hung_tree d c q p) (c.places ++ p ∷ []) (nearest_seats_length d (c.places ++ p ∷ []))
    (let a = length-one_more c.tree.parents (Some q) in let b = length-one_more c.places p in let e = fits.one_each in omega arith)
    (placed_more c.places p d.places within fits.placed)

pub hung_count : (d : DelayTable) (c : Config) (q p : ℕ) → length (hung d c q p).tree.parents ≡ suc (length c.tree.parents)
unfolding hung undelayed
hung_count d c q p = length-one_more c.tree.parents (Some q)

pub small_from : (d : DelayTable) (c : Config) (q p : ℕ) (parents : List (Option ℕ)) (seats places : List ℕ) → parents ≡ c.tree.parents ++ Some q ∷ [] → seats ≡ nearest_seats d places → places ≡ c.places ++ p ∷ [] → IsWithinLimits d → IsSmallTree c.tree → length c.places ≡ length c.tree.parents → length c.tree.parents ≤ 14 → q < length c.tree.parents → IsSmallTree (record { parents = parents; seats = seats })
small_from d c q p parents seats places hangs sits stands limits small one_each room within = rw (hangs, sits, stands) (hung_small d c q p limits small one_each room within)

pub hung_from : (d : DelayTable) (c next : Config) (q p : ℕ) (tree : TreeShape) (parents : List (Option ℕ)) (seats places : List ℕ) → next ≡ undelayed tree places → tree ≡ record { parents = parents; seats = seats } → parents ≡ c.tree.parents ++ Some q ∷ [] → seats ≡ nearest_seats d places → places ≡ c.places ++ p ∷ [] → next ≡ hung d c q p
unfolding hung
hung_from d c next q p tree parents seats places is shape hangs sits stands = is ∙ rw (shape, hangs, sits, stands) refl
