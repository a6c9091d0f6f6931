-- What is read of a tree is one.
use Rattle.std.proofs.Common.{ℕ, zero, suc, ◌≡◌, ◌<◌, ◌≤◌, ◌+◌, inl, inr, Bool, true, false, nat_lt, if◌then◌else◌, List, [], ◌∷◌, length, map, get_or, Option, Some, None, is_some, Result, Ok, Err, refl, arith, ◌∙◌, subst, add-one}
use Rattle.std.proofs.lemmas.Bool.{cases_lt}
use Rattle.std.proofs.lemmas.Bool.Decides.{nat_tests}
use Rattle.std.proofs.lemmas.List.{length-map, get_or_past}
use Rattle.std.proofs.lemmas.Option.{unwrap_or-slice_get, slice_get_past}
use Rattle.serde_json.specs.Data.{Data}
use Rattle.serde_json.specs.Find.{get}
use Rattle.sat_tree.specs.Cut.{parent_of, seat_of}
use Rattle.sat_tree.specs.Flaw.{IsSmallTree}
use Rattle.sat_delay.specs.declared.fault.DelayFault.{DelayFault}
use Rattle.sat_delay.specs.declared.fault.Place.{Place}
use Rattle.sat_delay.specs.declared.read.TheConstants.{MOST_TABLE_SITES}
use Rattle.sat_delay.specs.Table.{DelayTable}
use Rattle.sat_delay.specs.Reading.{key_name, place_at, and_then, ended, item_at}
use Rattle.sat_delay.proofs.Gathered.{IsGathered, is_gathered}
use Rattle.sat_delay.proofs.Shapes.{number_most}
use Rattle.sat_place.specs.Shape.{Shape, row_number, rows_of, rows_among, own_row, seat_bound, is_list, parents_of, seats_of, tree_with, shape_with, shape_of}

-- ---- rows

pub among_start : (list : Option Data) → rows_among list 0 ≡ 0
unfolding rows_among
among_start list = refl

pub among_more : (list : Option Data) (n : ℕ) → rows_among list (n + 1) ≡ rows_among list n + (if is_some (item_at n list) then 1 else 0)
unfolding rows_among
among_more list n = rw (add-one, rows_among) refl

pub among_few : (list : Option Data) (n : ℕ) → rows_among list n ≤ n
unfolding rows_among
among_few list zero = omega arith
among_few list (suc n) = go (is_some (item_at n list)) refl (among_few list n)
  where
    go : (b : Bool) → is_some (item_at n list) ≡ b → rows_among list n ≤ n → rows_among list n + (if is_some (item_at n list) then 1 else 0) ≤ suc n
    go true is few = rw is (omega arith)
    go false is few = rw is (omega arith)

before_end : {X : Type 0} (place : Place) (more : Option Data) (r : Result X DelayFault) (x : X) → ended place more r ≡ Ok x → r ≡ Ok x
before_end place more (Err fault) x e = absurd (cc)
before_end place None (Ok y) x e = e
before_end place (Some d) (Ok y) x e = absurd (cc)

rows_are : (key : ℕ) (most : ℕ → ℕ) (count : ℕ) (list : Option Data) (xs : List ℕ) → rows_of key most count list ≡ Ok xs → IsGathered (row_number key most list) count xs
unfolding rows_of
rows_are key most count list xs e = is_gathered (row_number key most list) count xs (before_end _ _ _ xs e)

row_most : (key : ℕ) (most : ℕ → ℕ) (count k : ℕ) (list : Option Data) (xs : List ℕ) → IsGathered (row_number key most list) count xs → k < count → get_or xs k 0 ≤ most k
unfolding row_number
row_most key most count k list xs are under = number_most (place_at key k 0) (most k) (get_or xs k 0) (item_at k list) (are.parts k 0 under)

-- what is read of the parents: at most 5, each of a lower number than its serializer
pub record AreParents (parents : List ℕ) : Type 0 where
  pub few : length parents ≤ 5
  pub low : (k : ℕ) → k < length parents → get_or parents k 0 ≤ k

gathered_parents : (list : Option Data) (parents : List ℕ) → IsGathered (row_number 6 own_row list) (rows_among list 5) parents → AreParents parents
gathered_parents list parents are = record {
  few = let whole = are.whole in let few = among_few list 5 in omega arith;
  low = λ k under. row_most 6 own_row (rows_among list 5) k list parents are (let whole = are.whole in omega arith);
}

pub parents_are : (list : Option Data) (parents : List ℕ) → parents_of list ≡ Ok parents → AreParents parents
unfolding parents_of
parents_are list parents e = go (is_list list) refl
  where
    go : (b : Bool) → is_list list ≡ b → AreParents parents
    go true is = gathered_parents list parents (rows_are 6 own_row (rows_among list 5) list parents (let same : rows_of 6 own_row (rows_among list 5) list ≡ Ok parents = rw is at e in same))
    go false is = absurd (let bad : Err (Rattle.sat_delay.specs.declared.fault.DelayFault.TheVariants.BadShape (place_at 6 0 0)) ≡ Ok parents = rw is at e in cc)

-- what is read of the seats: one for each site, each at most the number of parents
pub record AreSeats (parents sites : ℕ) (seats : List ℕ) : Type 0 where
  pub whole : length seats ≡ sites
  pub low : (k : ℕ) → k < length seats → get_or seats k 0 ≤ parents

pub seats_are : (parents sites : ℕ) (list : Option Data) (seats : List ℕ) → seats_of parents sites list ≡ Ok seats → AreSeats parents sites seats
unfolding seats_of
seats_are parents sites list seats e = go (rows_are 7 (seat_bound parents) sites list seats e)
  where
    go : IsGathered (row_number 7 (seat_bound parents) list) sites seats → AreSeats parents sites seats
    go are = record {
      whole = are.whole;
      low = λ k under. row_most 7 (seat_bound parents) sites k list seats are (let whole = are.whole in omega arith);
    }

-- ---- the tree

get_some : (parents : List ℕ) (z : ℕ) → z < length parents → get_or (map Some parents) z None ≡ Some (get_or parents z 0)
get_some [] z under = absurd (omega arith)
get_some (p ∷ ps) zero under = refl
get_some (p ∷ ps) (suc z) under = get_some ps z (omega arith)

parent_some : (parents : List ℕ) (z : ℕ) → z < length parents → parent_of (None ∷ map Some parents) (suc z) ≡ Some (get_or parents z 0)
unfolding parent_of
parent_some parents z under = unwrap_or-slice_get (None ∷ map Some parents) (suc z) None ∙ get_some parents z under

parent_past : (parents : List ℕ) (z : ℕ) → length parents ≤ z → parent_of (None ∷ map Some parents) (suc z) ≡ None
unfolding parent_of
parent_past parents z past = rw (slice_get_past (None ∷ map Some parents) (suc z) (let l = length-map parents Some in omega arith)) refl

parent_first : (parents : List ℕ) → parent_of (None ∷ map Some parents) 0 ≡ None
unfolding parent_of
parent_first parents = refl

seat_at : (parents seats : List ℕ) (i : ℕ) → seat_of (tree_with parents seats) i ≡ get_or seats i 0
unfolding seat_of
seat_at parents seats i = unwrap_or-slice_get seats i 0

pub small_tree : (parents seats : List ℕ) (sites : ℕ) → sites ≤ MOST_TABLE_SITES → AreParents parents → AreSeats (length parents) sites seats → IsSmallTree (tree_with parents seats)
small_tree parents seats sites limit are sit = record {
  tree = record { down = down; inner = inner; hung = hung; seats = sat };
  some_serializer = omega arith;
  few_serializers = let few = are.few in let l = length-map parents Some in omega arith;
  few_seats = let whole = sit.whole in omega arith;
}
  where
    down : (z p : ℕ) → parent_of (None ∷ map Some parents) z ≡ Some p → p < z
    down zero p is = absurd (let none = parent_first parents in cc)
    down (suc z) p is = elim (cases_lt z (length parents)) [
      | inl under ↦ let own = parent_some parents z under in let same : p ≡ get_or parents z 0 = cc in let low = are.low z under in omega arith
      | inr past ↦ absurd (let none = parent_past parents z past in cc)
    ]

    inner : (z p : ℕ) → parent_of (None ∷ map Some parents) z ≡ Some p → z < length (None ∷ map Some parents)
    inner zero p is = omega arith
    inner (suc z) p is = elim (cases_lt z (length parents)) [
      | inl under ↦ let l = length-map parents Some in omega arith
      | inr past ↦ absurd (let none = parent_past parents z past in cc)
    ]

    hung : (z : ℕ) → 0 < z → z < length (None ∷ map Some parents) → (p : ℕ) × (parent_of (None ∷ map Some parents) z ≡ Some p)
    hung zero some under = absurd (omega arith)
    hung (suc z) some under = (get_or parents z 0, parent_some parents z (let l = length-map parents Some in omega arith))

    sat : (i : ℕ) → seat_of (tree_with parents seats) i < length (None ∷ map Some parents)
    sat i = let at = seat_at parents seats i in let l = length-map parents Some in elim (cases_lt i (length seats)) [
      | inl under ↦ let low = sit.low i under in omega arith
      | inr past ↦ let none = get_or_past seats i 0 past in omega arith
    ]

-- what is read with a table fits it
pub record Suits (s : Shape) : Type 0 where
  pub seats : length s.tree.seats ≡ s.table.sites
  pub serializers : length s.tree.parents ≤ 6
  pub places : s.table.places ≤ 8

pub suits : (table : DelayTable) (input : Data) (s : Shape) → shape_of table input ≡ Ok s → Suits s
unfolding shape_of
suits table input s e = go (nat_lt 8 table.places) refl (parents_of (get (key_name 6) input)) refl
  where
    done : (parents seats : List ℕ) → table.places ≤ 8 → AreParents parents → AreSeats (length parents) table.sites seats → shape_with table parents seats ≡ s → Suits s
    done parents seats small are sit is = subst Suits is (record { seats = sit.whole; serializers = let few = are.few in let l = length-map parents Some in omega arith; places = small })

    seated : (parents : List ℕ) (seats : Result (List ℕ) DelayFault) → table.places ≤ 8 → AreParents parents → seats_of (length parents) table.sites (get (key_name 7) input) ≡ seats → and_then seats (λ seats. Ok (shape_with table parents seats)) ≡ Ok s → Suits s
    seated parents (Ok seats) small are sit is = done parents seats small are (seats_are (length parents) table.sites (get (key_name 7) input) seats sit) (cc)
    seated parents (Err fault) small are sit is = absurd (cc)

    go : (b : Bool) → nat_lt 8 table.places ≡ b → (parents : Result (List ℕ) DelayFault) → parents_of (get (key_name 6) input) ≡ parents → Suits s
    go true big parents hang = absurd (let bad : Err (Rattle.sat_delay.specs.declared.fault.DelayFault.TheVariants.TooBig (place_at 1 0 0)) ≡ Ok s = rw big at e in cc)
    go false small (Ok parents) hang = seated parents (seats_of (length parents) table.sites (get (key_name 7) input)) (grind (arith, nat_tests)) (parents_are (get (key_name 6) input) parents hang) refl (let rest : and_then (seats_of (length parents) table.sites (get (key_name 7) input)) (λ seats. Ok (shape_with table parents seats)) ≡ Ok s = rw (small, hang) at e in rest)
    go false small (Err fault) hang = absurd (let bad : Err fault ≡ Ok s = rw (small, hang) at e in cc)
