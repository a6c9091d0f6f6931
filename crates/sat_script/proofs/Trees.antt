-- The tree of a plan's line.
use Rattle.std.proofs.Common.{◌≡◌, ℕ, suc, ◌+◌, ◌<◌, ◌≤◌, Bool, true, false, ◌&&◌, eqb, ltb, List, [], ◌∷◌, length, map, Option, Some, None, Result, Ok, Err, MatchOption, is_none, sym, ap, ◌∙◌, refl, subst, arith}
use Rattle.std.proofs.lemmas.Bool.{and_from, and_parts, eq-eqb, eqb-true, false_from_ne_true, lt-ltb}
use Rattle.std.proofs.lemmas.List.{length-map}
use Rattle.std.proofs.lemmas.Simd.{map-map}
use Rattle.std.specs.List.{slice_get, list_all}
use Rattle.std.specs.Prelude.{unwrap_or, IfOk, IsOkUnless}
use Rattle.std.specs.Result.{IsErrOf}
use Rattle.sat_label.proofs.Numbers.{get-map}
use Rattle.sat_tree.specs.Cut.{IsTree, parent_of, seat_of}
use Rattle.sat_tree.specs.Flaw.{tree_flaw, IsSmallTree}
use Rattle.sat_tree.specs.Shape.{TreeShape}
use Rattle.sat_tree.specs.declared.fault.TreeFault.{TreeFault}
use Rattle.sat_tree.specs.declared.fault.TreeFault.TheVariants.{Memory}
use Rattle.sat_tree.proofs.Small.{small_tree, no_flaw as flawless}
use Rattle.sat_script.specs.Grammar.{is_tree, tree_in, tree_on, parent_number}
use Rattle.sat_script.specs.Words.{value_of, are_below}
use Rattle.sat_script.specs.declared.limits.TheConstants.{MOST_SITES}

pub seats_differ : (sites : ℕ) (t : TreeShape) → eqb (length t.seats) sites ≡ false → is_tree sites t ≡ false
unfolding is_tree
seats_differ sites t other = ap (λ b. is_none (tree_flaw t) && b) other ∙ go (is_none (tree_flaw t))
  where
    go : (b : Bool) → (b && false) ≡ false
    go true = refl
    go false = refl

has_flaw : (sites : ℕ) (t : TreeShape) (fault : TreeFault) → tree_flaw t ≡ Some fault → is_tree sites t ≡ false
unfolding is_tree
has_flaw sites t fault flaw = rw flaw refl

no_flaw : (sites : ℕ) (t : TreeShape) → tree_flaw t ≡ None → eqb (length t.seats) sites ≡ true → is_tree sites t ≡ true
unfolding is_tree
no_flaw sites t flaw seats = rw (flaw, seats) refl

-- what `Tree::new` answered
pub made_tree : (sites : ℕ) (t tree : TreeShape) (r : Result TreeShape TreeFault) → r ≡ Ok tree → IfOk r (λ x. x ≡ t) → MatchOption (tree_flaw t) (IsOkUnless r Memory) (λ fault. IsErrOf r fault) → eqb (length t.seats) sites ≡ true
    → (tree ≡ t) × (is_tree sites t ≡ true)
made_tree sites t tree r is made flaw seats = go (tree_flaw t) refl flaw
  where
    same : tree ≡ t
    same = subst (λ (r : Result TreeShape TreeFault). IfOk r (λ x. x ≡ t)) is made

    go : (o : Option TreeFault) → tree_flaw t ≡ o → MatchOption o (IsOkUnless r Memory) (λ fault. IsErrOf r fault) → (tree ≡ t) × (is_tree sites t ≡ true)
    go None e h = (same, no_flaw sites t e seats)
    go (Some fault) e h = absurd (let never : Ok tree ≡ Err fault = sym is ∙ h in cc)

pub flawed_tree : (sites : ℕ) (t : TreeShape) (fault : TreeFault) (r : Result TreeShape TreeFault) → r ≡ Err fault → MatchOption (tree_flaw t) (IsOkUnless r Memory) (λ fault. IsErrOf r fault) → (fault ≡ Memory → ⊥) → is_tree sites t ≡ false
flawed_tree sites t fault r is flaw other = go (tree_flaw t) refl flaw
  where
    go : (o : Option TreeFault) → tree_flaw t ≡ o → MatchOption o (IsOkUnless r Memory) (λ fault. IsErrOf r fault) → is_tree sites t ≡ false
    go None e h = absurd (other (subst (λ (r : Result TreeShape TreeFault). IsOkUnless r Memory) is h))
    go (Some found) e h = has_flaw sites t found e

-- ---- a tree of a plan's line

pub tree_is : (sites : ℕ) (t : TreeShape) → is_tree sites t ≡ true → (tree_flaw t ≡ None) × (length t.seats ≡ sites)
unfolding is_tree
tree_is sites t h =
    let b = and_parts (is_none (tree_flaw t)) (eqb (length t.seats) sites) h in
    (no_value (tree_flaw t) b.0, eqb-true (length t.seats) sites b.1)
  where
    no_value : {X : Type 0} (o : Option X) → is_none o ≡ true → o ≡ None
    no_value None e = refl
    no_value (Some x) e = absurd (cc)

-- it is small, with a seat for each site
pub tree_small : (sites : ℕ) (t : TreeShape) → is_tree sites t ≡ true → sites ≤ MOST_SITES → IsSmallTree t × (length t.seats ≡ sites)
tree_small sites t h few =
    let is = tree_is sites t h in
    (small_tree t is.0 (omega (arith, is.1)), is.1)

pub tree_fits : (sites : ℕ) (t : TreeShape) → IsSmallTree t → length t.seats ≡ sites → is_tree sites t ≡ true
tree_fits sites t is seats = no_flaw sites t (flawless t is) (eq-eqb (length t.seats) sites seats)

-- what isn't small is none
no_tree : (sites : ℕ) (t : TreeShape) → sites ≤ MOST_SITES → (IsSmallTree t → ⊥) → is_tree sites t ≡ false
no_tree sites t few never = false_from_ne_true (is_tree sites t) (λ h. never (tree_small sites t h few).0)

parents_length : (parents seats : List (List ℕ)) → length (tree_in parents seats).parents ≡ length parents
unfolding tree_in
parents_length [] seats = refl
parents_length (root ∷ words) seats = ap suc (length-map words parent_number)

pub long_line : (sites : ℕ) (parents seats : List (List ℕ)) → sites ≤ MOST_SITES → 15 < length parents → is_tree sites (tree_in parents seats) ≡ false
long_line sites parents seats few many = no_tree sites (tree_in parents seats) few (λ is. omega (arith, is.few_serializers, parents_length parents seats))

pub empty_line : (sites : ℕ) (seats : List (List ℕ)) → sites ≤ MOST_SITES → is_tree sites (tree_in [] seats) ≡ false
empty_line sites seats few = no_tree sites (tree_in [] seats) few (λ is. omega (arith, is.some_serializer, parents_length [] seats))

all_from : {X : Type 0} (p : X → Bool) (xs : List X) → ((k : ℕ) (x : X) → slice_get xs k ≡ Some x → p x ≡ true) → list_all p xs ≡ true
all_from p [] h = refl
all_from p (x ∷ xs) h = and_from (p x) (list_all p xs) (h 0 x refl) (all_from p xs (λ k y at. h (suc k) y at))

pub seats_below : (t : TreeShape) (words : List (List ℕ)) → IsTree t → t.seats ≡ map value_of words → are_below (length t.parents) words ≡ true
unfolding seat_of
seats_below t words is seats = all_from (λ word. ltb (value_of word) (length t.parents)) words (λ k w at.
    let value : seat_of t k ≡ value_of w = ap (λ (o : Option ℕ). unwrap_or o 0) (ap (λ (xs : List ℕ). slice_get xs k) seats ∙ get-map value_of words k w at) in
    let low = is.seats k in
    lt-ltb (value_of w) (length t.parents) (omega arith))

pub parents_below : (t : TreeShape) (words : List (List ℕ)) → IsTree t → t.parents ≡ None ∷ map parent_number words → are_below (length t.parents) words ≡ true
unfolding parent_of
parents_below t words is parents = all_from (λ word. ltb (value_of word) (length t.parents)) words (λ k w at.
    let value : parent_of t.parents (suc k) ≡ Some (value_of w) =
    ap (λ (ps : List (Option ℕ)). parent_of ps (suc k)) parents ∙ ap (λ (o : Option (Option ℕ)). unwrap_or o None) (get-map parent_number words k w at) in
    let low = is.down (suc k) (value_of w) value in
    let inner = is.inner (suc k) (value_of w) value in
    lt-ltb (value_of w) (length t.parents) (omega arith))

-- numbers that aren't below the number of serializers
wrong : (sites : ℕ) (words seats numbers : List (List ℕ)) → sites ≤ MOST_SITES → (IsTree (tree_on words seats) → are_below (length (tree_on words seats).parents) numbers ≡ true) → are_below (length words + 1) numbers ≡ false
    → is_tree sites (tree_on words seats) ≡ false
wrong sites words seats numbers few below none = no_tree sites (tree_on words seats) few (λ is.
    let count : length (tree_on words seats).parents ≡ length words + 1 = omega (arith, length-map words parent_number) in
    let never : true ≡ false = sym (below is.tree) ∙ ap (λ n. are_below n numbers) count ∙ none in cc)

pub wrong_parents : (sites : ℕ) (words seats : List (List ℕ)) → sites ≤ MOST_SITES → are_below (length words + 1) words ≡ false → is_tree sites (tree_on words seats) ≡ false
wrong_parents sites words seats few none = wrong sites words seats words few (λ is. parents_below (tree_on words seats) words is refl) none

pub wrong_seats : (sites : ℕ) (words seats : List (List ℕ)) → sites ≤ MOST_SITES → are_below (length words + 1) seats ≡ false → is_tree sites (tree_on words seats) ≡ false
wrong_seats sites words seats few none = wrong sites words seats seats few (λ is. seats_below (tree_on words seats) seats is refl) none

pub tree_named : (words seats : List (List ℕ)) (parents : List (Option ℕ)) (numbers sites : List ℕ) → numbers ≡ map value_of words → parents ≡ None ∷ map Some numbers → sites ≡ map value_of seats
    → (let t : TreeShape = record { parents = parents; seats = sites } in t) ≡ tree_on words seats
tree_named words seats parents numbers sites n p q =
    let parents_are : parents ≡ None ∷ map parent_number words = p ∙ ap (λ (ns : List ℕ). None ∷ map Some ns) n ∙ ap (λ (ps : List (Option ℕ)). None ∷ ps) (map-map Some value_of words) in
    ap (λ (ps : List (Option ℕ)). (let t : TreeShape = record { parents = ps; seats = sites } in t)) parents_are
    ∙ ap (λ (ss : List ℕ). (let t : TreeShape = record { parents = None ∷ map parent_number words; seats = ss } in t)) q
