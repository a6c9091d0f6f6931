-- Lanes of places, and of payloads.
use Rattle.std.specs.Prelude.{◌≡◌, ◌<◌, ◌+◌, ℕ, zero, suc, Bool, true, false, List, [], ◌∷◌, ◌++◌, length, get_or, take, set, map, replicate, slice_get, Option, Some, None, if◌then◌else◌, refl}
use Rattle.std.proofs.Common.{arith, ap, subst, sym, ◌∙◌, inl, inr, zero-add, ◌⊎◌}
use Rattle.std.proofs.Math.Nat.{eq-or-lt_of_le}
use Rattle.std.specs.Prelude.{IsTrue, ◌↔◌}
use Rattle.std.proofs.lemmas.Bool.{false_from_ne_true}
use Rattle.std.proofs.lemmas.Option.{slice_get-get_or}
use Rattle.std.proofs.lemmas.List.{take_more, map-append, map-set, get_or-map, get_or-set_same, get_or-set_other, length-map, length-set, append-nil, append_assoc, same_lists, get_or_default, length-append}
use Rattle.std.specs.Option.{option_to_list}
use Rattle.sat_label.proofs.Numbers.{get-front}
use Rattle.sat_queue.specs.Queued.{Queued, members_of}
use Rattle.sat_gear.specs.Lanes.{count_of, lanes_where, numbers_where, picked, AllBelow, Spread}

-- ---- a place put into the lanes of some sites

-- the lane at place i became this one
spread-set : (test : ℕ → Bool) (place i : ℕ) (old now : List (List ℕ)) (lane : List ℕ) → i < length now → Spread test place i old now →
    lane ≡ (if test i then get_or old i [] ++ place ∷ [] else get_or old i []) → Spread test place (i + 1) old (set now i lane)
spread-set test place i old now lane h s e = record {
  count = length-set now i lane ∙ s.count;
  before = λ k low. at k (eq-or-lt_of_le (omega arith));
  after = λ k high. get_or-set_other now i k lane [] (λ same. high (let e : k ≡ i = same in omega arith)) ∙ s.after k (λ low. high (omega arith));
}
  where
    at : (k : ℕ) → (k ≡ i) ⊎ (k < i) → get_or (set now i lane) k [] ≡ (if test k then get_or old k [] ++ place ∷ [] else get_or old k [])
    at k (inl same) = subst (λ (n : ℕ). get_or (set now i lane) n [] ≡ (if test n then get_or old n [] ++ place ∷ [] else get_or old n [])) (sym same) (get_or-set_same now i lane [] h ∙ e)
    at k (inr low) = get_or-set_other now i k lane [] (λ same. absurd (let e : k ≡ i = same in omega arith)) ∙ s.before k low

pub spread-more : (test : ℕ → Bool) (place i : ℕ) (old : List (List ℕ)) (lanes : List (Queued ℕ)) (q r : Queued ℕ) → i < length lanes → Spread test place i old (map members_of lanes) →
    test i ≡ true → r.members ≡ (get_or lanes i q).members ++ place ∷ [] → Spread test place (i + 1) old (map members_of (set lanes i r))
spread-more test place i old lanes q r h s passes e =
    let was : (get_or lanes i q).members ≡ get_or old i [] = sym (get_or-map members_of lanes i q [] h) ∙ s.after i (λ low. absurd (omega arith)) in
    subst (λ (now : List (List ℕ)). Spread test place (i + 1) old now) (sym (map-set members_of lanes i r))
    (spread-set test place i old (map members_of lanes) r.members (subst (λ (n : ℕ). i < n) (sym (length-map lanes members_of)) h) s
    (e ∙ (ap (λ (ns : List ℕ). ns ++ place ∷ []) was ∙ sym (ap (λ (b : Bool). if b then get_or old i [] ++ place ∷ [] else get_or old i []) passes))))

-- ---- how much the lanes hold

numbers-append : (test : ℕ → Bool) (k : ℕ) (lanes : List (List ℕ)) (lane : List ℕ) →
    numbers_where test k (lanes ++ lane ∷ []) ≡ numbers_where test k lanes ++ (if test (k + length lanes) then length lane ∷ [] else [])
numbers-append test k [] lane = ap (λ (n : ℕ). if test n then length lane ∷ [] else []) (let e : k ≡ k + 0 = omega arith in e)
numbers-append test k (l ∷ lanes) lane =
    let rest : numbers_where test (k + 1) (lanes ++ lane ∷ []) ≡ numbers_where test (k + 1) lanes ++ (if test (k + suc (length lanes)) then length lane ∷ [] else []) =
    numbers-append test (k + 1) lanes lane ∙ ap (λ (n : ℕ). numbers_where test (k + 1) lanes ++ (if test n then length lane ∷ [] else [])) (let e : (k + 1) + length lanes ≡ k + suc (length lanes) = omega arith in e) in
    go (test k) rest
  where
    go : (b : Bool) → numbers_where test (k + 1) (lanes ++ lane ∷ []) ≡ numbers_where test (k + 1) lanes ++ (if test (k + suc (length lanes)) then length lane ∷ [] else []) →
        (if b then length l ∷ numbers_where test (k + 1) (lanes ++ lane ∷ []) else numbers_where test (k + 1) (lanes ++ lane ∷ []))
        ≡ (if b then length l ∷ numbers_where test (k + 1) lanes else numbers_where test (k + 1) lanes) ++ (if test (k + suc (length lanes)) then length lane ∷ [] else [])
    go true rest = ap (λ (ns : List ℕ). length l ∷ ns) rest
    go false rest = rest

places-take : (lanes : List (Queued ℕ)) (i : ℕ) (d : Queued ℕ) → i < length lanes → map members_of (take (i + 1) lanes) ≡ map members_of (take i lanes) ++ (get_or lanes i d).members ∷ []
places-take lanes i d h = ap (λ (ls : List (Queued ℕ)). map members_of ls) (take_more lanes i d h) ∙ map-append members_of (take i lanes) (get_or lanes i d ∷ [])

length-taken : (lanes : List (Queued ℕ)) (i : ℕ) → i < length lanes → length (map members_of (take i lanes)) ≡ i
length-taken [] i h = absurd (omega arith)
length-taken (l ∷ lanes) zero h = refl
length-taken (l ∷ lanes) (suc i) h = ap suc (length-taken lanes i (omega arith))

numbers-more : (test : ℕ → Bool) (lanes : List (Queued ℕ)) (i : ℕ) (d : Queued ℕ) → i < length lanes →
    numbers_where test 0 (map members_of (take (i + 1) lanes)) ≡ numbers_where test 0 (map members_of (take i lanes)) ++ (if test i then length (get_or lanes i d).members ∷ [] else [])
numbers-more test lanes i d h =
    ap (λ (ls : List (List ℕ)). numbers_where test 0 ls) (places-take lanes i d h)
    ∙ (numbers-append test 0 (map members_of (take i lanes)) (get_or lanes i d).members
    ∙ ap (λ (n : ℕ). numbers_where test 0 (map members_of (take i lanes)) ++ (if test n then length (get_or lanes i d).members ∷ [] else [])) (let e : 0 + length (map members_of (take i lanes)) ≡ i = zero-add (length (map members_of (take i lanes))) ∙ length-taken lanes i h in e))

pub numbers-passed : (test : ℕ → Bool) (lanes : List (Queued ℕ)) (i : ℕ) (q : Queued ℕ) (ns : List ℕ) → i < length lanes → q ≡ get_or lanes i q → test i ≡ true →
    ns ≡ numbers_where test 0 (map members_of (take i lanes)) → ns ++ length q.members ∷ [] ≡ numbers_where test 0 (map members_of (take (i + 1) lanes))
numbers-passed test lanes i q ns h e passes is =
    ap (λ (ms : List ℕ). ms ++ length q.members ∷ []) is
    ∙ (ap (λ (l : Queued ℕ). numbers_where test 0 (map members_of (take i lanes)) ++ length l.members ∷ []) e
    ∙ sym (numbers-more test lanes i q h ∙ ap (λ (b : Bool). numbers_where test 0 (map members_of (take i lanes)) ++ (if b then length (get_or lanes i q).members ∷ [] else [])) passes))

pub numbers-failed : (test : ℕ → Bool) (lanes : List (Queued ℕ)) (i : ℕ) (q : Queued ℕ) (ns : List ℕ) → i < length lanes → test i ≡ false →
    ns ≡ numbers_where test 0 (map members_of (take i lanes)) → ns ≡ numbers_where test 0 (map members_of (take (i + 1) lanes))
numbers-failed test lanes i q ns h fails is =
    is ∙ sym (numbers-more test lanes i q h ∙ (ap (λ (b : Bool). numbers_where test 0 (map members_of (take i lanes)) ++ (if b then length (get_or lanes i q).members ∷ [] else [])) fails ∙ append-nil _))

-- ---- members by their places

pub slice-end : {X : Type 0} (xs : List X) (x : X) → slice_get (xs ++ x ∷ []) (length xs) ≡ Some x
slice-end [] x = refl
slice-end (y ∷ xs) x = slice-end xs x

there : {X : Type 0} (xs : List X) (k : ℕ) → k < length xs → slice_get xs k ≡ None → ⊥
there [] k h e = omega arith
there (x ∷ xs) zero h e = cc
there (x ∷ xs) (suc k) h e = there xs k (omega arith) e

-- a member of a longer list is one of the list, or the one more
pub slice-more : {X : Type 0} (xs : List X) (x y : X) (n : ℕ) → slice_get (xs ++ x ∷ []) n ≡ Some y → (slice_get xs n ≡ Some y) ⊎ (y ≡ x)
slice-more [] x y zero e = inr (sym (some-is e))
  where
    some-is : {Y : Type 0} {a b : Y} → Some a ≡ Some b → a ≡ b
    some-is e = cc
slice-more [] x y (suc n) e = absurd (cc)
slice-more (z ∷ xs) x y zero e = inl e
slice-more (z ∷ xs) x y (suc n) e = slice-more xs x y n e

-- ---- the lanes of payloads, whose places these are

-- each place in a lane is one of so many
abbrev pub AreBelow : ℕ → List ℕ → Type 0
AreBelow count ns = (n place : ℕ) → slice_get ns n ≡ Some place → place < count

pub picked-within : {X : Type 0} (made : List X) (x : X) (ns : List ℕ) → AreBelow (length made) ns → picked (made ++ x ∷ []) ns ≡ picked made ns
picked-within made x [] within = refl
picked-within {X} made x (n ∷ ns) within =
    let low : n < length made = within 0 n refl in
    ap (λ (o : Option X). option_to_list o ++ picked (made ++ x ∷ []) ns) (get-front made (x ∷ []) n low)
    ∙ ap (λ (xs : List X). option_to_list (slice_get made n) ++ xs) (picked-within made x ns (λ k place at. within (suc k) place at))

picked-append : {X : Type 0} (made : List X) (ms ns : List ℕ) → picked made (ms ++ ns) ≡ picked made ms ++ picked made ns
picked-append made [] ns = refl
picked-append {X} made (m ∷ ms) ns =
    ap (λ (xs : List X). option_to_list (slice_get made m) ++ xs) (picked-append made ms ns)
    ∙ sym (append_assoc (option_to_list (slice_get made m)) (picked made ms) (picked made ns))

picked-last : {X : Type 0} (made : List X) (x : X) → picked (made ++ x ∷ []) (length made ∷ []) ≡ x ∷ []
picked-last {X} made x = ap (λ (o : Option X). option_to_list o ++ []) (slice-end made x)

pub picked-more : {X : Type 0} (made : List X) (x : X) (ns : List ℕ) → AreBelow (length made) ns → picked (made ++ x ∷ []) (ns ++ length made ∷ []) ≡ picked made ns ++ x ∷ []
picked-more {X} made x ns within =
    picked-append (made ++ x ∷ []) ns (length made ∷ [])
    ∙ (ap (λ (xs : List X). xs ++ picked (made ++ x ∷ []) (length made ∷ [])) (picked-within made x ns within)
    ∙ ap (λ (xs : List X). picked made ns ++ xs) (picked-last made x))

pub picked-length : {X : Type 0} (made : List X) (ns : List ℕ) → AreBelow (length made) ns → length (picked made ns) ≡ length ns
picked-length made [] within = refl
picked-length {X} made (n ∷ ns) within =
    let some : slice_get made n ≡ Some (get_or made n (first made (within 0 n refl))) = slice_get-get_or made n (first made (within 0 n refl)) (within 0 n refl) in
    ap (λ (o : Option X). length (option_to_list o ++ picked made ns)) some
    ∙ ap suc (picked-length made ns (λ k place at. within (suc k) place at))
  where
    first : {X : Type 0} (xs : List X) → n < length xs → X
    first [] h = absurd (omega arith)
    first (x ∷ xs) h = x

pub picked-at : {X : Type 0} (made : List X) (ns : List ℕ) (i place : ℕ) → AreBelow (length made) ns → slice_get ns i ≡ Some place → slice_get (picked made ns) i ≡ slice_get made place
picked-at made [] i place within at = absurd (cc)
picked-at {X} made (n ∷ ns) zero place within at =
    let e : n ≡ place = cc in
    let low : n < length made = within 0 n refl in
    go (slice_get made n) refl low ∙ ap (λ (m : ℕ). slice_get made m) e
  where
    go : (o : Option X) → slice_get made n ≡ o → n < length made → slice_get (option_to_list (slice_get made n) ++ picked made ns) 0 ≡ slice_get made n
    go (Some x) is low = rw is refl
    go None is low = absurd (there made n low is)
picked-at {X} made (n ∷ ns) (suc i) place within at =
    let low : n < length made = within 0 n refl in
    go (slice_get made n) refl low (picked-at made ns i place (λ k p e. within (suc k) p e) at)
  where
    go : (o : Option X) → slice_get made n ≡ o → n < length made → slice_get (picked made ns) i ≡ slice_get made place → slice_get (option_to_list (slice_get made n) ++ picked made ns) (suc i) ≡ slice_get made place
    go (Some x) is low rest = rw is rest
    go None is low rest = absurd (there made n low is)

pub picked-none : {X : Type 0} (made : List X) (ns : List ℕ) (i : ℕ) → AreBelow (length made) ns → slice_get ns i ≡ None → slice_get (picked made ns) i ≡ None
picked-none made [] zero within none = refl
picked-none made [] (suc i) within none = refl
picked-none made (n ∷ ns) zero within none = absurd (cc)
picked-none {X} made (n ∷ ns) (suc i) within none =
    let low : n < length made = within 0 n refl in
    go (slice_get made n) refl low (picked-none made ns i (λ k p e. within (suc k) p e) none)
  where
    go : (o : Option X) → slice_get made n ≡ o → n < length made → slice_get (picked made ns) i ≡ None → slice_get (option_to_list (slice_get made n) ++ picked made ns) (suc i) ≡ None
    go (Some x) is low rest = rw is rest
    go None is low rest = absurd (there made n low is)

-- ---- all lanes

pub less-or-not : (k n : ℕ) → (k < n) ⊎ (k < n → ⊥)
less-or-not k zero = inr (λ h. omega arith)
less-or-not zero (suc n) = inl (omega arith)
less-or-not (suc k) (suc n) = elim (less-or-not k n) [
  | inl low ↦ inl (omega arith)
  | inr high ↦ inr (λ h. high (omega arith))
]

pub lanes-get : {X : Type 0} (test : ℕ → Bool) (x : X) (k : ℕ) (lanes : List (List X)) (j : ℕ) → j < length lanes →
    get_or (lanes_where test x k lanes) j [] ≡ (if test (k + j) then get_or lanes j [] ++ x ∷ [] else get_or lanes j [])
lanes-get test x k [] j h = absurd (omega arith)
lanes-get test x k (lane ∷ lanes) zero h = ap (λ (n : ℕ). if test n then lane ++ x ∷ [] else lane) (let e : k ≡ k + 0 = omega arith in e)
lanes-get test x k (lane ∷ lanes) (suc j) h =
    lanes-get test x (k + 1) lanes j (omega arith)
    ∙ ap (λ (n : ℕ). if test n then get_or lanes j [] ++ x ∷ [] else get_or lanes j []) (let e : (k + 1) + j ≡ k + suc j = omega arith in e)

pub lanes-length : {X : Type 0} (test : ℕ → Bool) (x : X) (k : ℕ) (lanes : List (List X)) → length (lanes_where test x k lanes) ≡ length lanes
lanes-length test x k [] = refl
lanes-length test x k (lane ∷ lanes) = ap suc (lanes-length test x (k + 1) lanes)

-- the lanes' first numbers
pub numbers_picked : {X : Type 0} (made : List X) (test : ℕ → Bool) (k : ℕ) (lanes : List (List ℕ)) → AllBelow (length made) lanes →
    numbers_where test k (map (picked made) lanes) ≡ numbers_where test k lanes
numbers_picked made test k [] within = refl
numbers_picked {X} made test k (lane ∷ lanes) within =
    let rest : numbers_where test (k + 1) (map (picked made) lanes) ≡ numbers_where test (k + 1) lanes = numbers_picked made test (k + 1) lanes (λ j n place at. within (suc j) n place at) in
    let here : length (picked made lane) ≡ length lane = picked-length made lane (λ n place at. within 0 n place at) in
    ap (λ (n : ℕ). if test k then n ∷ numbers_where test (k + 1) (map (picked made) lanes) else numbers_where test (k + 1) (map (picked made) lanes)) here
    ∙ ap (λ (ns : List ℕ). if test k then length lane ∷ ns else ns) rest

-- where the set has no site, each stays
pub none_passes : {X : Type 0} (test : ℕ → Bool) (x : X) (k : ℕ) (lanes : List (List X)) → ((n : ℕ) → test n ≡ true → ⊥) → lanes ≡ lanes_where test x k lanes
none_passes test x k [] none = refl
none_passes {X} test x k (lane ∷ lanes) none = rw (false_from_ne_true (test k) (none k)) (ap (λ (ls : List (List X)). lane ∷ ls) (none_passes test x (k + 1) lanes none))

pub none_meets : (b : Bool) (test : ℕ → Bool) → (IsTrue b ↔ ((k : ℕ) × (test k ≡ true) × (test k ≡ true))) → b ≡ false → (n : ℕ) → test n ≡ true → ⊥
none_meets b test both none n e = let meets : b ≡ true = both.1 (n, e, e) in absurd (cc)

pub counts_picked : {X : Type 0} (made : List X) (lanes : List (List ℕ)) → AllBelow (length made) lanes → map count_of (map (picked made) lanes) ≡ map count_of lanes
counts_picked made [] within = refl
counts_picked made (lane ∷ lanes) within =
    ap (λ (n : ℕ). n ∷ map count_of (map (picked made) lanes)) (picked-length made lane (λ n place at. within 0 n place at))
    ∙ ap (λ (ns : List ℕ). length lane ∷ ns) (counts_picked made lanes (λ j n place at. within (suc j) n place at))

map-get : {X : Type 0} (made : List X) (lanes : List (List ℕ)) (j : ℕ) → get_or (map (picked made) lanes) j [] ≡ picked made (get_or lanes j [])
map-get made [] j = refl
map-get made (lane ∷ lanes) zero = refl
map-get made (lane ∷ lanes) (suc j) = map-get made lanes j

-- a payload more, with its place in the lanes of some sites
pub added : {X : Type 0} (made : List X) (x : X) (test : ℕ → Bool) (old new : List (List ℕ)) → AllBelow (length made) old → Spread test (length made) (length old) old new →
    map (picked (made ++ x ∷ [])) new ≡ lanes_where test x 0 (map (picked made) old)
added {X} made x test old new within s =
    same_lists (map (picked (made ++ x ∷ [])) new) (lanes_where test x 0 (map (picked made) old)) sizes
    (λ j d low. get_or_default (map (picked (made ++ x ∷ [])) new) j d [] low ∙ (at j (subst (λ (n : ℕ). j < n) (length-map new (picked (made ++ x ∷ [])) ∙ s.count) low)
    ∙ sym (get_or_default (lanes_where test x 0 (map (picked made) old)) j d [] (subst (λ (n : ℕ). j < n) sizes low))))
  where
    sizes : length (map (picked (made ++ x ∷ [])) new) ≡ length (lanes_where test x 0 (map (picked made) old))
    sizes = length-map new (picked (made ++ x ∷ [])) ∙ (s.count ∙ (sym (length-map old (picked made)) ∙ sym (lanes-length test x 0 (map (picked made) old))))

    both : (j : ℕ) (b : Bool) → test j ≡ b → j < length old → picked (made ++ x ∷ []) (get_or new j []) ≡ (if b then picked made (get_or old j []) ++ x ∷ [] else picked made (get_or old j []))
    both j true passes low =
        ap (λ (ns : List ℕ). picked (made ++ x ∷ []) ns) (s.before j low ∙ ap (λ (b : Bool). if b then get_or old j [] ++ length made ∷ [] else get_or old j []) passes)
        ∙ picked-more made x (get_or old j []) (within j)
    both j false fails low =
        ap (λ (ns : List ℕ). picked (made ++ x ∷ []) ns) (s.before j low ∙ ap (λ (b : Bool). if b then get_or old j [] ++ length made ∷ [] else get_or old j []) fails)
        ∙ picked-within made x (get_or old j []) (within j)

    at : (j : ℕ) → j < length old → get_or (map (picked (made ++ x ∷ [])) new) j [] ≡ get_or (lanes_where test x 0 (map (picked made) old)) j []
    at j low =
        map-get (made ++ x ∷ []) new j ∙ (both j (test j) refl low
        ∙ (ap (λ (xs : List X). if test j then xs ++ x ∷ [] else xs) (sym (map-get made old j))
        ∙ sym (lanes-get test x 0 (map (picked made) old) j (subst (λ (n : ℕ). j < n) (sym (length-map old (picked made))) low) ∙ ap (λ (n : ℕ). if test n then get_or (map (picked made) old) j [] ++ x ∷ [] else get_or (map (picked made) old) j []) (zero-add j))))

-- its place is one of one more
pub added_below : (count : ℕ) (test : ℕ → Bool) (old new : List (List ℕ)) → AllBelow count old → Spread test count (length old) old new → AllBelow (count + 1) new
added_below count test old new within s k n place at = elim (less-or-not k (length old)) [
  | inl low ↦ go (test k) refl low (s.before k low)
  | inr high ↦ (let b : place < count = within k n place (subst (λ (ns : List ℕ). slice_get ns n ≡ Some place) (s.after k high) at) in omega arith)
]
  where
    go : (b : Bool) → test k ≡ b → k < length old → get_or new k [] ≡ (if test k then get_or old k [] ++ count ∷ [] else get_or old k []) → place < count + 1
    go true passes low e = elim (slice-more (get_or old k []) count place n (subst (λ (ns : List ℕ). slice_get ns n ≡ Some place) (e ∙ ap (λ (b : Bool). if b then get_or old k [] ++ count ∷ [] else get_or old k []) passes) at)) [
      | inl is ↦ (let b : place < count = within k n place is in omega arith)
      | inr same ↦ (let e : place ≡ count = same in omega arith)
    ]
    go false fails low e = let b : place < count = within k n place (subst (λ (ns : List ℕ). slice_get ns n ≡ Some place) (e ∙ ap (λ (b : Bool). if b then get_or old k [] ++ count ∷ [] else get_or old k []) fails) at) in omega arith

pub none_below : (count n : ℕ) → AllBelow count (replicate n [])
none_below count zero k m place at = absurd (cc)
none_below count (suc n) zero m place at = absurd (cc)
none_below count (suc n) (suc k) m place at = none_below count n k m place at

-- what a payload more does: to the places, and to the lanes that they stand for
pub record Adds {X : Type 0} (made : List X) (places : List (List ℕ)) (view : List (List X)) : Type 0 where
  pub below : AllBelow (length made) places
  pub lanes : map (picked made) places ≡ view

pub adds : {X : Type 0} (made full : List X) (x : X) (test : ℕ → Bool) (place n : ℕ) (old before after new : List (List ℕ)) (view : List (List X)) →
    map (picked made) old ≡ view → AllBelow (length made) old → full ≡ made ++ x ∷ [] → before ≡ old → new ≡ after → place ≡ length made → n ≡ length before →
    Spread test place n before after → Adds full new (lanes_where test x 0 view)
adds {X} made full x test place n old before after new view is below whole was last here size s =
    let one : Spread test (length made) (length before) before after = subst (λ (k : ℕ). Spread test k (length before) before after) here (subst (λ (k : ℕ). Spread test place k before after) size s) in
    let two : Spread test (length made) (length old) old new =
    subst (λ (ls : List (List ℕ)). Spread test (length made) (length old) old ls) (sym last) (subst (λ (ls : List (List ℕ)). Spread test (length made) (length ls) ls after) was one) in
    let more : length made + 1 ≡ length full = sym (ap length whole ∙ length-append made (x ∷ [])) in
    record {
      below = subst (λ (k : ℕ). AllBelow k new) more (added_below (length made) test old new below two);
      lanes = ap (λ (xs : List X). map (picked xs) new) whole ∙ (added made x test old new below two ∙ ap (λ (ls : List (List X)). lanes_where test x 0 ls) is);
    }

-- a payload in a lane, by its place
pub at-place : {X : Type 0} (made : List X) (places : List (List ℕ)) (view : List (List X)) (j i place : ℕ) → map (picked made) places ≡ view → AllBelow (length made) places →
    slice_get (get_or places j []) i ≡ Some place → slice_get (get_or view j []) i ≡ slice_get made place
at-place {X} made places view j i place is below at =
    ap (λ (ls : List (List X)). slice_get (get_or ls j []) i) (sym is)
    ∙ (ap (λ (xs : List X). slice_get xs i) (map-get made places j) ∙ picked-at made (get_or places j []) i place (below j) at)

pub at-none : {X : Type 0} (made : List X) (places : List (List ℕ)) (view : List (List X)) (j i : ℕ) → map (picked made) places ≡ view → AllBelow (length made) places →
    slice_get (get_or places j []) i ≡ None → slice_get (get_or view j []) i ≡ None
at-none {X} made places view j i is below none =
    ap (λ (ls : List (List X)). slice_get (get_or ls j []) i) (sym is)
    ∙ (ap (λ (xs : List X). slice_get xs i) (map-get made places j) ∙ picked-none made (get_or places j []) i (below j) none)

-- the places of the lane at a place
pub laid-at : (lanes : List (Queued ℕ)) (j i : ℕ) (q : Queued ℕ) → j < length lanes → q ≡ get_or lanes j q → slice_get (get_or (map members_of lanes) j []) i ≡ slice_get q.members i
laid-at lanes j i q low is = ap (λ (ns : List ℕ). slice_get ns i) (get_or-map members_of lanes j q [] low) ∙ ap (λ (l : Queued ℕ). slice_get l.members i) (sym is)

pub member : {X : Type 0} (made : List X) (place : ℕ) (x : X) → place < length made → x ≡ get_or made place x → slice_get made place ≡ Some x
member {X} made place x low is = slice_get-get_or made place x low ∙ ap (λ (y : X). Some y) (sym is)

pub lane-count : {X : Type 0} (made : List X) (lanes : List (Queued ℕ)) (view : List (List X)) → map (picked made) (map members_of lanes) ≡ view → length lanes ≡ length view
lane-count made lanes view is = sym (length-map lanes members_of) ∙ (sym (length-map (map members_of lanes) (picked made)) ∙ ap length is)

picked-empty : {X : Type 0} (n : ℕ) → map (picked {X = X} []) (replicate n []) ≡ replicate n []
picked-empty zero = refl
picked-empty (suc n) = ap (λ (ls : List (List _)). [] ∷ ls) (picked-empty n)

pub new-lanes : {X : Type 0} (made : List X) (places : List (List ℕ)) (n : ℕ) → made ≡ [] → places ≡ replicate n [] → map (picked made) places ≡ replicate n []
new-lanes {X} made places n none empty = ap (λ (xs : List X). map (picked xs) places) none ∙ (ap (λ (ls : List (List ℕ)). map (picked {X = X} []) ls) empty ∙ picked-empty n)
