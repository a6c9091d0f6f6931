-- Lists after a change at one place.
use Rattle.std.specs.Prelude.{◌≡◌, ◌⊎◌, ◌<◌, ℕ, zero, suc, Bool, true, false, ◌==◌, List, [], ◌∷◌, length, map, replicate, set, get_or, Option, Some, None, Result, Ok, Err, slice_get, if◌then◌else◌, refl}
use Rattle.std.proofs.Common.{sym, subst, ap, ◌∙◌, arith, inl, inr}
use Rattle.std.proofs.lemmas.Bool.Decides.{nat_tests}
use Rattle.std.specs.Result.{OnErr}
use Rattle.std.proofs.Math.Seq.{map-set_same}
use Rattle.sat_label.specs.declared.label.Label.{Label}
use Rattle.sat_laws.proofs.Labels.{some_is}
use Rattle.sat_queue.specs.Queued.{Queued, members_of}
use Rattle.sat_net.specs.Nets.{change_at}

pub get-is : {X : Type 0} (xs : List X) (i : ℕ) (d : X) → i < length xs → slice_get xs i ≡ Some (get_or xs i d)
get-is [] i d lt = absurd (omega arith)
get-is (x ∷ xs) zero d lt = refl
get-is (x ∷ xs) (suc i) d lt = get-is xs i d (omega arith)

-- what was read at a place stands there
pub index-at : {X : Type 0} (xs : List X) (i : ℕ) (x : X) → i < length xs → x ≡ get_or xs i x → slice_get xs i ≡ Some x
index-at {X = X} xs i x lt is = subst (λ (y : X). slice_get xs i ≡ Some y) (sym is) (get-is xs i x lt)

pub both-are : {X : Type 0} (o : Option X) (x y : X) → o ≡ Some x → o ≡ Some y → x ≡ y
both-are o x y e f = some_is x y (sym e ∙ f)

-- something stands at each place of a list
pub there-is : {X : Type 0} (xs : List X) (n : ℕ) → n < length xs → (x : X) × (slice_get xs n ≡ Some x)
there-is [] n lt = absurd (omega arith)
there-is (x ∷ xs) zero lt = (x, refl)
there-is (x ∷ xs) (suc n) lt = there-is xs n (omega arith)

-- ---- a change at one place

pub length-change : {X : Type 0} (f : X → X) (i : ℕ) (xs : List X) → length (change_at f i xs) ≡ length xs
length-change f i [] = refl
length-change f zero (x ∷ xs) = refl
length-change f (suc i) (x ∷ xs) = ap suc (length-change f i xs)

-- an element in place of the one that it was changed from
pub put-change : {X : Type 0} (f : X → X) (xs : List X) (i : ℕ) (x y : X) → i < length xs → x ≡ get_or xs i x → y ≡ f x → set xs i y ≡ change_at f i xs
put-change f [] i x y lt at is = absurd (omega arith)
put-change {X = X} f (z ∷ xs) zero x y lt at is = ap (λ (w : X). w ∷ xs) (is ∙ ap f at)
put-change {X = X} f (z ∷ xs) (suc i) x y lt at is = ap (λ (ws : List X). z ∷ ws) (put-change f xs i x y (omega arith) at is)

-- where each element after a change comes from
pub comes-from : {X : Type 0} (f : X → X) (xs : List X) (i k : ℕ) (y : X) → slice_get (change_at f i xs) k ≡ Some y → (slice_get xs k ≡ Some y) ⊎ ((x : X) × (slice_get xs k ≡ Some x) × (f x ≡ y))
comes-from f [] i k y e = absurd (cc)
comes-from f (x ∷ xs) zero zero y e = inr (x, refl, some_is (f x) y e)
comes-from f (x ∷ xs) zero (suc k) y e = inl e
comes-from f (x ∷ xs) (suc i) zero y e = inl e
comes-from f (x ∷ xs) (suc i) (suc k) y e = comes-from f xs i k y e

zero-one : (k : ℕ) → (0 == suc k) ≡ false
zero-one k = grind (arith, nat_tests)

one-zero : (k : ℕ) → (suc k == 0) ≡ false
one-zero k = grind (arith, nat_tests)

pub both-less : (i k : ℕ) → (suc i == suc k) ≡ (i == k)
both-less i k = grind (arith, nat_tests)

abbrev choose : {Y : Type 0} → Bool → Y → Y → Y
choose b x y = if b then x else y

-- an element after a change, if the place is one of the list
pub get-change : {X : Type 0} (f : X → X) (xs : List X) (i k : ℕ) (d : X) → i < length xs → get_or (change_at f i xs) k d ≡ (if i == k then f (get_or xs k d) else get_or xs k d)
get-change f [] i k d lt = absurd (omega arith)
get-change f (x ∷ xs) zero zero d lt = refl
get-change f (x ∷ xs) zero (suc k) d lt = sym (ap (λ (b : Bool). choose b (f (get_or xs k d)) (get_or xs k d)) (zero-one k))
get-change f (x ∷ xs) (suc i) zero d lt = sym (ap (λ (b : Bool). choose b (f x) x) (one-zero i))
get-change f (x ∷ xs) (suc i) (suc k) d lt = get-change f xs i k d (omega arith) ∙ sym (ap (λ (b : Bool). choose b (f (get_or xs k d)) (get_or xs k d)) (both-less i k))

-- what is read from the element at a place after a change
pub read-change : {X Y : Type 0} (f : X → X) (g : X → Y) (d : Y) (xs : List X) (i k : ℕ) → ◌≡◌ {A = Y} (elim (slice_get (change_at f i xs) k) [ None ↦ d | Some x ↦ g x ]) (if i == k then elim (slice_get xs k) [ None ↦ d | Some x ↦ g (f x) ] else elim (slice_get xs k) [ None ↦ d | Some x ↦ g x ])
read-change f g d [] i k = sym (same-if (i == k) d)
  where
    same-if : {Y : Type 0} (b : Bool) (d : Y) → (if b then d else d) ≡ d
    same-if true d = refl
    same-if false d = refl
read-change f g d (x ∷ xs) zero zero = refl
read-change f g d (x ∷ xs) zero (suc k) = sym (ap (λ (b : Bool). choose b (elim (slice_get xs k) [ None ↦ d | Some x ↦ g (f x) ]) (elim (slice_get xs k) [ None ↦ d | Some x ↦ g x ])) (zero-one k))
read-change f g d (x ∷ xs) (suc i) zero = sym (ap (λ (b : Bool). choose b (g (f x)) (g x)) (one-zero i))
read-change f g d (x ∷ xs) (suc i) (suc k) = read-change f g d xs i k ∙ sym (ap (λ (b : Bool). choose b (elim (slice_get xs k) [ None ↦ d | Some x ↦ g (f x) ]) (elim (slice_get xs k) [ None ↦ d | Some x ↦ g x ])) (both-less i k))

-- what is read from the element at a place that the change leaves alone
pub read-same : {X Y : Type 0} (f : X → X) (g : X → Y) (d : Y) (xs : List X) (i k : ℕ) → ((x : X) → g (f x) ≡ g x) → ◌≡◌ {A = Y} (elim (slice_get (change_at f i xs) k) [ None ↦ d | Some x ↦ g x ]) (elim (slice_get xs k) [ None ↦ d | Some x ↦ g x ])
read-same f g d [] i k same = refl
read-same f g d (x ∷ xs) zero zero same = same x
read-same f g d (x ∷ xs) zero (suc k) same = refl
read-same f g d (x ∷ xs) (suc i) zero same = refl
read-same f g d (x ∷ xs) (suc i) (suc k) same = read-same f g d xs i k same

-- ---- queues

-- a queue in place of the one that it was changed from
pub change-queue : (f : List Label → List Label) (queues : List (Queued Label)) (i : ℕ) (q p : Queued Label) → i < length queues → q ≡ get_or queues i q → p.members ≡ f q.members →
    map members_of (set queues i p) ≡ change_at f i (map members_of queues)
change-queue f [] i q p lt at is = absurd (omega arith)
change-queue f (x ∷ queues) zero q p lt at is = ap (λ (ls : List Label). ls ∷ map members_of queues) (is ∙ ap (λ (r : Queued Label). f r.members) at)
change-queue f (x ∷ queues) (suc i) q p lt at is = ap (λ (ls : List (List Label)). x.members ∷ ls) (change-queue f queues i q p (omega arith) at is)

-- a queue in place of one with the same labels
pub same-queues : (queues : List (Queued Label)) (i : ℕ) (q p : Queued Label) → q ≡ get_or queues i q → p.members ≡ q.members → map members_of (set queues i p) ≡ map members_of queues
same-queues queues i q p here same = map-set_same (λ (r : Queued Label). r.members) queues i p q (same ∙ ap (λ (r : Queued Label). r.members) here)

-- what holds whatever a call returned holds where it failed
pub on-err : {T E P : Type 0} (r : Result T E) → P → OnErr r P
on-err (Ok x) p = tt
on-err (Err e) p = p

-- ---- empty links

pub none-there : (n k : ℕ) → get_or {A = List Label} (replicate n []) k [] ≡ []
none-there zero k = refl
none-there (suc n) zero = refl
none-there (suc n) (suc k) = none-there n k
