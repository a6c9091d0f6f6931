-- Queues of labels.
use Rattle.std.specs.Prelude.{◌≡◌, ◌<◌, ℕ, zero, suc, Bool, true, false, not, List, [], ◌∷◌, ◌++◌, length, get_or, set, map, filter, cond, refl}
use Rattle.std.proofs.Common.{arith, ap, sym, ◌∙◌, inl, inr}
use Rattle.std.proofs.lemmas.List.{append-nil}
use Rattle.sat_label.specs.declared.label.Label.{Label}
use Rattle.sat_label.specs.Order.{point_lt, label_eq}
use Rattle.sat_label.specs.Members.{In}
use Rattle.sat_bulk.specs.Drains.{Rises}
use Rattle.sat_label.proofs.Members.{In-parts, In-filter, In-left, In-right}
use Rattle.sat_sink.specs.Pending.{all_of, joined, without}

-- ---- members

-- where each passes, a filter keeps all
pub filter-all : (p : Label → Bool) (xs : List Label) → ((x : Label) → In xs x → p x ≡ true) → filter p xs ≡ xs
filter-all p [] f = refl
filter-all p (x ∷ xs) f = ap (λ (b : Bool). cond b (x ∷ filter p xs) (filter p xs)) (f x (inl refl)) ∙ ap (λ (ys : List Label). x ∷ ys) (filter-all p xs (λ y i. f y (inr i)))

-- one of all queues is in one of them
pub record Place (queues : List (List Label)) (l : Label) : Type 0 where
  pub gear : ℕ
  pub within : gear < length queues
  pub there : In (get_or queues gear []) l

pub In-all : (queues : List (List Label)) (l : Label) → In (all_of queues) l → Place queues l
In-all [] l i = absurd i
In-all (q ∷ queues) l i =
    elim (In-parts q (all_of queues) l i) [
      | inl a ↦ record { gear = 0; within = omega arith; there = a }
      | inr b ↦ (let k : Place queues l = In-all queues l b in record { gear = suc k.gear; within = let w : k.gear < length queues = k.within in omega arith; there = k.there })
    ]

pub all-In : (queues : List (List Label)) (g : ℕ) (l : Label) → In (get_or queues g []) l → In (all_of queues) l
all-In [] g l i = absurd i
all-In (q ∷ queues) zero l i = In-left q (all_of queues) l i
all-In (q ∷ queues) (suc g) l i = In-right q (all_of queues) l (all-In queues g l i)

-- ---- rising

rises-cond : (p : Label → Bool) (x : Label) (xs : List Label) (b : Bool) → ((m : Label) → In xs m → point_lt x.point m.point ≡ true) → Rises (filter p xs) → Rises (cond b (x ∷ filter p xs) (filter p xs))
rises-cond p x xs true f r = (λ m i. f m (In-filter p xs m i).0, r)
rises-cond p x xs false f r = r

pub rises-filter : (p : Label → Bool) (xs : List Label) → Rises xs → Rises (filter p xs)
rises-filter p [] r = tt
rises-filter p (x ∷ xs) r = rises-cond p x xs (p x) r.0 (rises-filter p xs r.1)

-- ---- joined queues

pub length-joined : (qs ms : List (List Label)) → length (joined qs ms) ≡ length qs
length-joined [] ms = refl
length-joined (q ∷ qs) [] = refl
length-joined (q ∷ qs) (m ∷ ms) = ap (λ (n : ℕ). suc n) (length-joined qs ms)

pub joined-get : (qs ms : List (List Label)) (g : ℕ) → g < length qs → get_or (joined qs ms) g [] ≡ get_or qs g [] ++ get_or ms g []
joined-get [] ms g h = absurd (omega arith)
joined-get (q ∷ qs) [] g h = sym (append-nil (get_or (q ∷ qs) g []))
joined-get (q ∷ qs) (m ∷ ms) zero h = refl
joined-get (q ∷ qs) (m ∷ ms) (suc g) h = joined-get qs ms g (omega arith)

pub joined-none : (qs : List (List Label)) → joined qs [] ≡ qs
joined-none [] = refl
joined-none (q ∷ qs) = refl

-- one place more
pub joined-more : (qs ms : List (List Label)) (m : List Label) → length ms < length qs → joined qs (ms ++ m ∷ []) ≡ set (joined qs ms) (length ms) (get_or qs (length ms) [] ++ m)
joined-more [] ms m h = absurd (omega arith)
joined-more (q ∷ qs) [] m h = ap (λ (rest : List (List Label)). (q ++ m) ∷ rest) (joined-none qs)
joined-more (q ∷ qs) (n ∷ ms) m h = ap (λ (rest : List (List Label)). (q ++ n) ∷ rest) (joined-more qs ms m (omega arith))

-- ---- queues without a label

pub get-map : (f : List Label → List Label) → f [] ≡ [] → (qs : List (List Label)) (g : ℕ) → get_or (map f qs) g [] ≡ f (get_or qs g [])
get-map f e [] g = sym e
get-map f e (q ∷ qs) zero = refl
get-map f e (q ∷ qs) (suc g) = get-map f e qs g

pub without-get : (l : Label) (qs : List (List Label)) (g : ℕ) → get_or (without l qs) g [] ≡ filter (λ m. not (label_eq l m)) (get_or qs g [])
without-get l qs g = get-map (filter (λ m. not (label_eq l m))) refl qs g
