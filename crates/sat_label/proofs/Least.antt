-- The least of some labels.
use Rattle.std.specs.Prelude.{◌≡◌, ◌⊎◌, Bool, true, false, List, [], ◌∷◌, ◌++◌, Option, Some, None, if◌then◌else◌, refl}
use Rattle.std.proofs.Common.{ap, subst, sym, ◌∙◌, inl, inr}
use Rattle.std.proofs.lemmas.Bool.{false_from_ne_true}
use Rattle.sat_label.specs.declared.label.Label.{Label}
use Rattle.sat_label.specs.Order.{label_lt}
use Rattle.sat_label.specs.Members.{In}
use Rattle.sat_label.specs.Least.{least_label, lesser}
use Rattle.sat_label.proofs.Orders.{label_lt-trans, label_lt-chain, label_lt-self}

-- ---- the lesser of two

chosen : (b c : Bool) (x y : Label) → b ≡ c → (if b then Some x else Some y) ≡ (if c then Some x else Some y)
chosen b c x y e = ap (λ (k : Bool). if k then Some x else Some y) e

first : (x y : Label) → label_lt x y ≡ true → lesser (Some x) (Some y) ≡ Some x
first x y e = chosen (label_lt x y) true x y e

second : (x y : Label) → label_lt x y ≡ false → lesser (Some x) (Some y) ≡ Some y
second x y e = chosen (label_lt x y) false x y e

pub lesser-none : (o : Option Label) → lesser o None ≡ o
lesser-none None = refl
lesser-none (Some x) = refl

lesser-three : (x y z : Label) → lesser (Some x) (lesser (Some y) (Some z)) ≡ lesser (lesser (Some x) (Some y)) (Some z)
lesser-three x y z = go (label_lt x y) (label_lt y z) refl refl
  where
    go : (b c : Bool) → label_lt x y ≡ b → label_lt y z ≡ c → lesser (Some x) (if c then Some y else Some z) ≡ lesser (if b then Some x else Some y) (Some z)
    go true true e f = first x y e ∙ sym (first x z (label_lt-trans x y z e f))
    go true false e f = refl
    go false true e f = second x y e ∙ sym (first y z f)
    go false false e f = second x z (label_lt-chain x y z e f) ∙ sym (second y z f)

pub lesser-assoc : (a b c : Option Label) → lesser a (lesser b c) ≡ lesser (lesser a b) c
lesser-assoc None b c = refl
lesser-assoc (Some x) None c = refl
lesser-assoc (Some x) (Some y) None = sym (lesser-none (lesser (Some x) (Some y)))
lesser-assoc (Some x) (Some y) (Some z) = lesser-three x y z

-- ---- the least of a list

pub least-append : (p : Label → Bool) (xs ys : List Label) → least_label p (xs ++ ys) ≡ lesser (least_label p xs) (least_label p ys)
unfolding least_label
least-append p [] ys = refl
least-append p (x ∷ xs) ys = go (p x) (least-append p xs ys)
  where
    go : (b : Bool) → least_label p (xs ++ ys) ≡ lesser (least_label p xs) (least_label p ys) →
        (if b then lesser (Some x) (least_label p (xs ++ ys)) else least_label p (xs ++ ys)) ≡ lesser (if b then lesser (Some x) (least_label p xs) else least_label p xs) (least_label p ys)
    go true e = ap (lesser (Some x)) e ∙ lesser-assoc (Some x) (least_label p xs) (least_label p ys)
    go false e = e

pub least-nil : (p : Label → Bool) → least_label p [] ≡ None
unfolding least_label
least-nil p = refl

-- where none passes, there is none
pub least-none : (p : Label → Bool) (ls : List Label) → ((m : Label) → In ls m → p m ≡ false) → least_label p ls ≡ None
unfolding least_label
least-none p [] f = refl
least-none p (l ∷ ls) f = ap (λ (b : Bool). if b then lesser (Some l) (least_label p ls) else least_label p ls) (f l (inl refl)) ∙ least-none p ls (λ m i. f m (inr i))

-- one that is below all others is the lesser
least-behind : (p : Label → Bool) (x : Label) (ls : List Label) → ((m : Label) → In ls m → label_lt x m ≡ true) → lesser (Some x) (least_label p ls) ≡ Some x
unfolding least_label
least-behind p x [] f = refl
least-behind p x (l ∷ ls) f = go (p l) (least-behind p x ls (λ m i. f m (inr i)))
  where
    go : (b : Bool) → lesser (Some x) (least_label p ls) ≡ Some x → lesser (Some x) (if b then lesser (Some l) (least_label p ls) else least_label p ls) ≡ Some x
    go true e = lesser-assoc (Some x) (Some l) (least_label p ls) ∙ (ap (λ (o : Option Label). lesser o (least_label p ls)) (first x l (f l (inl refl))) ∙ e)
    go false e = e

-- what the least is: a member that passes, and no member that passes is below it
pub record IsLeast (p : Label → Bool) (ls : List Label) (l : Label) : Type 0 where
  pub member : In ls l
  pub passes : p l ≡ true
  pub lowest : (m : Label) → In ls m → p m ≡ true → label_lt m l ≡ false

just_is : (x y : Label) → Some x ≡ Some y → x ≡ y
just_is x y e = cc

none-step : (p : Label → Bool) (x m : Label) (ls : List Label) (b : Bool) → p x ≡ b → (o : Option Label) → (o ≡ None → In ls m → ⊥) → (if b then lesser (Some x) o else o) ≡ None → p m ≡ true → (x ≡ m) ⊎ In ls m → ⊥
none-step p x m ls true w None rest e k i = cc
none-step p x m ls true w (Some y) rest e k i = go (label_lt x y) e
  where
    go : (c : Bool) → (if c then Some x else Some y) ≡ None → ⊥
    go true e = cc
    go false e = cc
none-step p x m ls false w o rest e k (inl q) = let z : p x ≡ p m = ap p q in cc
none-step p x m ls false w o rest e k (inr q) = rest e q

pub none-passes : (p : Label → Bool) (ls : List Label) (m : Label) → least_label p ls ≡ None → p m ≡ true → In ls m → ⊥
unfolding least_label
none-passes p [] m e k i = i
none-passes p (x ∷ ls) m e k i = none-step p x m ls (p x) refl (least_label p ls) (λ o. none-passes p ls m o k) e k i

least-step : (p : Label → Bool) (x l : Label) (ls : List Label) (b : Bool) → p x ≡ b → (o : Option Label) → ((m : Label) → o ≡ Some m → IsLeast p ls m) → (o ≡ None → (m : Label) → p m ≡ true → In ls m → ⊥) →
    (if b then lesser (Some x) o else o) ≡ Some l → IsLeast p (x ∷ ls) l
least-step p x l ls false w o rest none e =
    let k : IsLeast p ls l = rest l e in
    record { member = inr k.member; passes = k.passes; lowest = λ m i q. elim i [ inl a ↦ absurd (let z : p x ≡ p m = ap p a in cc) | inr a ↦ k.lowest m a q ] }
least-step p x l ls true w None rest none e =
    subst (IsLeast p (x ∷ ls)) (just_is x l e)
    (record { member = inl refl; passes = w; lowest = λ m i q. elim i [ inl a ↦ subst (λ (y : Label). label_lt y x ≡ false) a (label_lt-self x) | inr a ↦ absurd (none refl m q a) ] })
least-step p x l ls true w (Some y) rest none e = go (label_lt x y) refl e
  where
    go : (c : Bool) → label_lt x y ≡ c → (if c then Some x else Some y) ≡ Some l → IsLeast p (x ∷ ls) l
    go true c e =
        let k : IsLeast p ls y = rest y refl in
        subst (IsLeast p (x ∷ ls)) (just_is x l e)
        (record { member = inl refl; passes = w; lowest = λ m i q. elim i [ inl a ↦ subst (λ (y : Label). label_lt y x ≡ false) a (label_lt-self x) | inr a ↦ false_from_ne_true (label_lt m x) (λ t. let z : label_lt m y ≡ true = label_lt-trans m x y t c in let f : label_lt m y ≡ false = k.lowest m a q in cc) ] })
    go false c e =
        let k : IsLeast p ls y = rest y refl in
        subst (IsLeast p (x ∷ ls)) (just_is y l e)
        (record { member = inr k.member; passes = k.passes; lowest = λ m i q. elim i [ inl a ↦ subst (λ (z : Label). label_lt z y ≡ false) a c | inr a ↦ k.lowest m a q ] })

pub least-is : (p : Label → Bool) (ls : List Label) (l : Label) → least_label p ls ≡ Some l → IsLeast p ls l
unfolding least_label
least-is p [] l e = absurd (cc)
least-is p (x ∷ ls) l e = least-step p x l ls (p x) refl (least_label p ls) (λ m. least-is p ls m) (λ o m k. none-passes p ls m o k) e
