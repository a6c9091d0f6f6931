-- Small lemmas on lists.
use Rattle.std.specs.Prelude.{◌≡◌, Bool, true, false, ◌||◌, not, List, [], ◌∷◌, ◌++◌, length, map, filter, cond, refl}
use Rattle.std.proofs.Common.{sym, ap, ◌∙◌, inl, inr, arith}
use Rattle.sat_label.specs.declared.label.Label.{Label}
use Rattle.sat_label.specs.Order.{label_eq}
use Rattle.sat_label.specs.Words.{has}
use Rattle.sat_label.specs.Members.{In}

pub plain : {X : Type 0} (xs : List X) → xs ++ [] ≡ xs
plain [] = refl
plain (x ∷ xs) = ap (λ ys. x ∷ ys) (plain xs)

pub joined : {X : Type 0} (xs ys zs : List X) → (xs ++ ys) ++ zs ≡ xs ++ (ys ++ zs)
joined [] ys zs = refl
joined (x ∷ xs) ys zs = ap (λ ws. x ∷ ws) (joined xs ys zs)

pub map-join : {X Y : Type 0} (f : X → Y) (xs ys : List X) → map f (xs ++ ys) ≡ map f xs ++ map f ys
map-join f [] ys = refl
map-join f (x ∷ xs) ys = ap (λ zs. f x ∷ zs) (map-join f xs ys)

pub map-same : {X Y : Type 0} (f g : X → Y) (xs : List X) → ((x : X) → In xs x → f x ≡ g x) → map f xs ≡ map g xs
map-same f g [] k = refl
map-same f g (x ∷ xs) k = ap (λ y. y ∷ map f xs) (k x (inl refl)) ∙ ap (λ zs. g x ∷ zs) (map-same f g xs (λ y i. k y (inr i)))

pub map-length : {X Y : Type 0} (f : X → Y) (xs : List X) → length (map f xs) ≡ length xs
map-length f [] = refl
map-length f (x ∷ xs) = let k : length (map f xs) ≡ length xs = map-length f xs in omega arith

cond-join : {X : Type 0} (b : Bool) (x : X) (xs ys zs : List X) → xs ≡ ys ++ zs → cond b (x ∷ xs) xs ≡ cond b (x ∷ ys) ys ++ zs
cond-join true x xs ys zs e = ap (λ ws. x ∷ ws) e
cond-join false x xs ys zs e = e

pub filter-join : {X : Type 0} (p : X → Bool) (xs ys : List X) → filter p (xs ++ ys) ≡ filter p xs ++ filter p ys
filter-join p [] ys = refl
filter-join p (x ∷ xs) ys = cond-join (p x) x (filter p (xs ++ ys)) (filter p xs) (filter p ys) (filter-join p xs ys)

cond-all : {X : Type 0} (b : Bool) (x : X) (xs ys : List X) → b ≡ true → xs ≡ ys → cond b (x ∷ xs) xs ≡ x ∷ ys
cond-all true x xs ys e k = ap (λ zs. x ∷ zs) k
cond-all false x xs ys e k = absurd (cc)

pub filter-all : {X : Type 0} (p : X → Bool) (xs : List X) → ((x : X) → In xs x → p x ≡ true) → filter p xs ≡ xs
filter-all p [] k = refl
filter-all p (x ∷ xs) k = cond-all (p x) x (filter p xs) xs (k x (inl refl)) (filter-all p xs (λ y i. k y (inr i)))

pub has-join : {X : Type 0} (same : X → X → Bool) (xs ys : List X) (x : X) → has same (xs ++ ys) x ≡ (has same xs x || has same ys x)
has-join same [] ys x = refl
has-join same (y ∷ xs) ys x = ap (λ (b : Bool). same y x || b) (has-join same xs ys x) ∙ assoc (same y x) (has same xs x) (has same ys x)
  where
    assoc : (a b c : Bool) → (a || (b || c)) ≡ ((a || b) || c)
    assoc true b c = refl
    assoc false b c = refl

-- what a list does not have
abbrev pub without : List Label → List Label → List Label
without gone xs = filter (λ l. not (has label_eq gone l)) xs

cond-more : (a b : Bool) (x : Label) (xs ys : List Label) (p : Label → Bool) → p x ≡ not b → xs ≡ filter p ys → cond (not (a || (b || false))) (x ∷ xs) xs ≡ filter p (cond (not a) (x ∷ ys) ys)
cond-more true b x xs ys p e k = k
cond-more false true x xs ys p e k = k ∙ sym (ap (λ (c : Bool). cond c (x ∷ filter p ys) (filter p ys)) e)
cond-more false false x xs ys p e k = ap (λ zs. x ∷ zs) k ∙ sym (ap (λ (c : Bool). cond c (x ∷ filter p ys) (filter p ys)) e)

pub without-more : (gone : List Label) (l : Label) (xs : List Label) → without (gone ++ l ∷ []) xs ≡ filter (λ m. not (label_eq l m)) (without gone xs)
without-more gone l [] = refl
without-more gone l (x ∷ xs) =
    ap (λ (b : Bool). cond (not b) (x ∷ without (gone ++ l ∷ []) xs) (without (gone ++ l ∷ []) xs)) (has-join label_eq gone (l ∷ []) x) ∙
    cond-more (has label_eq gone x) (label_eq l x) x (without (gone ++ l ∷ []) xs) (without gone xs) (λ m. not (label_eq l m)) refl (without-more gone l xs)
