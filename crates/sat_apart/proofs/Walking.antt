-- Where two lists whose numbers rise are not the same.
use Rattle.std.specs.Prelude.{◌≡◌, ◌<◌, ◌≤◌, ◌↔◌, IfSome, ◌+◌, ℕ, zero, suc, Bool, true, false, nat_lt, ◌==◌, List, [], ◌∷◌, ◌++◌, length, Option, Some, None, slice_get, slice_index_or, min, if◌then◌else◌, refl}
use Rattle.std.proofs.Common.{rules, sym, subst, ap, ◌∙◌, arith}
use Rattle.std.proofs.lemmas.List.{length-append}
use Rattle.std.proofs.lemmas.Option.{slice_get_read}
use Rattle.std.proofs.lemmas.Bool.Decides.{nat_tests}
use Rattle.sat_apart.specs.declared.walk.Apart.{Apart}
use Rattle.sat_apart.specs.Lists.{under, Rising, IsApart, SameUpTo, members_apart, left_apart, ends_apart}

not-above : (n m : ℕ) → m < n → (n == m) ≡ false
not-above n m l = grind (arith, nat_tests)

not-below : (n m : ℕ) → n < m → (n == m) ≡ false
not-below n m l = grind (arith, nat_tests)

same-number : (n : ℕ) → (n == n) ≡ true
same-number n = grind (arith, nat_tests)

less-more : (a b c : ℕ) → a < b → b < c → a < c
less-more a b c l m = omega arith

less-self : (n : ℕ) → n < n → ⊥
less-self n l = omega arith

is-lt : (n m : ℕ) → nat_lt n m ≡ true → n < m
is-lt n m e = grind (arith, nat_tests)

is-same : (n m : ℕ) → nat_lt n m ≡ false → nat_lt m n ≡ false → n ≡ m
is-same n m e f = grind (arith, nat_tests)

one-more : (k : ℕ) → suc k ≡ k + 1
one-more k = omega arith

less-upto : (k n m : ℕ) → k < n → n ≤ m → k < m
less-upto k n m l e = omega arith

both-upto : (n a b : ℕ) → n ≡ min a b → (n ≤ a) × (n ≤ b)
both-upto n a b e = (omega arith, omega arith)

too-long : (n a b : ℕ) → n ≡ min (n + suc a) (n + suc b) → ⊥
too-long n a b e = omega arith

module _ {X : Type 0} (number : X → ℕ) where
  if-false : (b : Bool) (o u : Option X) → b ≡ false → (if b then o else u) ≡ u
  if-false b o u e = ap (λ (b : Bool). if b then o else u) e

  tail-rises : (x : X) (xs : List X) → Rising number (x ∷ xs) → Rising number xs
  tail-rises x [] r = tt
  tail-rises x (y ∷ ys) r = r.1

  -- a list whose numbers rise has nothing under a number below its first
  pub none-below : (x : X) (xs : List X) (n : ℕ) → n < number x → Rising number (x ∷ xs) → under number n (x ∷ xs) ≡ None
  none-below x [] n l r = if-false (number x == n) (Some x) None (not-above (number x) n l)
  none-below x (y ∷ ys) n l r = if-false (number x == n) (Some x) (under number n (y ∷ ys)) (not-above (number x) n l) ∙ none-below y ys n (less-more n (number x) (number y) l r.0) r.1

  first-is : (x : X) (xs : List X) → under number (number x) (x ∷ xs) ≡ Some x
  first-is x xs = ap (λ (b : Bool). if b then Some x else under number (number x) xs) (same-number (number x))

  -- what stands before a member has other numbers
  behind : (pre : List X) (x : X) (xs zs : List X) (n : ℕ) → Rising number (pre ++ x ∷ xs) → number x ≡ n → under number n (pre ++ zs) ≡ under number n zs
  behind [] x xs zs n r e = refl
  behind (p ∷ pre) x xs zs n r e =
      if-false (number p == n) (Some p) (under number n (pre ++ zs)) (not-below (number p) n (subst (λ (m : ℕ). number p < m) e (before p pre r))) ∙ behind pre x xs zs n (tail-rises p (pre ++ x ∷ xs) r) e
    where
      before : (p : X) (pre : List X) → Rising number (p ∷ pre ++ x ∷ xs) → number p < number x
      before p [] r = r.0
      before p (q ∷ pre) r = less-more (number p) (number q) (number x) r.0 (before q pre r.1)

  -- the same behind the same
  same-behind : (pre zs ws : List X) (n : ℕ) → under number n zs ≡ under number n ws → under number n (pre ++ zs) ≡ under number n (pre ++ ws)
  same-behind [] zs ws n e = e
  same-behind (p ∷ pre) zs ws n e = ap (λ (o : Option X). if number p == n then Some p else o) (same-behind pre zs ws n e)

  rest-rises : (pre zs : List X) → Rising number (pre ++ zs) → Rising number zs
  rest-rises [] zs r = r
  rest-rises (p ∷ pre) zs r = rest-rises pre zs (tail-rises p (pre ++ zs) r)

  at-seam : (pre : List X) (x : X) (xs : List X) → slice_get (pre ++ x ∷ xs) (length pre) ≡ Some x
  at-seam [] x xs = refl
  at-seam (p ∷ pre) x xs = at-seam pre x xs

  some-none : (x : X) → Some x ≡ None → ⊥
  some-none x e = cc

  some-is : (x y : X) → Some x ≡ Some y → x ≡ y
  some-is x y e = cc

  -- ---- what stands first behind the same front

  abbrev one_left : ℕ → ℕ → Apart
  one_left n k = record { number = n; left = Some k; right = None }

  abbrev one_right : ℕ → ℕ → Apart
  one_right n k = record { number = n; left = None; right = Some k }

  abbrev both : ℕ → ℕ → Apart
  both n k = record { number = n; left = Some k; right = Some k }

  -- a list has a member of a number below all that the other has there
  left-alone : (pre : List X) (x : X) (xs ys : List X) → Rising number (pre ++ x ∷ xs) → ((n : ℕ) → n ≤ number x → under number n ys ≡ None) → IsApart number (pre ++ x ∷ xs) (pre ++ ys) (one_left (number x) (length pre))
  left-alone pre x xs ys r none = record {
    first = behind pre x xs (x ∷ xs) (number x) r refl ∙ (first-is x xs ∙ sym (at-seam pre x xs));
    second = behind pre x xs ys (number x) r refl ∙ none (number x) (omega arith);
    differ = λ e. some-none x (sym (at-seam pre x xs) ∙ e);
    least = λ n l. same-behind pre (x ∷ xs) ys n (none-below x xs n l (rest-rises pre (x ∷ xs) r) ∙ sym (none n (omega arith)));
  }

  right-alone : (pre : List X) (y : X) (xs ys : List X) → Rising number (pre ++ y ∷ ys) → ((n : ℕ) → n ≤ number y → under number n xs ≡ None) → IsApart number (pre ++ xs) (pre ++ y ∷ ys) (one_right (number y) (length pre))
  right-alone pre y xs ys r none = record {
    first = behind pre y ys xs (number y) r refl ∙ none (number y) (omega arith);
    second = behind pre y ys (y ∷ ys) (number y) r refl ∙ (first-is y ys ∙ sym (at-seam pre y ys));
    differ = λ e. some-none y (sym (at-seam pre y ys) ∙ sym e);
    least = λ n l. same-behind pre xs (y ∷ ys) n (none n (omega arith) ∙ sym (none-below y ys n l (rest-rises pre (y ∷ ys) r)));
  }

  two-there : (pre : List X) (x y : X) (xs ys : List X) → number x ≡ number y → (x ≡ y → ⊥) → Rising number (pre ++ x ∷ xs) → Rising number (pre ++ y ∷ ys) → IsApart number (pre ++ x ∷ xs) (pre ++ y ∷ ys) (both (number x) (length pre))
  two-there pre x y xs ys e apart r s = record {
    first = behind pre x xs (x ∷ xs) (number x) r refl ∙ (first-is x xs ∙ sym (at-seam pre x xs));
    second = behind pre y ys (y ∷ ys) (number x) s (sym e) ∙ (ap (λ (n : ℕ). under number n (y ∷ ys)) e ∙ (first-is y ys ∙ sym (at-seam pre y ys)));
    differ = λ f. apart (some-is x y (sym (at-seam pre x xs) ∙ (f ∙ at-seam pre y ys)));
    least = λ n l. same-behind pre (x ∷ xs) (y ∷ ys) n (none-below x xs n l (rest-rises pre (x ∷ xs) r) ∙ sym (none-below y ys n (subst (λ (m : ℕ). n < m) e l) (rest-rises pre (y ∷ ys) s)));
  }

  at-or-below : (y : X) (ys : List X) (m n : ℕ) → m < number y → n ≤ m → Rising number (y ∷ ys) → under number n (y ∷ ys) ≡ None
  at-or-below y ys m n l k r = none-below y ys n (omega arith) r

  members : (pre : List X) (x y : X) (xs ys : List X) → (x ≡ y → ⊥) → Rising number (pre ++ x ∷ xs) → Rising number (pre ++ y ∷ ys) → IsApart number (pre ++ x ∷ xs) (pre ++ y ∷ ys) (members_apart (number x) (number y) (length pre))
  members pre x y xs ys apart r s = go (nat_lt (number x) (number y)) (nat_lt (number y) (number x)) refl refl
    where
      go : (b c : Bool) → nat_lt (number x) (number y) ≡ b → nat_lt (number y) (number x) ≡ c →
          IsApart number (pre ++ x ∷ xs) (pre ++ y ∷ ys) (if b then one_left (number x) (length pre) else (if c then one_right (number y) (length pre) else both (number x) (length pre)))
      go true c e f = left-alone pre x xs (y ∷ ys) r (λ n l. at-or-below y ys (number x) n (is-lt (number x) (number y) e) l (rest-rises pre (y ∷ ys) s))
      go false true e f = right-alone pre y (x ∷ xs) ys s (λ n l. at-or-below x xs (number y) n (is-lt (number y) (number x) f) l (rest-rises pre (x ∷ xs) r))
      go false false e f = two-there pre x y xs ys (is-same (number x) (number y) e f) apart r s

  -- ---- places

  -- lists that are the same up to a place, as one front and the rest of each
  pub record Fronts (k : ℕ) (xs ys : List X) : Type 0 where
    pub front : List X
    pub left : List X
    pub right : List X
    pub left_is : xs ≡ front ++ left
    pub right_is : ys ≡ front ++ right
    pub place : length front ≡ k

  pub fronts : (k : ℕ) (xs ys : List X) → SameUpTo k xs ys → Fronts k xs ys
  fronts zero xs ys s = record { front = []; left = xs; right = ys; left_is = refl; right_is = refl; place = refl }
  fronts (suc k) (x ∷ xs) (y ∷ ys) s =
      let f : Fronts k xs ys = fronts k xs ys s.1 in
      record { front = x ∷ f.front; left = f.left; right = f.right; left_is = ap (λ (zs : List X). x ∷ zs) f.left_is; right_is = (λ i. sym s.0 i ∷ f.right_is i); place = ap suc f.place }
  fronts (suc k) [] ys s = absurd s
  fronts (suc k) (x ∷ xs) [] s = absurd s

  -- a list behind a front, read at the front's end
  at-front : (front zs : List X) → slice_get (front ++ zs) (length front) ≡ slice_get zs 0
  at-front [] zs = refl
  at-front (p ∷ front) zs = at-front front zs

  abbrev head_of : List X → Option X
  head_of zs = slice_get zs 0

  pub apart-at : (xs ys : List X) (k : ℕ) (x y : X) → Rising number xs → Rising number ys → SameUpTo k xs ys → slice_get xs k ≡ Some x → slice_get ys k ≡ Some y → (x ≡ y → ⊥) → IsApart number xs ys (members_apart (number x) (number y) k)
  apart-at xs ys k x y r s same a b apart =
      let f : Fronts k xs ys = fronts k xs ys same in
      let left : slice_get f.left 0 ≡ Some x = sym (at-front f.front f.left) ∙ ((λ i. slice_get (sym f.left_is i) (f.place i)) ∙ a) in
      let right : slice_get f.right 0 ≡ Some y = sym (at-front f.front f.right) ∙ ((λ i. slice_get (sym f.right_is i) (f.place i)) ∙ b) in
      subst (λ (n : ℕ). IsApart number xs ys (members_apart (number x) (number y) n)) f.place
      (subst (λ (zs : List X). IsApart number zs ys (members_apart (number x) (number y) (length f.front))) (sym f.left_is)
      (subst (λ (zs : List X). IsApart number (f.front ++ f.left) zs (members_apart (number x) (number y) (length f.front))) (sym f.right_is)
      (go f.front f.left f.right left right (subst (Rising number) f.left_is r) (subst (Rising number) f.right_is s))))
    where
      go : (front left right : List X) → slice_get left 0 ≡ Some x → slice_get right 0 ≡ Some y → Rising number (front ++ left) → Rising number (front ++ right) →
          IsApart number (front ++ left) (front ++ right) (members_apart (number x) (number y) (length front))
      go front [] right u v r s = absurd (cc)
      go front (p ∷ left) [] u v r s = absurd (cc)
      go front (p ∷ left) (q ∷ right) u v r s =
          let e : p ≡ x = some-is p x u in
          let f : q ≡ y = some-is q y v in
          subst (IsApart number (front ++ p ∷ left) (front ++ q ∷ right)) (λ i. members_apart (number (e i)) (number (f i)) (length front)) (members front p q left right (λ w. apart (sym e ∙ (w ∙ f))) r s)

  -- what a walk finds: nothing where the lists are one, else where they are apart
  abbrev pub Finds : List X → List X → Option Apart → Type 0
  Finds xs ys None = xs ≡ ys
  Finds xs ys (Some a) = IsApart number xs ys a

  pub ends-at : (xs ys : List X) (k : ℕ) → Rising number xs → Rising number ys → SameUpTo k xs ys → k ≡ min (length xs) (length ys) → Finds xs ys (ends_apart number xs ys k)
  ends-at xs ys k r s same e =
      let f : Fronts k xs ys = fronts k xs ys same in
      let at_left : slice_get xs k ≡ slice_get f.left 0 = (λ i. slice_get (f.left_is i) (sym f.place i)) ∙ at-front f.front f.left in
      let at_right : slice_get ys k ≡ slice_get f.right 0 = (λ i. slice_get (f.right_is i) (sym f.place i)) ∙ at-front f.front f.right in
      subst (Finds xs ys) (λ i. left_apart number (sym at_left i) (sym at_right i) k)
      (subst (λ (n : ℕ). Finds xs ys (left_apart number (slice_get f.left 0) (slice_get f.right 0) n)) f.place
      (subst (λ (zs : List X). Finds zs ys (left_apart number (slice_get f.left 0) (slice_get f.right 0) (length f.front))) (sym f.left_is)
      (subst (λ (zs : List X). Finds (f.front ++ f.left) zs (left_apart number (slice_get f.left 0) (slice_get f.right 0) (length f.front))) (sym f.right_is)
      (go f.front f.left f.right (subst (Rising number) f.left_is r) (subst (Rising number) f.right_is s)
      (f.place ∙ (e ∙ (λ i. min (length (f.left_is i)) (length (f.right_is i)))))))))
    where
      go : (front left right : List X) → Rising number (front ++ left) → Rising number (front ++ right) → length front ≡ min (length (front ++ left)) (length (front ++ right)) →
          Finds (front ++ left) (front ++ right) (left_apart number (slice_get left 0) (slice_get right 0) (length front))
      go front [] [] r s e = refl
      go front (p ∷ left) [] r s e = left-alone front p left [] r (λ n l. refl)
      go front [] (q ∷ right) r s e = right-alone front q [] right s (λ n l. refl)
      go front (p ∷ left) (q ∷ right) r s e = absurd (too-long (length front) (length left) (length right) (e ∙ (λ i. min (length-append front (p ∷ left) i) (length-append front (q ∷ right) i))))

  -- ---- what it says

  pub never-apart : (xs ys : List X) (a : Apart) → IsApart number xs ys a → under number a.number xs ≡ under number a.number ys → ⊥
  never-apart xs ys a w e = w.differ (sym w.first ∙ (e ∙ w.second))

  pub none-is : (xs ys : List X) (o : Option Apart) → Finds xs ys o → (o ≡ None) ↔ (xs ≡ ys)
  none-is xs ys None w = (λ e. w, λ e. refl)
  none-is xs ys (Some a) w = (λ e. absurd (cc), λ e. absurd (never-apart xs ys a w (ap (under number a.number) e)))

  pub numbers-are : (xs ys : List X) (o : Option Apart) → Finds xs ys o → (xs ≡ ys) ↔ ((n : ℕ) → under number n xs ≡ under number n ys)
  numbers-are xs ys None w = (λ e n. ap (under number n) e, λ f. w)
  numbers-are xs ys (Some a) w = (λ e n. ap (under number n) e, λ f. absurd (never-apart xs ys a w (f a.number)))

  -- ---- the loop

  pub same-more : (k : ℕ) (xs ys : List X) (x y : X) → SameUpTo k xs ys → slice_get xs k ≡ Some x → slice_get ys k ≡ Some y → x ≡ y → SameUpTo (suc k) xs ys
  same-more zero [] ys x y s a b e = absurd (cc)
  same-more zero (p ∷ xs) [] x y s a b e = absurd (cc)
  same-more zero (p ∷ xs) (q ∷ ys) x y s a b e = (some-is p x a ∙ (e ∙ sym (some-is q y b)), tt)
  same-more (suc k) [] ys x y s a b e = absurd s
  same-more (suc k) (p ∷ xs) [] x y s a b e = absurd s
  same-more (suc k) (p ∷ xs) (q ∷ ys) x y s a b e = (s.0, same-more k xs ys x y s.1 a b e)

  -- ---- as the code meets it

  read-at : (xs : List X) (k n : ℕ) (x : X) → k < n → n ≤ length xs → x ≡ slice_index_or xs k x → slice_get xs k ≡ Some x
  read-at xs k n x l m e = slice_get_read xs (length xs) k x refl (less-upto k n (length xs) l m) e

  pub apart-here : (xs ys : List X) (k n : ℕ) (x y p q : X) (b : Bool) (a : Apart) → Rising number xs → Rising number ys → SameUpTo k xs ys → n ≡ min (length xs) (length ys) → k < n →
      x ≡ slice_index_or xs k x → y ≡ slice_index_or ys k y → p ≡ slice_index_or xs k p → q ≡ slice_index_or ys k q → b ≡ false → (x ≡ y → b ≡ true) → a ≡ members_apart (number p) (number q) k → Finds xs ys (Some a)
  apart-here xs ys k n x y p q b a r s same len l e f g h differs alike is =
      let upto : (n ≤ length xs) × (n ≤ length ys) = both-upto n (length xs) (length ys) len in
      let px : p ≡ x = some-is p x (sym (read-at xs k n p l upto.0 g) ∙ read-at xs k n x l upto.0 e) in
      let qy : q ≡ y = some-is q y (sym (read-at ys k n q l upto.1 h) ∙ read-at ys k n y l upto.1 f) in
      subst (IsApart number xs ys) (sym is) (apart-at xs ys k p q r s same (read-at xs k n p l upto.0 g) (read-at ys k n q l upto.1 h) (λ w. absurd (never b differs (alike (sym px ∙ (w ∙ qy))))))
    where
      never : (b : Bool) → b ≡ false → b ≡ true → ⊥
      never true e f = cc
      never false e f = cc

  pub same-here : (xs ys : List X) (k n : ℕ) (x y : X) (b : Bool) → SameUpTo k xs ys → n ≡ min (length xs) (length ys) → k < n → x ≡ slice_index_or xs k x → y ≡ slice_index_or ys k y → b ≡ true → (b ≡ true → x ≡ y) → SameUpTo (k + 1) xs ys
  same-here xs ys k n x y b same len l e f holds is =
      let upto : (n ≤ length xs) × (n ≤ length ys) = both-upto n (length xs) (length ys) len in
      subst (λ (m : ℕ). SameUpTo m xs ys) (one-more k) (same-more k xs ys x y same (read-at xs k n x l upto.0 e) (read-at ys k n y l upto.1 f) (is holds))

  pub ends-here : (xs ys : List X) (k n : ℕ) (o : Option Apart) → Rising number xs → Rising number ys → SameUpTo k xs ys → n ≡ min (length xs) (length ys) → k ≡ n → o ≡ ends_apart number xs ys n → Finds xs ys o
  ends-here xs ys k n o r s same len at is = subst (Finds xs ys) (sym is) (ends-at xs ys n r s (subst (λ (k : ℕ). SameUpTo k xs ys) at same) len)

  pub finds-some : (xs ys : List X) (o : Option Apart) → Finds xs ys o → IfSome o (λ a. IsApart number xs ys a)
  finds-some xs ys None w = search rules
  finds-some xs ys (Some a) w = search rules
