-- One count a client tells what is known.
use Rattle.std.specs.Prelude.{◌≡◌, ◌⊎◌, ◌↔◌, ◌<◌, ◌≤◌, ℕ, suc, Bool, true, false, List, [], ◌∷◌, length, Option, Some, None, refl, ◌==◌, ◌&&◌, max, if◌then◌else◌}
use Rattle.std.proofs.Common.{sym, subst, arith, inl, inr, ap, ◌∙◌}
use Rattle.std.proofs.lemmas.Bool.{and_parts, eqb-true}
use Rattle.std.proofs.lemmas.Bool.Decides.{nat_tests}
use Rattle.sat_label.specs.declared.point.Point.{Point}
use Rattle.sat_verdict.specs.declared.tale.Tale.{Tale}
use Rattle.sat_verdict.specs.declared.tale.Tale.TheVariants.{Wrote, Moved, ReadNone, ReadSome, Shown, Other}
use Rattle.sat_label.specs.Order.{point_eq}
use Rattle.sat_verdict.specs.Entries.{made_in, added_in, client_of, is_of, makes}
use Rattle.sat_verdict.specs.Causes.{Who, Client, Maker, Knows, LearnedBy}
use Rattle.sat_verdict.specs.Counts.{read_count, maker_of, next_count, known, Within}

-- ---- small facts

pub some_is : {X : Type 0} (x y : X) → Some x ≡ Some y → x ≡ y
some_is x y e = cc

pub same_number : (c b : ℕ) → (c == b) ≡ true → c ≡ b
same_number c b e = grind (arith, nat_tests)

pub number_same : (c b : ℕ) → c ≡ b → (c == b) ≡ true
number_same c b e = grind (arith, nat_tests)

points_is : (p q : Point) → p.ts ≡ q.ts → p.site ≡ q.site → p.gear ≡ q.gear → p ≡ q
points_is p q a b c = λ i. record { ts = a i; site = b i; gear = c i }

pub same_point : (p q : Point) → point_eq p q ≡ true → p ≡ q
same_point p q e =
    let a : ((p.ts == q.ts) ≡ true) × (((p.site == q.site) && (p.gear == q.gear)) ≡ true) = and_parts _ _ e in
    let b : ((p.site == q.site) ≡ true) × ((p.gear == q.gear) ≡ true) = and_parts _ _ a.1 in
    points_is p q (eqb-true _ _ a.0) (eqb-true _ _ b.0) (eqb-true _ _ b.1)

pub point_same : (p q : Point) → p ≡ q → point_eq p q ≡ true
point_same p q e =
    let s : (p.ts ≡ q.ts) × (p.site ≡ q.site) × (p.gear ≡ q.gear) = (ap (λ (x : Point). x.ts) e, ap (λ (x : Point). x.site) e, ap (λ (x : Point). x.gear) e) in
    grind (arith, nat_tests)

of_by : (o : Option ℕ) (c : ℕ) → o ≡ Some c → elim o [ None ↦ false | Some b ↦ b == c ] ≡ true
of_by None c e = absurd (cc)
of_by (Some b) c e = number_same b c (some_is b c e)

by_of : (o : Option ℕ) (c : ℕ) → elim o [ None ↦ false | Some b ↦ b == c ] ≡ true → o ≡ Some c
by_of None c e = absurd (cc)
by_of (Some b) c e = ap Some (same_number b c e)

pub is_of-yes : (e : Tale) (c : ℕ) → client_of e ≡ Some c → is_of e c ≡ true
is_of-yes e c o = of_by (client_of e) c o

pub yes-is_of : (e : Tale) (c : ℕ) → is_of e c ≡ true → client_of e ≡ Some c
yes-is_of e c o = by_of (client_of e) c o

made_by : (o : Option Point) (b : Point) → o ≡ Some b → elim o [ None ↦ false | Some p ↦ point_eq p b ] ≡ true
made_by None b e = absurd (cc)
made_by (Some p) b e = point_same p b (some_is p b e)

by_made : (o : Option Point) (b : Point) → elim o [ None ↦ false | Some p ↦ point_eq p b ] ≡ true → o ≡ Some b
by_made None b e = absurd (cc)
by_made (Some p) b e = ap Some (same_point p b e)

pub makes-yes : (e : Tale) (b : Point) → made_in e ≡ Some b → makes e b ≡ true
makes-yes e b o = made_by (made_in e) b o

pub yes-makes : (e : Tale) (b : Point) → makes e b ≡ true → made_in e ≡ Some b
yes-makes e b o = by_made (made_in e) b o

-- who made it is its client
pub maker-client : (e : Tale) (b : Point) → made_in e ≡ Some b → client_of e ≡ Some (maker_of e)
maker-client (Wrote c xs p) b m = refl
maker-client (Moved c p) b m = refl
maker-client (ReadNone c x) b m = absurd (cc)
maker-client (ReadSome c x p) b m = absurd (cc)
maker-client (Shown k p) b m = absurd (cc)
maker-client Other b m = absurd (cc)

-- ---- counts

next-bound : (own mine : Bool) (n old new : ℕ) → old ≤ n → new ≤ n → next_count own mine n old new ≤ suc n
next-bound true mine n old new a b = omega arith
next-bound false true n old new a b = omega arith
next-bound false false n old new a b = omega arith

next-rises : (own mine : Bool) (n old new : ℕ) → old ≤ n → old ≤ next_count own mine n old new
next-rises true mine n old new a = omega arith
next-rises false true n old new a = omega arith
next-rises false false n old new a = omega arith

next-reads : (own mine : Bool) (n old new : ℕ) → mine ≡ true → new ≤ n → new ≤ next_count own mine n old new
next-reads true mine n old new m a = omega arith
next-reads false true n old new m a = omega arith
next-reads false false n old new m a = absurd (cc)

chosen-bound : (b : Bool) (n x y : ℕ) → x ≤ n → y ≤ n → (if b then max x y else x) ≤ suc n
chosen-bound true n x y a b = omega arith
chosen-bound false n x y a b = omega arith

chosen-rises : (b : Bool) (x y : ℕ) → x ≤ (if b then max x y else x)
chosen-rises true x y = omega arith
chosen-rises false x y = omega arith

chosen-takes : (b : Bool) (x y : ℕ) → b ≡ true → y ≤ (if b then max x y else x)
chosen-takes true x y e = omega arith
chosen-takes false x y e = absurd (cc)

read-bound : (e : Tale) (n : ℕ) (knew : Point → ℕ) → ((p : Point) → knew p ≤ n) → read_count e knew ≤ n
read-bound (ReadSome c x p) n knew bound = bound p
read-bound (Wrote c xs p) n knew bound = omega arith
read-bound (Moved c p) n knew bound = omega arith
read-bound (ReadNone c x) n knew bound = omega arith
read-bound (Shown k p) n knew bound = omega arith
read-bound Other n knew bound = omega arith

pub known-bound : (h : List Tale) (who : Who) (d : ℕ) → known h who d ≤ length h
unfolding known
known-bound [] who d = omega arith
known-bound (e ∷ h) (Client c) d =
    next-bound (d == c) (is_of e c) (length h) (known h (Client c) d) (read_count e (λ p. known h (Maker p) d)) (known-bound h (Client c) d)
    (read-bound e (length h) (λ p. known h (Maker p) d) (λ p. known-bound h (Maker p) d))
known-bound (e ∷ h) (Maker b) d = chosen-bound (makes e b) (length h) (known h (Maker b) d) (known h (Client (maker_of e)) d) (known-bound h (Maker b) d) (known-bound h (Client (maker_of e)) d)

pub known-rises : (e : Tale) (h : List Tale) (who : Who) (d : ℕ) → known h who d ≤ known (e ∷ h) who d
unfolding known
known-rises e h (Client c) d =
    next-rises (d == c) (is_of e c) (length h) (known h (Client c) d) (read_count e (λ p. known h (Maker p) d)) (known-bound h (Client c) d)
known-rises e h (Maker b) d = chosen-rises (makes e b) (known h (Maker b) d) (known h (Client (maker_of e)) d)

-- ---- within counts

pub within-more : (h : List Tale) (j k : ℕ → ℕ) (a : Point) → ((d : ℕ) → j d ≤ k d) → Within h j a → Within h k a
unfolding Within
within-more [] j k a le w = absurd w
within-more (e ∷ h) j k a le (inl w) = inl (within-more h j k a le w)
within-more (e ∷ h) j k a le (inr w) = inr (w.0, w.1, w.2, let l : j w.0 ≤ k w.0 = le w.0 in let m : length h < j w.0 = w.3 in omega arith)

-- what lies below one count lies below one of two
pub within-or : (h : List Tale) (k i j : ℕ → ℕ) (a : Point) → ((n d : ℕ) → n < length h → n < k d → (n < i d) ⊎ (n < j d)) → Within h k a → Within h i a ⊎ Within h j a
unfolding Within
within-or [] k i j a split w = absurd w
within-or (e ∷ h) k i j a split (inl w) =
    elim (within-or h k i j a (λ n d l m. split n d (let l' : n < length h = l in omega arith) m) w) [ inl x ↦ inl (inl x) | inr x ↦ inr (inl x) ]
within-or (e ∷ h) k i j a split (inr w) =
    elim (split (length h) w.0 (omega arith) w.3) [ inl x ↦ inl (inr (w.0, w.1, w.2, x)) | inr x ↦ inr (inr (w.0, w.1, w.2, x)) ]

within-none : (h : List Tale) (a : Point) → Within h (λ d. 0) a → ⊥
unfolding Within
within-none [] a w = w
within-none (e ∷ h) a (inl w) = within-none h a w
within-none (e ∷ h) a (inr w) = let m : length h < 0 = w.3 in omega arith

-- ---- what is known lies within the counts

own-next : (own mine : Bool) (n old new : ℕ) → own ≡ true → n < next_count own mine n old new
own-next true mine n old new e = omega arith
own-next false mine n old new e = absurd (cc)

own-known : (e : Tale) (h : List Tale) (c : ℕ) → length h < known (e ∷ h) (Client c) c
unfolding known
own-known e h c = own-next (c == c) (is_of e c) (length h) (known h (Client c) c) (read_count e (λ p. known h (Maker p) c)) (number_same c c refl)

reads-known : (c x : ℕ) (p : Point) (h : List Tale) (b : ℕ) (d : ℕ) → c ≡ b → known h (Maker p) d ≤ known (ReadSome c x p ∷ h) (Client b) d
unfolding known
reads-known c x p h b d e =
    next-reads (d == b) (c == b) (length h) (known h (Client b) d) (known h (Maker p) d) (number_same c b e) (known-bound h (Maker p) d)

makes-known : (e : Tale) (h : List Tale) (b : Point) (c : ℕ) (d : ℕ) → made_in e ≡ Some b → client_of e ≡ Some c → known h (Client c) d ≤ known (e ∷ h) (Maker b) d
unfolding known
makes-known e h b c d m o =
    let i : maker_of e ≡ c = some_is (maker_of e) c (sym (maker-client e b m) ∙ o) in
    subst (λ (x : ℕ). known h (Client x) d ≤ known (e ∷ h) (Maker b) d) i (chosen-takes (makes e b) (known h (Maker b) d) (known h (Client (maker_of e)) d) (makes-yes e b m))

learned-within : (e : Tale) (h : List Tale) (c : ℕ) (a : Point) → ((w : Who) → Knows h w a → Within h (known h w) a) →
    client_of e ≡ Some c → LearnedBy e a (λ w. Knows h w a) → Within (e ∷ h) (known (e ∷ h) (Client c)) a
unfolding Within
learned-within (Wrote b xs p) h c a step o i = inr (c, ap Some i, o, own-known (Wrote b xs p) h c)
learned-within (ReadSome b x p) h c a step o (inl i) = inr (c, ap Some i, o, own-known (ReadSome b x p) h c)
learned-within (ReadSome b x p) h c a step o (inr k) =
    inl (within-more h (known h (Maker p)) (known (ReadSome b x p ∷ h) (Client c)) a (λ d. reads-known b x p h c d (some_is b c o)) (step (Maker p) k))
learned-within _ h c a step o i = absurd i

pub known-within : (h : List Tale) (who : Who) (a : Point) → Knows h who a → Within h (known h who) a
unfolding Knows Within
known-within [] who a k = absurd k
known-within (e ∷ h) (Client c) a (inl k) =
    inl (within-more h (known h (Client c)) (known (e ∷ h) (Client c)) a (λ d. known-rises e h (Client c) d) (known-within h (Client c) a k))
known-within (e ∷ h) (Maker b) a (inl k) =
    inl (within-more h (known h (Maker b)) (known (e ∷ h) (Maker b)) a (λ d. known-rises e h (Maker b) d) (known-within h (Maker b) a k))
known-within (e ∷ h) (Client c) a (inr k) = learned-within e h c a (λ w l. known-within h w a l) k.0 k.1
known-within (e ∷ h) (Maker b) a (inr k) =
    inl (within-more h (known h (Client k.1.0)) (known (e ∷ h) (Maker b)) a (λ d. makes-known e h b k.1.0 d k.0 k.1.1) (known-within h (Client k.1.0) a k.1.2))

-- ---- what lies within the counts is known

next-splits : (own mine : Bool) (m n old new : ℕ) → (own ≡ true → old ≡ n) → m < n → m < next_count own mine n old new → (m < old) ⊎ ((mine ≡ true) × (m < new))
next-splits true mine m n old new o l k = inl (let e : old ≡ n = o refl in omega arith)
next-splits false true m n old new o l k = grind arith
next-splits false false m n old new o l k = inl k

own-is : (own mine : Bool) (n old new : ℕ) → own ≡ true → next_count own mine n old new ≡ suc n
own-is true mine n old new e = refl
own-is false mine n old new e = absurd (cc)

pub own-count : (h : List Tale) (c d : ℕ) → (d == c) ≡ true → known h (Client c) d ≡ length h
unfolding known
own-count [] c d e = refl
own-count (x ∷ h) c d e = own-is (d == c) (is_of x c) (length h) (known h (Client c) d) (read_count x (λ p. known h (Maker p) d)) e

client-splits : (e : Tale) (h : List Tale) (c n d : ℕ) → n < length h → n < known (e ∷ h) (Client c) d →
    (n < known h (Client c) d) ⊎ ((is_of e c ≡ true) × (n < read_count e (λ p. known h (Maker p) d)))
unfolding known
client-splits e h c n d l k =
    next-splits (d == c) (is_of e c) n (length h) (known h (Client c) d) (read_count e (λ p. known h (Maker p) d)) (λ o. own-count h c d o) l k

chosen-splits : (b : Bool) (n x y : ℕ) → n < (if b then max x y else x) → (n < x) ⊎ ((b ≡ true) × (n < y))
chosen-splits true n x y k = grind arith
chosen-splits false n x y k = inl k

maker-splits : (e : Tale) (h : List Tale) (b : Point) (n d : ℕ) → n < known (e ∷ h) (Maker b) d →
    (n < known h (Maker b) d) ⊎ ((makes e b ≡ true) × (n < known h (Client (maker_of e)) d))
unfolding known
maker-splits e h b n d k = chosen-splits (makes e b) n (known h (Maker b) d) (known h (Client (maker_of e)) d) k

own-more : (b : Bool) (n x : ℕ) → b ≡ true → n < x → n < (if b then x else 0)
own-more true n x e l = l
own-more false n x e l = absurd (cc)

-- what a client's entry reads from a maker is learned
read-learned : (e : Tale) (h : List Tale) (a : Point) (knows : Point → Type 0) → ((p : Point) → Within h (known h (Maker p)) a → knows p) →
    (c : ℕ) → client_of e ≡ Some c → Within h (λ d. read_count e (λ p. known h (Maker p) d)) a → (x : ℕ) × (p : Point) × (e ≡ ReadSome c x p) × knows p
read-learned (ReadSome b x p) h a knows step c o w = (x, p, ap (λ (k : ℕ). ReadSome k x p) (some_is b c o), step p w)
read-learned (Wrote b xs p) h a knows step c o w = absurd (within-none h a w)
read-learned (Moved b p) h a knows step c o w = absurd (within-none h a w)
read-learned (ReadNone b x) h a knows step c o w = absurd (within-none h a w)
read-learned (Shown k p) h a knows step c o w = absurd (within-none h a w)
read-learned Other h a knows step c o w = absurd (within-none h a w)

-- an entry that added a point teaches its client this point
added-learned : (e : Tale) (a : Point) (knew : Who → Type 0) → added_in e ≡ Some a → LearnedBy e a knew
added-learned (Wrote b xs p) a knew i = some_is p a i
added-learned (ReadSome b x p) a knew i = inl (some_is p a i)
added-learned (Moved b p) a knew i = absurd (cc)
added-learned (ReadNone b x) a knew i = absurd (cc)
added-learned (Shown k p) a knew i = absurd (cc)
added-learned Other a knew i = absurd (cc)

-- the newest entry lies below no count but that of its own client
newest-own : (e : Tale) (h : List Tale) (c d : ℕ) → client_of e ≡ Some d → length h < known (e ∷ h) (Client c) d → client_of e ≡ Some c
unfolding known
newest-own e h c d o l = go (d == c) refl (is_of e c) refl
  where
    go : (own : Bool) → (d == c) ≡ own → (mine : Bool) → is_of e c ≡ mine → client_of e ≡ Some c
    go true p mine q = o ∙ ap Some (same_number d c p)
    go false p true q = yes-is_of e c q
    go false p false q =
        let b : known h (Client c) d ≤ length h = known-bound h (Client c) d in
        let m : length h < next_count false false (length h) (known h (Client c) d) (read_count e (λ p. known h (Maker p) d)) =
        subst (λ (t : Bool). length h < next_count false t (length h) (known h (Client c) d) (read_count e (λ p. known h (Maker p) d))) q
        (subst (λ (t : Bool). length h < next_count t (is_of e c) (length h) (known h (Client c) d) (read_count e (λ p. known h (Maker p) d))) p l) in
        absurd (omega arith)

client-read : (h : List Tale) (e : Tale) (c : ℕ) (a : Point) → ((w : Who) → Within h (known h w) a → Knows h w a) →
    client_of e ≡ Some c → Within h (λ d. read_count e (λ p. known h (Maker p) d)) a → Knows (e ∷ h) (Client c) a
unfolding Knows
client-read h e c a step o w =
    let r : (x : ℕ) × (p : Point) × (e ≡ ReadSome c x p) × Knows h (Maker p) a = read-learned e h a (λ p. Knows h (Maker p) a) (λ p v. step (Maker p) v) c o w in
    subst (λ (f : Tale). Knows (f ∷ h) (Client c) a) (sym r.2) (inr (refl, inr r.3))

-- a count of zero where the entry isn't the client's
client-reads : (h : List Tale) (e : Tale) (c : ℕ) (a : Point) → ((w : Who) → Within h (known h w) a → Knows h w a) →
    (mine : Bool) → is_of e c ≡ mine → Within h (λ d. if mine then read_count e (λ p. known h (Maker p) d) else 0) a → Knows (e ∷ h) (Client c) a
client-reads h e c a step true m w = client-read h e c a step (yes-is_of e c m) w
client-reads h e c a step false m w = absurd (within-none h a w)

maker-reads : (h : List Tale) (e : Tale) (b a : Point) → ((w : Who) → Within h (known h w) a → Knows h w a) →
    (mine : Bool) → makes e b ≡ mine → Within h (λ d. if mine then known h (Client (maker_of e)) d else 0) a → Knows (e ∷ h) (Maker b) a
unfolding Knows
maker-reads h e b a step true m w = inr (yes-makes e b m, (maker_of e, maker-client e b (yes-makes e b m), step (Client (maker_of e)) w))
maker-reads h e b a step false m w = absurd (within-none h a w)

pub within-known : (h : List Tale) (who : Who) (a : Point) → Within h (known h who) a → Knows h who a
unfolding Knows Within
within-known [] who a w = absurd w
within-known (e ∷ h) (Client c) a (inl w) =
    elim (within-or h (known (e ∷ h) (Client c)) (known h (Client c)) (λ d. if is_of e c then read_count e (λ p. known h (Maker p) d) else 0) a
    (λ n d l k. elim (client-splits e h c n d l k) [ inl x ↦ inl x | inr x ↦ inr (own-more (is_of e c) n (read_count e (λ p. known h (Maker p) d)) x.0 x.1) ]) w) [
      | inl x ↦ inl (within-known h (Client c) a x)
      | inr x ↦ client-reads h e c a (λ v y. within-known h v a y) (is_of e c) refl x
    ]
within-known (e ∷ h) (Client c) a (inr w) = inr (newest-own e h c w.0 w.2 w.3, added-learned e a (λ v. Knows h v a) w.1)
within-known (e ∷ h) (Maker b) a (inl w) =
    elim (within-or h (known (e ∷ h) (Maker b)) (known h (Maker b)) (λ d. if makes e b then known h (Client (maker_of e)) d else 0) a
    (λ n d l k. elim (maker-splits e h b n d k) [ inl x ↦ inl x | inr x ↦ inr (own-more (makes e b) n (known h (Client (maker_of e)) d) x.0 x.1) ]) w) [
      | inl x ↦ inl (within-known h (Maker b) a x)
      | inr x ↦ maker-reads h e b a (λ v y. within-known h v a y) (makes e b) refl x
    ]
within-known (e ∷ h) (Maker b) a (inr w) = absurd (maker-newest e h b w.0 w.3)
  where
    maker-newest : (e : Tale) (h : List Tale) (b : Point) (d : ℕ) → length h < known (e ∷ h) (Maker b) d → ⊥
    maker-newest e h b d l =
        elim (maker-splits e h b (length h) d l) [
          | inl x ↦ (let k : known h (Maker b) d ≤ length h = known-bound h (Maker b) d in omega arith)
          | inr x ↦ (let k : known h (Client (maker_of e)) d ≤ length h = known-bound h (Client (maker_of e)) d in let y : length h < known h (Client (maker_of e)) d = x.1 in omega arith)
        ]

pub counted : (h : List Tale) (who : Who) (a : Point) → Knows h who a ↔ Within h (known h who) a
counted h who a = (known-within h who a, within-known h who a)
