-- Histories as the first entries of a list, and who made a point first.
use Rattle.std.specs.Prelude.{◌≡◌, ◌⊎◌, ◌<◌, ◌≤◌, ◌+◌, ℕ, zero, suc, Bool, true, false, List, [], ◌∷◌, ◌++◌, length, reverse, take, drop, get_or, Option, Some, None, refl, max, if◌then◌else◌}
use Rattle.std.proofs.Common.{sym, subst, arith, inl, inr, ap, ◌∙◌}
use Rattle.std.proofs.lemmas.List.{take_more, reverse-append, length-reverse, length-take-le, take-append-drop, take_all}
use Rattle.sat_label.specs.declared.point.Point.{Point}
use Rattle.sat_verdict.specs.declared.tale.Tale.{Tale}
use Rattle.sat_verdict.specs.declared.tale.Tale.TheVariants.{Other}
use Rattle.sat_verdict.specs.Entries.{made_in, makes}
use Rattle.sat_verdict.specs.Causes.{Client, Maker}
use Rattle.sat_verdict.specs.Counts.{known, maker_of}
use Rattle.sat_verdict.specs.Goals.{Stands}
use Rattle.sat_verdict.specs.Found.{made_number}
use Rattle.sat_verdict.specs.Tables.{told, IsUnique}
use Rattle.sat_verdict.proofs.Counted.{some_is, yes-makes}

-- ---- the first entries

pub told-next : (xs : List Tale) (i : ℕ) (d : Tale) → i < length xs → told xs (i + 1) ≡ get_or xs i d ∷ told xs i
told-next xs i d l = ap (λ (ys : List Tale). reverse ys) (take_more xs i d l) ∙ reverse-append (take i xs) (get_or xs i d ∷ [])

pub told-length : (xs : List Tale) (i : ℕ) → i ≤ length xs → length (told xs i) ≡ i
told-length xs i l = length-reverse (take i xs) ∙ length-take-le i xs l

pub told-all : (xs : List Tale) → told xs (length xs) ≡ reverse xs
told-all xs = ap (λ (ys : List Tale). reverse ys) (take_all (length xs) xs (omega arith))

pub told-split : (xs : List Tale) (i : ℕ) → reverse xs ≡ reverse (drop i xs) ++ told xs i
told-split xs i = ap (λ (ys : List Tale). reverse ys) (sym (take-append-drop i xs)) ∙ reverse-append (take i xs) (drop i xs)

-- ---- the first maker

chosen_old : (o : Option ℕ) (b : Bool) (l n : ℕ) → o ≡ Some n → elim o [ Some m ↦ Some m | None ↦ if b then Some l else None ] ≡ Some n
chosen_old (Some m) b l n e = ap Some (some_is m n e)
chosen_old None b l n e = absurd (cc)

none_chosen : (o : Option ℕ) (b : Bool) (l : ℕ) → ◌≡◌ {A = Option ℕ} (elim o [ Some m ↦ Some m | None ↦ if b then Some l else None ]) None → (o ≡ None) × (b ≡ false)
none_chosen (Some m) b l e = absurd (cc)
none_chosen None true l e = absurd (cc)
none_chosen None false l e = (refl, refl)

some_chosen : (o : Option ℕ) (b : Bool) (l n : ℕ) → elim o [ Some m ↦ Some m | None ↦ if b then Some l else None ] ≡ Some n → (o ≡ Some n) ⊎ ((o ≡ None) × (b ≡ true) × (n ≡ l))
some_chosen (Some m) b l n e = inl (ap Some (some_is m n e))
some_chosen None true l n e = inr (refl, refl, sym (some_is l n e))
some_chosen None false l n e = absurd (cc)

pub made-older : (e : Tale) (h : List Tale) (p : Point) (n : ℕ) → made_number h p ≡ Some n → made_number (e ∷ h) p ≡ Some n
unfolding made_number
made-older e h p n m = chosen_old (made_number h p) (makes e p) (suc (length h)) n m

pub made-splits : (e : Tale) (h : List Tale) (p : Point) (n : ℕ) → made_number (e ∷ h) p ≡ Some n → (made_number h p ≡ Some n) ⊎ ((made_number h p ≡ None) × (makes e p ≡ true) × (n ≡ suc (length h)))
unfolding made_number
made-splits e h p n m = some_chosen (made_number h p) (makes e p) (suc (length h)) n m

pub unmade-parts : (e : Tale) (h : List Tale) (p : Point) → made_number (e ∷ h) p ≡ None → (made_number h p ≡ None) × (makes e p ≡ false)
unfolding made_number
unmade-parts e h p m = none_chosen (made_number h p) (makes e p) (suc (length h)) m

pub made-stays : (g h : List Tale) (p : Point) (n : ℕ) → made_number h p ≡ Some n → made_number (g ++ h) p ≡ Some n
made-stays [] h p n m = m
made-stays (e ∷ g) h p n m = made-older e (g ++ h) p n (made-stays g h p n m)

length-longer : (g h : List Tale) → length h ≤ length (g ++ h)
length-longer [] h = omega arith
length-longer (e ∷ g) h = let l : length h ≤ length (g ++ h) = length-longer g h in omega arith

pub made-late : (g h : List Tale) (p : Point) (n : ℕ) → made_number h p ≡ None → made_number (g ++ h) p ≡ Some n → length h < n
made-late [] h p n none m = absurd (let e : None ≡ Some n = sym none ∙ m in cc)
made-late (e ∷ g) h p n none m =
    elim (made-splits e (g ++ h) p n m) [ inl x ↦ made-late g h p n none x | inr x ↦ (let l : length h ≤ length (g ++ h) = length-longer g h in let y : n ≡ suc (length (g ++ h)) = x.2 in omega arith) ]

pub made-number-bound : (h : List Tale) (p : Point) (n : ℕ) → made_number h p ≡ Some n → (0 < n) × (n ≤ length h)
unfolding made_number
made-number-bound [] p n m = absurd (cc)
made-number-bound (e ∷ h) p n m =
    elim (made-splits e h p n m) [
      | inl x ↦ (let b : (0 < n) × (n ≤ length h) = made-number-bound h p n x in let l : n ≤ length h = b.1 in (b.0, omega arith))
      | inr x ↦ (let y : n ≡ suc (length h) = x.2 in (omega arith, omega arith))
    ]

pub unique-part : (g h : List Tale) → IsUnique (g ++ h) → IsUnique h
unfolding IsUnique
unique-part [] h u = u
unique-part (e ∷ g) h u = unique-part g h u.0

-- ---- what the maker of a point knew

unchosen : (b : Bool) (x y : ℕ) → b ≡ false → x ≡ 0 → (if b then max x y else x) ≡ 0
unchosen true x y e z = absurd (cc)
unchosen false x y e z = z

pub unmade-none : (h : List Tale) (p : Point) (d : ℕ) → made_number h p ≡ None → known h (Maker p) d ≡ 0
unfolding known
unmade-none [] p d m = refl
unmade-none (e ∷ h) p d m =
    let w : (made_number h p ≡ None) × (makes e p ≡ false) = unmade-parts e h p m in
    unchosen (makes e p) (known h (Maker p) d) (known h (Client (maker_of e)) d) w.1 (unmade-none h p d w.0)

other-maker : (b : Bool) (x y : ℕ) → b ≡ false → (if b then max x y else x) ≡ x
other-maker true x y e = absurd (cc)
other-maker false x y e = refl

this-maker : (b : Bool) (x y : ℕ) → b ≡ true → x ≡ 0 → (if b then max x y else x) ≡ y
this-maker true x y e z = let w : max x y ≡ y = omega arith in w
this-maker false x y e z = absurd (cc)

known-older : (e : Tale) (h : List Tale) (p : Point) (d : ℕ) → makes e p ≡ false → known (e ∷ h) (Maker p) d ≡ known h (Maker p) d
unfolding known
known-older e h p d m = other-maker (makes e p) (known h (Maker p) d) (known h (Client (maker_of e)) d) m

known-newest : (e : Tale) (h : List Tale) (p : Point) (d : ℕ) → makes e p ≡ true → made_number h p ≡ None → known (e ∷ h) (Maker p) d ≡ known h (Client (maker_of e)) d
unfolding known
known-newest e h p d m none = this-maker (makes e p) (known h (Maker p) d) (known h (Client (maker_of e)) d) m (unmade-none h p d none)

-- the entry that made a point, and what its client knew
pub record WasMade (h : List Tale) (p : Point) (n d : ℕ) : Type 0 where
  pub entry : Tale
  pub before : List Tale
  pub stands : Stands h entry before
  pub made : made_in entry ≡ Some p
  pub number : n ≡ suc (length before)
  pub knew : known h (Maker p) d ≡ known before (Client (maker_of entry)) d

not-again : (e : Tale) (h : List Tale) (p : Point) (n : ℕ) → IsUnique (e ∷ h) → made_number h p ≡ Some n → makes e p ≡ false
unfolding IsUnique
not-again e h p n u m = go (makes e p) refl
  where
    go : (b : Bool) → makes e p ≡ b → makes e p ≡ false
    go false t = t
    go true t = absurd (let x : Some n ≡ None = sym m ∙ u.1 p (yes-makes e p t) in cc)

unique-before : (e : Tale) (h : List Tale) → IsUnique (e ∷ h) → IsUnique h
unfolding IsUnique
unique-before e h u = u.0

pub was-made : (h : List Tale) (p : Point) (n d : ℕ) → IsUnique h → made_number h p ≡ Some n → WasMade h p n d
unfolding Stands made_number
was-made [] p n d u m = absurd (cc)
was-made (e ∷ h) p n d u m =
    elim (made-splits e h p n m) [
      | inl x ↦
          (let w : WasMade h p n d = was-made h p n d (unique-before e h u) x in
          record { entry = w.entry; before = w.before; stands = inl w.stands; made = w.made; number = w.number; knew = known-older e h p d (not-again e h p n u x) ∙ w.knew })
      | inr x ↦ record { entry = e; before = h; stands = inr (refl, refl); made = yes-makes e p x.1; number = x.2; knew = known-newest e h p d x.1 x.0 }
    ]

-- ---- entries by their places

pub record StandsAt (xs : List Tale) (i : ℕ) (e : Tale) (before : List Tale) : Type 0 where
  pub below : length before < i
  pub entry : e ≡ get_or xs (length before) Other
  pub told_is : before ≡ told xs (length before)

stands-next : (xs : List Tale) (i : ℕ) (e : Tale) (before : List Tale) → i < length xs → (Stands (told xs i) e before → StandsAt xs i e before) → Stands (told xs (suc i)) e before →
    StandsAt xs (suc i) e before
unfolding Stands
stands-next xs i e before lt rec s = go (subst (λ (h : List Tale). Stands h e before) step s)
  where
    len : length (told xs i) ≡ i
    len = told-length xs i (omega arith)

    one : suc i ≡ i + 1
    one = omega arith

    step : told xs (suc i) ≡ get_or xs i Other ∷ told xs i
    step = ap (λ (n : ℕ). told xs n) one ∙ told-next xs i Other lt

    go : Stands (get_or xs i Other ∷ told xs i) e before → StandsAt xs (suc i) e before
    go (inl t) =
        let r : StandsAt xs i e before = rec t in
        let b : length before < i = r.below in
        record { below = omega arith; entry = r.entry; told_is = r.told_is }
    go (inr t) =
        let q : length before ≡ i = ap (λ (h : List Tale). length h) (sym t.1) ∙ len in
        record {
          below = omega arith;
          entry = sym t.0 ∙ ap (λ (n : ℕ). get_or xs n Other) (sym q);
          told_is = sym t.1 ∙ ap (λ (n : ℕ). told xs n) (sym q);
        }

pub stands-told : (xs : List Tale) (i : ℕ) (e : Tale) (before : List Tale) → i ≤ length xs → Stands (told xs i) e before → StandsAt xs i e before
unfolding Stands
stands-told xs zero e before l s = absurd s
stands-told xs (suc i) e before l s = stands-next xs i e before (omega arith) (λ t. stands-told xs i e before (omega arith) t) s
