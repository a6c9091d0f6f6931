-- What is noted for a reader: it only rises, and tells that a read missed nothing.
use Rattle.std.specs.Prelude.{◌≡◌, ◌⊎◌, ◌<◌, ◌≤◌, ◌+◌, ◌-◌, ◌==◌, ◌&&◌, not, ℕ, zero, suc, Bool, true, false, List, [], ◌∷◌, length, get_or, set, Option, Some, None, refl, nat_lt, if◌then◌else◌}
use Rattle.std.proofs.Common.{sym, subst, arith, inl, inr, ap, ◌∙◌}
use Rattle.std.proofs.lemmas.Bool.{cases_eq, cases_lt}
use Rattle.std.proofs.lemmas.Bool.Decides.{nat_tests}
use Rattle.std.proofs.lemmas.List.{get_or-set_same, get_or-set_other, length-set}
use Rattle.sat_label.specs.declared.point.Point.{Point}
use Rattle.sat_label.specs.Order.{point_lt, point_le}
use Rattle.sat_verdict.specs.declared.tale.Tale.{Tale}
use Rattle.sat_verdict.specs.declared.tale.Tale.TheVariants.{Wrote, Moved, ReadNone, ReadSome, Shown, Other}
use Rattle.sat_verdict.specs.declared.greatest.Noted.{Noted}
use Rattle.sat_verdict.specs.Entries.{client_of}
use Rattle.sat_verdict.specs.Found.{miss_by}
use Rattle.sat_verdict.specs.Tables.{option_of, scan}
use Rattle.sat_verdict.specs.Passes.{item_of, passes, table_fresh, table_miss, table_misses}
use Rattle.sat_verdict.specs.Walks.{IsOwn, IsPast}
use Rattle.sat_verdict.specs.Greatest.{greatest_of, reaches, is_reached, Rises, Absorbs, AreAbsorbed, AreRead, AreFresh, is_none_above}
use Rattle.sat_verdict.proofs.Linkings.{Walked}
use Rattle.sat_verdict.proofs.Clear.{scan-none, none-told, past-or-below, past-set}

-- ---- entries

pub absorbs-rise : (xs : List Tale) (old new : List Noted) (reader number : ℕ) (e : Tale) → Rises reader old new → Absorbs xs old reader number e → Absorbs xs new reader number e
absorbs-rise xs old new reader number e up all p x i l t = up x p (all p x i l t)

pub walked-rises : (xs : List Tale) (numbers : List ℕ) (old new : List Noted) (reader c from at : ℕ) → Rises reader old new →
    Walked xs (λ j. Absorbs xs old reader (get_or numbers j 0) (get_or xs j Other)) c from at → Walked xs (λ j. Absorbs xs new reader (get_or numbers j 0) (get_or xs j Other)) c from at
walked-rises xs numbers old new reader c from at up w =
    record { on = w.on; own = w.own; each = λ j a b o. absorbs-rise xs old new reader (get_or numbers j 0) (get_or xs j Other) up (w.each j a b o) }

-- ---- places

pub read-rises : (xs : List Tale) (numbers : List ℕ) (old new : List Noted) (reader : ℕ) (places : List ℕ) → Rises reader old new → AreRead xs numbers old reader places → AreRead xs numbers new reader places
read-rises xs numbers old new reader places up r =
    record { own = r.own; absorbed = λ c l j a b o. absorbs-rise xs old new reader (get_or numbers j 0) (get_or xs j Other) up (r.absorbed c l j a b o) }

pub read-set : (xs : List Tale) (numbers : List ℕ) (old new : List Noted) (reader : ℕ) (places : List ℕ) (c at : ℕ) → c < length places → AreRead xs numbers old reader places → Rises reader old new →
    IsOwn xs c at → AreAbsorbed xs numbers new reader c (get_or places c 0) at → AreRead xs numbers new reader (set places c at)
read-set xs numbers old new reader places c at few before up own more =
    record { own = λ d l. own-at d (less d l) (cases_eq d c); absorbed = λ d l. absorbed-at d (less d l) (cases_eq d c) }
  where
    r : AreRead xs numbers new reader places
    r = read-rises xs numbers old new reader places up before

    less : (d : ℕ) → d < length (set places c at) → d < length places
    less d l = subst (λ (n : ℕ). d < n) (length-set places c at) l

    own-at : (d : ℕ) → d < length places → (d ≡ c) ⊎ (d ≡ c → ⊥) → IsOwn xs d (get_or (set places c at) d 0)
    own-at d l (inl e) =
        subst (λ (n : ℕ). IsOwn xs n (get_or (set places c at) n 0)) (sym e) (subst (λ (m : ℕ). IsOwn xs c m) (sym (get_or-set_same places c at 0 few)) own)
    own-at d l (inr n) = subst (λ (m : ℕ). IsOwn xs d m) (sym (get_or-set_other places c d at 0 n)) (r.own d l)

    all : AreAbsorbed xs numbers new reader c 0 at
    all j a b o = elim (cases_lt j (get_or places c 0)) [ inl l ↦ r.absorbed c few j a l o | inr l ↦ more j l b o ]

    absorbed-at : (d : ℕ) → d < length places → (d ≡ c) ⊎ (d ≡ c → ⊥) → AreAbsorbed xs numbers new reader d 0 (get_or (set places c at) d 0)
    absorbed-at d l (inl e) =
        subst (λ (n : ℕ). AreAbsorbed xs numbers new reader n 0 (get_or (set places c at) n 0)) (sym e)
        (subst (λ (m : ℕ). AreAbsorbed xs numbers new reader c 0 m) (sym (get_or-set_same places c at 0 few)) all)
    absorbed-at d l (inr n) = subst (λ (m : ℕ). AreAbsorbed xs numbers new reader d 0 m) (sym (get_or-set_other places c d at 0 n)) (r.absorbed d l)

pub read-step : (xs : List Tale) (numbers : List ℕ) (old new : List Noted) (reader : ℕ) (counts : ℕ → ℕ) (places places' : List ℕ) (c end from to at : ℕ) →
    (length places ≡ end) × (length old ≡ 65536) × AreRead xs numbers old reader places × ((d : ℕ) → d < c → IsPast xs (counts d) (get_or places d 0)) → c < end → from ≡ get_or places c 0 → to ≡ counts c →
    length new ≡ 65536 → Rises reader old new → ((d : ℕ) → IsOwn xs d from → IsOwn xs d at × IsPast xs to at × AreAbsorbed xs numbers new reader d from at) → places' ≡ set places c at →
    (length places' ≡ end) × (length new ≡ 65536) × AreRead xs numbers new reader places' × ((d : ℕ) → d < c + 1 → IsPast xs (counts d) (get_or places' d 0))
read-step xs numbers old new reader counts places places' c end from to at inv low from_is to_is size up walk set_is =
    subst (λ (ys : List ℕ). (length ys ≡ end) × (length new ≡ 65536) × AreRead xs numbers new reader ys × ((d : ℕ) → d < c + 1 → IsPast xs (counts d) (get_or ys d 0))) (sym set_is) (
      length-set places c at ∙ inv.0,
      size,
      read-set xs numbers old new reader places c at few inv.2 up w.0 (subst (λ (n : ℕ). AreAbsorbed xs numbers new reader c n at) from_is w.2),
      past-set xs counts places c at few inv.3 (subst (λ (n : ℕ). IsPast xs n at) to_is w.1),
    )
  where
    few : c < length places
    few = omega (arith, inv.0, low)

    w : IsOwn xs c at × IsPast xs to at × AreAbsorbed xs numbers new reader c from at
    w = walk c (subst (λ (n : ℕ). IsOwn xs c n) (sym from_is) (inv.2.own c few))

-- ---- marks

pub read-some : (xs : List Tale) (numbers : List ℕ) (rows : List (List ℕ)) (i : ℕ) (e : Tale) (c x : ℕ) (p : Point) → e ≡ ReadSome c x p → scan (table_misses xs numbers rows i x (Some p)) i ≡ None →
    table_fresh xs numbers rows i e ≡ None
read-some xs numbers rows i e c x p is none = ap (λ (f : Tale). table_fresh xs numbers rows i f) is ∙ ap (λ (o : Option ℕ). miss_by (i + 1) o) none

pub read-none : (xs : List Tale) (numbers : List ℕ) (rows : List (List ℕ)) (i : ℕ) (e : Tale) (c x : ℕ) → e ≡ ReadNone c x → scan (table_misses xs numbers rows i x None) i ≡ None →
    table_fresh xs numbers rows i e ≡ None
read-none xs numbers rows i e c x is none = ap (λ (f : Tale). table_fresh xs numbers rows i f) is ∙ ap (λ (o : Option ℕ). miss_by (i + 1) o) none

pub marks-set : (xs : List Tale) (numbers : List ℕ) (rows : List (List ℕ)) (marks : List Bool) (at : ℕ) (b : Bool) → at < length marks → AreFresh xs numbers rows marks →
    (b ≡ true → table_fresh xs numbers rows at (get_or xs at Other) ≡ None) → AreFresh xs numbers rows (set marks at b)
marks-set xs numbers rows marks at b few all here i e = go (cases_eq i at)
  where
    go : (i ≡ at) ⊎ (i ≡ at → ⊥) → table_fresh xs numbers rows i (get_or xs i Other) ≡ None
    go (inl q) =
        subst (λ (n : ℕ). table_fresh xs numbers rows n (get_or xs n Other) ≡ None) (sym q)
        (here (sym (get_or-set_same marks at b false few) ∙ subst (λ (n : ℕ). get_or (set marks at b) n false ≡ true) q e))
    go (inr n) = all i (sym (get_or-set_other marks at i b false n) ∙ e)

pub no-marks : (xs : List Tale) (numbers : List ℕ) (rows : List (List ℕ)) (marks : List Bool) → ((i : ℕ) → get_or marks i false ≡ false) → AreFresh xs numbers rows marks
no-marks xs numbers rows marks none i e = absurd (let f : false ≡ true = sym (none i) ∙ e in cc)

-- ---- a read that missed nothing

under : (p q a : Point) → point_le a q ≡ true → point_lt p q ≡ false → point_lt p a ≡ false
under p q a l e = grind (arith, nat_tests)

pub none-above : (noted seen : List Noted) (reader x : ℕ) (greatest read : Option Point) (b : Bool) → seen ≡ noted → greatest ≡ greatest_of seen reader x → b ≡ is_none_above greatest read → b ≡ true →
    is_none_above (greatest_of noted reader x) read ≡ true
none-above noted seen reader x greatest read b seen_is is test holds =
    ap (λ (ns : List Noted). is_none_above (greatest_of ns reader x) read) (sym seen_is) ∙ (ap (λ (o : Option Point). is_none_above o read) (sym is) ∙ (sym test ∙ holds))

passed-none : (greatest read : Option Point) (a : Point) → reaches greatest a ≡ true → is_none_above greatest read ≡ true → passes read a ≡ false
passed-none None read a r n = absurd (cc)
passed-none (Some q) None a r n = absurd (cc)
passed-none (Some q) (Some p) a r n = under p q a r (go (point_lt p q) n)
  where
    go : (t : Bool) → not t ≡ true → t ≡ false
    go true e = absurd (cc)
    go false e = refl

-- an entry of which nothing is told
silent : (number : ℕ) (i p : Bool) → (0 < number → i ≡ true → p ≡ false) → (not (number == 0) && (i && p)) ≡ false
silent zero i p f = refl
silent (suc n) true p f = ap (λ (t : Bool). not (suc n == 0) && t) (f (omega arith) refl) ∙ rest (not (suc n == 0))
  where
    rest : (t : Bool) → (t && false) ≡ false
    rest true = refl
    rest false = refl
silent (suc n) false p f = rest (not (suc n == 0))
  where
    rest : (t : Bool) → (t && false) ≡ false
    rest true = refl
    rest false = refl

module _ (xs : List Tale) (numbers : List ℕ) (rows : List (List ℕ)) (noted : List Noted) (reader place x : ℕ) (read : Option Point) (none : is_none_above (greatest_of noted reader x) read ≡ true) where
  telling : (j number c : ℕ) (a : Point) → (nat_lt j (get_or (get_or rows place []) c 0) ≡ false) ⊎ (0 < number → item_of x (get_or xs (number - 1) Other) ≡ true → is_reached noted reader x a ≡ true) →
      (if nat_lt j (get_or (get_or rows place []) c 0) && (item_of x (get_or xs (number - 1) Other) && passes read a) then option_of number else None) ≡ None
  telling j number c a (inl e) = none-told (nat_lt j (get_or (get_or rows place []) c 0)) (item_of x (get_or xs (number - 1) Other) && passes read a) number (inl e)
  telling j number c a (inr f) =
      none-told (nat_lt j (get_or (get_or rows place []) c 0)) (item_of x (get_or xs (number - 1) Other) && passes read a) number
      (inr (silent number (item_of x (get_or xs (number - 1) Other)) (passes read a) (λ l t. passed-none (greatest_of noted reader x) read a (f l t) none)))

  none-misses : (j number : ℕ) (e : Tale) → ((c : ℕ) → client_of e ≡ Some c → (nat_lt j (get_or (get_or rows place []) c 0) ≡ false) ⊎ Absorbs xs noted reader number e) →
      table_miss xs rows place x read j number e ≡ None
  none-misses j number (Wrote c ys b) w = telling j number c b (elim (w c refl) [ inl l ↦ inl l | inr f ↦ inr (λ l t. f b x refl l t) ])
  none-misses j number (ReadSome c y p) w = telling j number c p (elim (w c refl) [ inl l ↦ inl l | inr f ↦ inr (λ l t. f p x refl l t) ])
  none-misses j number (Moved c b) w = refl
  none-misses j number (ReadNone c y) w = refl
  none-misses j number (Shown k p) w = refl
  none-misses j number Other w = refl

  pub fresh-scan : (places : List ℕ) → ((j c : ℕ) → j < length xs → client_of (get_or xs j Other) ≡ Some c → c < length places) → place ≤ length xs → AreRead xs numbers noted reader places →
      ((c : ℕ) → c < length places → IsPast xs (get_or (get_or rows place []) c 0) (get_or places c 0)) → scan (table_misses xs numbers rows place x read) place ≡ None
  fresh-scan places below l are past =
      scan-none (table_misses xs numbers rows place x read) place (λ j low. none-misses j (get_or numbers j 0) (get_or xs j Other) (λ c o. each j c (omega arith) o))
    where
      each : (j c : ℕ) → j < length xs → client_of (get_or xs j Other) ≡ Some c →
          (nat_lt j (get_or (get_or rows place []) c 0) ≡ false) ⊎ Absorbs xs noted reader (get_or numbers j 0) (get_or xs j Other)
      each j c low o =
          let few : c < length places = below j c low o in
          elim (past-or-below xs j (get_or (get_or rows place []) c 0) (get_or places c 0) low (past c few)) [
            | inl e ↦ inl e
            | inr m ↦ inr (are.absorbed c few j (omega arith) m o)
          ]
