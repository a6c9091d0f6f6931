-- The pass over the reads.
use Rattle.std.specs.Prelude.{◌≡◌, ◌<◌, ◌≤◌, ◌+◌, ◌-◌, ℕ, suc, Bool, true, false, List, [], ◌∷◌, length, reverse, map, get_or, Option, Some, None, refl, ◌==◌, ◌&&◌, ◌||◌, nat_lt, if◌then◌else◌}
use Rattle.std.proofs.Common.{sym, subst, arith, inl, inr, ap, ◌∙◌}
use Rattle.std.proofs.lemmas.List.{get_or-map, get_or_default, take_all}
use Rattle.sat_label.specs.declared.point.Point.{Point}
use Rattle.sat_label.specs.Grouped.{list_of}
use Rattle.sat_label.specs.Words.{has}
use Rattle.sat_verdict.specs.declared.tale.Tale.{Tale}
use Rattle.sat_verdict.specs.declared.tale.Tale.TheVariants.{Wrote, Moved, ReadNone, ReadSome, Shown, Other}
use Rattle.sat_verdict.specs.Entries.{client_of, makes}
use Rattle.sat_verdict.specs.Causes.{Client}
use Rattle.sat_verdict.specs.Counts.{known}
use Rattle.sat_verdict.specs.Goals.{Stands}
use Rattle.sat_verdict.specs.Verdicts.{IsFreshVerdict}
use Rattle.sat_verdict.specs.Found.{item_now, has_item, made_number, lower, within_now, least_within, is_missed, miss_by, miss_now, first, first_miss}
use Rattle.sat_verdict.specs.Tables.{number_or, number_in, told, IsUnique, HasClients, AreRows, scan}
use Rattle.sat_verdict.specs.Passes.{item_of, passes, table_miss_by, table_miss, table_misses, table_fresh}
use Rattle.sat_verdict.proofs.Columns.{column-at}
use Rattle.sat_verdict.proofs.Counted.{yes-makes}
use Rattle.sat_verdict.proofs.Histories.{told-next, told-length, told-all, made-number-bound, made-splits, unmade-parts, StandsAt, stands-told}
use Rattle.sat_verdict.proofs.Scanned.{option-of, same-pick, scan-within, scan-next}
use Rattle.sat_verdict.proofs.Found.{found-fresh}

or_none : (a : Bool) → (a || false) ≡ a
or_none true = refl
or_none false = refl

and_true : (a : Bool) → (a && true) ≡ a
and_true true = refl
and_true false = refl

-- ---- the items of a point are those of its maker

item_apart : (x : ℕ) (p : Point) (e : Tale) → makes e p ≡ false → item_now p x e ≡ false
item_apart x p (Wrote c xs b) m = ap (λ (t : Bool). t && has ◌==◌ (list_of xs) x) m
item_apart x p (Moved c b) m = refl
item_apart x p (ReadNone c y) m = refl
item_apart x p (ReadSome c y q) m = refl
item_apart x p (Shown j q) m = refl
item_apart x p Other m = refl

item_here : (x : ℕ) (p : Point) (e : Tale) → makes e p ≡ true → item_now p x e ≡ item_of x e
item_here x p (Wrote c xs b) m = ap (λ (t : Bool). t && has ◌==◌ (list_of xs) x) m
item_here x p (Moved c b) m = refl
item_here x p (ReadNone c y) m = refl
item_here x p (ReadSome c y q) m = refl
item_here x p (Shown j q) m = refl
item_here x p Other m = refl

unmade-item : (h : List Tale) (x : ℕ) (p : Point) → made_number h p ≡ None → has_item h p x ≡ false
unfolding has_item
unmade-item [] x p m = refl
unmade-item (e ∷ h) x p m =
    let w : (made_number h p ≡ None) × (makes e p ≡ false) = unmade-parts e h p m in
    ap (λ (t : Bool). t || item_now p x e) (unmade-item h x p w.0) ∙ item_apart x p e w.1

record ItemAs (h : List Tale) (x : ℕ) (p : Point) (n : ℕ) : Type 0 where
  pub entry : Tale
  pub before : List Tale
  pub stands : Stands h entry before
  pub number : n ≡ suc (length before)
  pub item : has_item h p x ≡ item_of x entry

not_again : (e : Tale) (h : List Tale) (p : Point) (n : ℕ) → IsUnique (e ∷ h) → made_number h p ≡ Some n → makes e p ≡ false
unfolding IsUnique
not_again e h p n u m = go (makes e p) refl
  where
    go : (b : Bool) → makes e p ≡ b → makes e p ≡ false
    go false t = t
    go true t = absurd (let x : Some n ≡ None = sym m ∙ u.1 p (yes-makes e p t) in cc)

older_unique : (e : Tale) (h : List Tale) → IsUnique (e ∷ h) → IsUnique h
unfolding IsUnique
older_unique e h u = u.0

item-as : (h : List Tale) (x : ℕ) (p : Point) (n : ℕ) → IsUnique h → made_number h p ≡ Some n → ItemAs h x p n
unfolding has_item Stands made_number
item-as [] x p n u m = absurd (cc)
item-as (e ∷ h) x p n u m =
    elim (made-splits e h p n m) [
      | inl y ↦
          (let w : ItemAs h x p n = item-as h x p n (older_unique e h u) y in
          record { entry = w.entry; before = w.before; stands = inl w.stands; number = w.number; item = ap (λ (t : Bool). has_item h p x || t) (item_apart x p e (not_again e h p n u y)) ∙ (or_none (has_item h p x) ∙ w.item) })
      | inr y ↦ record { entry = e; before = h; stands = inr (refl, refl); number = y.2; item = ap (λ (t : Bool). t || item_now p x e) (unmade-item h x p y.0) ∙ item_here x p e y.1 }
    ]

made-item : (xs : List Tale) (x : ℕ) (p : Point) (n : ℕ) → IsUnique (reverse xs) → made_number (reverse xs) p ≡ Some n → item_of x (get_or xs (n - 1) Other) ≡ has_item (reverse xs) p x
made-item xs x p n u m =
    let all : reverse xs ≡ told xs (length xs) = sym (told-all xs) in
    let w : ItemAs (reverse xs) x p n = item-as (reverse xs) x p n u m in
    let s : StandsAt xs (length xs) w.entry w.before = stands-told xs (length xs) w.entry w.before (omega arith) (subst (λ (h : List Tale). Stands h w.entry w.before) all w.stands) in
    let q : n - 1 ≡ length w.before = let z : n ≡ suc (length w.before) = w.number in omega arith in
    ap (λ (j : ℕ). item_of x (get_or xs j Other)) q ∙ (ap (λ (e : Tale). item_of x e) (sym s.entry) ∙ sym w.item)

-- ---- one read

module _ (xs : List Tale) (rows : List (List ℕ)) (numbers : List ℕ) (clients i : ℕ) (unique : IsUnique (reverse xs)) (below : HasClients clients xs)
    (numbers_are : numbers ≡ map (number_in (reverse xs)) xs) (are : AreRows xs clients rows) (l : i < length xs) where
  miss-by : (r x : ℕ) (read : Option Point) (pass : Point → Bool) → ((a : Point) → pass a ≡ (has_item (reverse xs) a x && passes read a)) → (j c : ℕ) (p : Point) →
      get_or (get_or rows i []) c 0 ≡ known (told xs i) (Client r) c →
      table_miss_by xs rows i x read j (number_or (made_number (reverse xs) p)) c p ≡ (if nat_lt j (known (told xs i) (Client r) c) && pass p then made_number (reverse xs) p else None)
  miss-by r x read pass passing j c p column =
      ap (λ (o : Option ℕ). if nat_lt j (get_or (get_or rows i []) c 0) && (item_of x (get_or xs (number_or (made_number (reverse xs) p) - 1) Other) && passes read p) then o else None)
      (option-of (made_number (reverse xs) p) (λ n e. (made-number-bound (reverse xs) p n e).0)) ∙
      same-pick (nat_lt j (get_or (get_or rows i []) c 0) && (item_of x (get_or xs (number_or (made_number (reverse xs) p) - 1) Other) && passes read p))
      (nat_lt j (known (told xs i) (Client r) c) && pass p) (made_number (reverse xs) p)
      (λ n e.
      ap (λ (m : ℕ). nat_lt j m && (item_of x (get_or xs (number_or (made_number (reverse xs) p) - 1) Other) && passes read p)) column ∙
      (ap (λ (o : Option ℕ). nat_lt j (known (told xs i) (Client r) c) && (item_of x (get_or xs (number_or o - 1) Other) && passes read p)) e ∙
      (ap (λ (t : Bool). nat_lt j (known (told xs i) (Client r) c) && (t && passes read p)) (made-item xs x p n unique e) ∙
      ap (λ (t : Bool). nat_lt j (known (told xs i) (Client r) c) && t) (sym (passing p)))))

  miss-in : (r x : ℕ) (read : Option Point) (pass : Point → Bool) → ((a : Point) → pass a ≡ (has_item (reverse xs) a x && passes read a)) → (j : ℕ) (e : Tale) →
      ((c : ℕ) → client_of e ≡ Some c → get_or (get_or rows i []) c 0 ≡ known (told xs i) (Client r) c) →
      table_miss xs rows i x read j (number_in (reverse xs) e) e ≡ within_now pass (made_number (reverse xs)) (known (told xs i) (Client r)) j e
  miss-in r x read pass passing j (Wrote c ys p) column = miss-by r x read pass passing j c p (column c refl)
  miss-in r x read pass passing j (ReadSome c y p) column = miss-by r x read pass passing j c p (column c refl)
  miss-in r x read pass passing j (Moved c p) column = refl
  miss-in r x read pass passing j (ReadNone c y) column = refl
  miss-in r x read pass passing j (Shown k p) column = refl
  miss-in r x read pass passing j Other column = refl

  misses-found : (r x : ℕ) (read : Option Point) (pass : Point → Bool) → ((a : Point) → pass a ≡ (has_item (reverse xs) a x && passes read a)) → client_of (get_or xs i Other) ≡ Some r →
      scan (table_misses xs numbers rows i x read) i ≡ least_within pass (made_number (reverse xs)) (known (told xs i) (Client r)) (told xs i)
  misses-found r x read pass passing reader =
      scan-within xs (table_misses xs numbers rows i x read) pass (made_number (reverse xs)) (known (told xs i) (Client r)) i (omega arith) each
    where
      column : (c : ℕ) → c < clients → get_or (get_or rows i []) c 0 ≡ known (told xs i) (Client r) c
      column c low = sym (column-at rows c i) ∙ are.1 c low i r l reader

      each : (j : ℕ) → j < i → table_misses xs numbers rows i x read j ≡ within_now pass (made_number (reverse xs)) (known (told xs i) (Client r)) j (get_or xs j Other)
      each j low =
          let high : j < length xs = omega arith in
          let number : get_or numbers j 0 ≡ number_in (reverse xs) (get_or xs j Other) =
          ap (λ (ys : List ℕ). get_or ys j 0) numbers_are ∙ get_or-map (number_in (reverse xs)) xs j Other 0 high in
          ap (λ (n : ℕ). table_miss xs rows i x read j n (get_or xs j Other)) number ∙
          miss-in r x read pass passing j (get_or xs j Other) (λ c o. column c (below j c high o))

  reading : (e : Tale) → e ≡ get_or xs i Other → table_fresh xs numbers rows i e ≡ miss_now (reverse xs) (told xs i) e
  reading (ReadSome c x p) is =
      ap (λ (o : Option ℕ). miss_by (i + 1) o) (misses-found c x (Some p) (is_missed (reverse xs) x p) (λ a. refl) (ap client_of (sym is))) ∙
      ap (λ (n : ℕ). miss_by n (least_within (is_missed (reverse xs) x p) (made_number (reverse xs)) (known (told xs i) (Client c)) (told xs i))) len
    where
      len : i + 1 ≡ suc (length (told xs i))
      len = let q : length (told xs i) ≡ i = told-length xs i (omega arith) in omega arith
  reading (ReadNone c x) is =
      ap (λ (o : Option ℕ). miss_by (i + 1) o) (misses-found c x None (λ a. has_item (reverse xs) a x) (λ a. sym (and_true (has_item (reverse xs) a x))) (ap client_of (sym is))) ∙
      ap (λ (n : ℕ). miss_by n (least_within (λ a. has_item (reverse xs) a x) (made_number (reverse xs)) (known (told xs i) (Client c)) (told xs i))) len
    where
      len : i + 1 ≡ suc (length (told xs i))
      len = let q : length (told xs i) ≡ i = told-length xs i (omega arith) in omega arith
  reading (Wrote c ys p) is = refl
  reading (Moved c p) is = refl
  reading (Shown k p) is = refl
  reading Other is = refl

miss-item : (xs : List Tale) (numbers : List ℕ) (rows : List (List ℕ)) (place x : ℕ) (read : Option Point) (n : ℕ) (e : Tale) (found : Option ℕ) → n < length xs → e ≡ get_or xs n e →
    found ≡ table_miss xs rows place x read n (get_or numbers n 0) e → found ≡ table_misses xs numbers rows place x read n
miss-item xs numbers rows place x read n e found l is f =
    f ∙ ap (λ (y : Tale). table_miss xs rows place x read n (get_or numbers n 0) y) (is ∙ get_or_default xs n e Other l)

pub miss-step : (xs : List Tale) (numbers : List ℕ) (rows : List (List ℕ)) (place x : ℕ) (read : Option Point) (n : ℕ) (e : Tale) (old found new : Option ℕ) → n < place → place ≤ length xs → e ≡ get_or xs n e →
    old ≡ scan (table_misses xs numbers rows place x read) n → found ≡ table_miss xs rows place x read n (get_or numbers n 0) e → new ≡ lower old found →
    new ≡ scan (table_misses xs numbers rows place x read) (n + 1)
miss-step xs numbers rows place x read n e old found new low l is a f b =
    let high : n < length xs = omega arith in
    b ∙ (ap (λ (o : Option ℕ). lower o found) a ∙
    (ap (λ (o : Option ℕ). lower (scan (table_misses xs numbers rows place x read) n) o) (miss-item xs numbers rows place x read n e found high is f) ∙
    sym (scan-next (table_misses xs numbers rows place x read) n)))

first-next : (whole before : List Tale) (e : Tale) → first_miss whole (e ∷ before) ≡ first (first_miss whole before) (miss_now whole before e)
unfolding first_miss
first-next whole before e = refl

pub fresh-start : (xs : List Tale) → None ≡ first_miss (reverse xs) (told xs 0)
unfolding first_miss
fresh-start xs = refl

pub fresh-next : (xs : List Tale) (rows : List (List ℕ)) (numbers : List ℕ) (clients i : ℕ) (e : Tale) (fresh fresh' : Option (ℕ × ℕ)) →
    IsUnique (reverse xs) → HasClients clients xs → numbers ≡ map (number_in (reverse xs)) xs → AreRows xs clients rows → i < length xs → e ≡ get_or xs i e →
    fresh ≡ first_miss (reverse xs) (told xs i) → fresh' ≡ first fresh (table_fresh xs numbers rows i e) → fresh' ≡ first_miss (reverse xs) (told xs (i + 1))
fresh-next xs rows numbers clients i e fresh fresh' unique below numbers_are are l is inv found =
    found ∙ (ap (λ (o : Option (ℕ × ℕ)). first fresh o) (reading xs rows numbers clients i unique below numbers_are are l e at) ∙
    (ap (λ (o : Option (ℕ × ℕ)). first o (miss_now (reverse xs) (told xs i) e)) inv ∙
    (sym (first-next (reverse xs) (told xs i) e) ∙ ap (λ (h : List Tale). first_miss (reverse xs) h) (sym step))))
  where
    at : e ≡ get_or xs i Other
    at = is ∙ get_or_default xs i e Other l

    step : told xs (i + 1) ≡ e ∷ told xs i
    step = told-next xs i Other l ∙ ap (λ (x : Tale). x ∷ told xs i) (sym at)

pub end-fresh : (xs : List Tale) (i : ℕ) (fresh : Option (ℕ × ℕ)) → length xs ≤ i → fresh ≡ first_miss (reverse xs) (told xs i) → IsFreshVerdict (reverse xs) fresh
end-fresh xs i fresh l is =
    subst (λ (o : Option (ℕ × ℕ)). IsFreshVerdict (reverse xs) o) (sym (is ∙ ap (λ (h : List Tale). first_miss (reverse xs) h) (ap (λ (ys : List Tale). reverse ys) (take_all i xs l)))) (found-fresh (reverse xs))
