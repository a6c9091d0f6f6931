-- A site that lacks no cause: what its places tell.
use Rattle.std.specs.Prelude.{◌≡◌, ◌⊎◌, ◌<◌, ◌≤◌, ◌+◌, ◌-◌, ◌==◌, ◌&&◌, not, ℕ, zero, suc, Bool, true, false, List, [], ◌∷◌, ◌++◌, length, get_or, set, Option, Some, None, refl, nat_lt, if◌then◌else◌}
use Rattle.std.proofs.Common.{sym, subst, arith, inl, inr, ap, ◌∙◌}
use Rattle.std.proofs.lemmas.Bool.{cases_eq, cases_lt, le-ltb}
use Rattle.std.proofs.lemmas.List.{get_or-set_same, get_or-set_other, length-set, length-append, get_or_append_left, get_or_at, get_or_default}
use Rattle.sat_label.specs.declared.site_set.SiteSet.{SiteSet}
use Rattle.sat_label.specs.Words.{bit}
use Rattle.sat_verdict.specs.declared.tale.Tale.{Tale}
use Rattle.sat_verdict.specs.declared.tale.Tale.TheVariants.{Wrote, Moved, ReadNone, ReadSome, Shown, Other}
use Rattle.sat_verdict.specs.Entries.{client_of}
use Rattle.sat_verdict.specs.Goals.{no_sites}
use Rattle.sat_verdict.specs.Found.{lower}
use Rattle.sat_verdict.specs.Tables.{option_of, scan, table_lack, table_lacks, HasClients}
use Rattle.sat_verdict.specs.Walks.{is_open, is_unshown, AreClosed, AreDone, IsDone, IsOwn, IsPast, Linked}

-- ---- a scan that finds nothing

pub scan-none : (f : ℕ → Option ℕ) (n : ℕ) → ((j : ℕ) → j < n → f j ≡ None) → scan f n ≡ None
unfolding scan
scan-none f zero each = refl
scan-none f (suc n) each =
    ap (λ (o : Option ℕ). lower o (f n)) (scan-none f n (λ j l. each j (omega arith))) ∙ each n (omega arith)

-- an entry tells nothing where it lies past the count, or fails the test
pub none-told : (t b : Bool) (n : ℕ) → (t ≡ false) ⊎ ((not (n == 0) && b) ≡ false) → (if t && b then option_of n else None) ≡ None
none-told false b n w = refl
none-told true false n w = refl
none-told true true n (inl e) = absurd (cc)
none-told true true n (inr e) = go (n == 0) e
  where
    go : (z : Bool) → (not z && true) ≡ false → (if z then None else Some n) ≡ None
    go true e = refl
    go false e = absurd (cc)

none-lacks : (rows : List (List ℕ)) (unshown : List SiteSet) (made k j number : ℕ) (e : Tale) →
    ((c : ℕ) → client_of e ≡ Some c → (nat_lt j (get_or (get_or rows made []) c 0) ≡ false) ⊎ (is_open unshown k number e ≡ false)) → table_lack rows unshown made k j number e ≡ None
none-lacks rows unshown made k j number (Wrote c xs b) w = none-told (nat_lt j (get_or (get_or rows made []) c 0)) (bit (get_or unshown (number - 1) no_sites).bits k) number (w c refl)
none-lacks rows unshown made k j number (ReadSome c x p) w = none-told (nat_lt j (get_or (get_or rows made []) c 0)) (bit (get_or unshown (number - 1) no_sites).bits k) number (w c refl)
none-lacks rows unshown made k j number (Moved c b) w = refl
none-lacks rows unshown made k j number (ReadNone c x) w = refl
none-lacks rows unshown made k j number (Shown i p) w = refl
none-lacks rows unshown made k j number Other w = refl

-- entry j lies below a place, or past the count
pub past-or-below : (xs : List Tale) (j to at : ℕ) → j < length xs → IsPast xs to at → (nat_lt j to ≡ false) ⊎ (j < at)
past-or-below xs j to at low past = go (cases_lt j to) (cases_lt j at)
  where
    go : (j < to) ⊎ (to ≤ j) → (j < at) ⊎ (at ≤ j) → (nat_lt j to ≡ false) ⊎ (j < at)
    go (inr l) w = inl (le-ltb j to l)
    go (inl l) (inl m) = inr m
    go (inl l) (inr m) = absurd (let b : at < to = omega arith in let p : length xs ≤ at = past b in omega arith)

pub clear-scan : (xs : List Tale) (numbers : List ℕ) (rows : List (List ℕ)) (unshown : List SiteSet) (made k : ℕ) (places : List ℕ) → IsDone xs numbers unshown k places →
    ((c : ℕ) → c < length places → IsPast xs (get_or (get_or rows made []) c 0) (get_or places c 0)) → scan (table_lacks rows unshown numbers xs made k) (length xs) ≡ None
clear-scan xs numbers rows unshown made k places done past =
    scan-none (table_lacks rows unshown numbers xs made k) (length xs) (λ j low. none-lacks rows unshown made k j (get_or numbers j 0) (get_or xs j Other) (λ c o. each j c low o))
  where
    each : (j c : ℕ) → j < length xs → client_of (get_or xs j Other) ≡ Some c →
        (nat_lt j (get_or (get_or rows made []) c 0) ≡ false) ⊎ (is_open unshown k (get_or numbers j 0) (get_or xs j Other) ≡ false)
    each j c low o =
        let few : c < length places = done.clients j c low o in
        elim (past-or-below xs j (get_or (get_or rows made []) c 0) (get_or places c 0) low (past c few)) [
          | inl e ↦ inl e
          | inr l ↦ inr (done.closed c few j (omega arith) l o)
        ]

-- ---- places that move on

pub done-set : (xs : List Tale) (numbers : List ℕ) (unshown : List SiteSet) (k : ℕ) (places : List ℕ) (c at : ℕ) → c < length places → IsDone xs numbers unshown k places →
    IsOwn xs c at → AreClosed xs numbers unshown k c (get_or places c 0) at → IsDone xs numbers unshown k (set places c at)
done-set xs numbers unshown k places c at few done own closed =
    record {
      clients = subst (λ (n : ℕ). HasClients n xs) (sym (length-set places c at)) done.clients;
      own = λ d l. own-at d (less d l) (cases_eq d c);
      closed = λ d l. closed-at d (less d l) (cases_eq d c);
    }
  where
    less : (d : ℕ) → d < length (set places c at) → d < length places
    less d l = subst (λ (n : ℕ). d < n) (length-set places c at) l

    own-at : (d : ℕ) → d < length places → (d ≡ c) ⊎ (d ≡ c → ⊥) → IsOwn xs d (get_or (set places c at) d 0)
    own-at d l (inl e) =
        subst (λ (n : ℕ). IsOwn xs n (get_or (set places c at) n 0)) (sym e) (subst (λ (m : ℕ). IsOwn xs c m) (sym (get_or-set_same places c at 0 few)) own)
    own-at d l (inr n) = subst (λ (m : ℕ). IsOwn xs d m) (sym (get_or-set_other places c d at 0 n)) (done.own d l)

    all : AreClosed xs numbers unshown k c 0 at
    all j a b o = elim (cases_lt j (get_or places c 0)) [ inl l ↦ done.closed c few j a l o | inr l ↦ closed j l b o ]

    closed-at : (d : ℕ) → d < length places → (d ≡ c) ⊎ (d ≡ c → ⊥) → AreClosed xs numbers unshown k d 0 (get_or (set places c at) d 0)
    closed-at d l (inl e) =
        subst (λ (n : ℕ). AreClosed xs numbers unshown k n 0 (get_or (set places c at) n 0)) (sym e)
        (subst (λ (m : ℕ). AreClosed xs numbers unshown k c 0 m) (sym (get_or-set_same places c at 0 few)) all)
    closed-at d l (inr n) = subst (λ (m : ℕ). AreClosed xs numbers unshown k d 0 m) (sym (get_or-set_other places c d at 0 n)) (done.closed d l)

-- what holds of each place below one, and of that one
pub past-set : (xs : List Tale) (counts : ℕ → ℕ) (places : List ℕ) (c at : ℕ) → c < length places → ((d : ℕ) → d < c → IsPast xs (counts d) (get_or places d 0)) → IsPast xs (counts c) at →
    (d : ℕ) → d < c + 1 → IsPast xs (counts d) (get_or (set places c at) d 0)
past-set xs counts places c at few before here d l = go (cases_eq d c)
  where
    go : (d ≡ c) ⊎ (d ≡ c → ⊥) → IsPast xs (counts d) (get_or (set places c at) d 0)
    go (inl e) =
        subst (λ (n : ℕ). IsPast xs (counts n) (get_or (set places c at) n 0)) (sym e) (subst (λ (m : ℕ). IsPast xs (counts c) m) (sym (get_or-set_same places c at 0 few)) here)
    go (inr n) = subst (λ (m : ℕ). IsPast xs (counts d) m) (sym (get_or-set_other places c d at 0 n)) (before d (grind arith))

pub moves-step : (xs : List Tale) (numbers : List ℕ) (unshown : List SiteSet) (k : ℕ) (counts : ℕ → ℕ) (done done' : List ℕ) (c end from to at : ℕ) →
    (length done ≡ end) × IsDone xs numbers unshown k done × ((d : ℕ) → d < c → IsPast xs (counts d) (get_or done d 0)) → c < end → from ≡ get_or done c 0 → to ≡ counts c →
    ((d : ℕ) → IsOwn xs d from → IsOwn xs d at × IsPast xs to at × AreClosed xs numbers unshown k d from at) → done' ≡ set done c at →
    (length done' ≡ end) × IsDone xs numbers unshown k done' × ((d : ℕ) → d < c + 1 → IsPast xs (counts d) (get_or done' d 0))
moves-step xs numbers unshown k counts done done' c end from to at inv low from_is to_is walk set_is =
    subst (λ (ys : List ℕ). (length ys ≡ end) × IsDone xs numbers unshown k ys × ((d : ℕ) → d < c + 1 → IsPast xs (counts d) (get_or ys d 0))) (sym set_is) (
      length-set done c at ∙ inv.0,
      done-set xs numbers unshown k done c at few inv.1 w.0 (subst (λ (n : ℕ). AreClosed xs numbers unshown k c n at) from_is w.2),
      past-set xs counts done c at few inv.2 (subst (λ (n : ℕ). IsPast xs n at) to_is w.1),
    )
  where
    few : c < length done
    few = omega (arith, inv.0, low)

    w : IsOwn xs c at × IsPast xs to at × AreClosed xs numbers unshown k c from at
    w = walk c (subst (λ (n : ℕ). IsOwn xs c n) (sym from_is) (inv.1.own c few))

pub done-read : (xs : List Tale) (numbers : List ℕ) (unshown : List SiteSet) (done : List (List ℕ)) (k : ℕ) (r : List ℕ) → k < length done → AreDone xs numbers unshown done → r ≡ get_or done k r → IsDone xs numbers unshown k r
done-read xs numbers unshown done k r few all is = subst (λ (s : List ℕ). IsDone xs numbers unshown k s) (get_or_default done k [] r few ∙ sym is) (all k few)

-- a site's places change, and those of the others stay
pub all-done-set : (xs : List Tale) (numbers : List ℕ) (unshown : List SiteSet) (done : List (List ℕ)) (k : ℕ) (places : List ℕ) → k < length done → AreDone xs numbers unshown done → IsDone xs numbers unshown k places →
    AreDone xs numbers unshown (set done k places)
all-done-set xs numbers unshown done k places few all here i l = go (cases_eq i k)
  where
    go : (i ≡ k) ⊎ (i ≡ k → ⊥) → IsDone xs numbers unshown i (get_or (set done k places) i [])
    go (inl e) =
        subst (λ (n : ℕ). IsDone xs numbers unshown n (get_or (set done k places) n [])) (sym e) (subst (λ (r : List ℕ). IsDone xs numbers unshown k r) (sym (get_or-set_same done k places [] few)) here)
    go (inr n) =
        subst (λ (r : List ℕ). IsDone xs numbers unshown i r) (sym (get_or-set_other done k i places [] n)) (all i (subst (λ (m : ℕ). i < m) (length-set done k places) l))

-- ---- what is shown stays shown

open-falls : (old new : List SiteSet) (k number : ℕ) (e : Tale) → ((i j : ℕ) → bit (get_or new i no_sites).bits j ≡ true → bit (get_or old i no_sites).bits j ≡ true) →
    is_open old k number e ≡ false → is_open new k number e ≡ false
open-falls old new k number e fall closed = go e closed
  where
    less : (z a b : Bool) → (a ≡ true → b ≡ true) → (not z && b) ≡ false → (not z && a) ≡ false
    less true a b f e = refl
    less false false b f e = refl
    less false true b f e = absurd (let t : b ≡ true = f refl in cc)

    at : is_unshown old k number ≡ false → is_unshown new k number ≡ false
    at c = less (number == 0) (bit (get_or new (number - 1) no_sites).bits k) (bit (get_or old (number - 1) no_sites).bits k) (fall (number - 1) k) c

    go : (e : Tale) → is_open old k number e ≡ false → is_open new k number e ≡ false
    go (Wrote c xs b) c' = at c'
    go (ReadSome c x p) c' = at c'
    go (Moved c b) c' = refl
    go (ReadNone c x) c' = refl
    go (Shown i p) c' = refl
    go Other c' = refl

pub done-falls : (xs : List Tale) (numbers : List ℕ) (old new : List SiteSet) (done : List (List ℕ)) → ((i j : ℕ) → bit (get_or new i no_sites).bits j ≡ true → bit (get_or old i no_sites).bits j ≡ true) →
    AreDone xs numbers old done → AreDone xs numbers new done
done-falls xs numbers old new done fall all k l =
    let d : IsDone xs numbers old k (get_or done k []) = all k l in
    record {
      clients = d.clients;
      own = d.own;
      closed = λ c few j a b o. open-falls old new k (get_or numbers j 0) (get_or xs j Other) fall (d.closed c few j a b o);
    }

-- ---- the start

pub same-more : (xs ys : List (List ℕ)) (h r : List ℕ) → ((k : ℕ) → k < length xs → get_or xs k [] ≡ h) → r ≡ h → ys ≡ xs ++ r ∷ [] → (k : ℕ) → k < length ys → get_or ys k [] ≡ h
same-more xs ys h r each is pushed k l = ap (λ (zs : List (List ℕ)). get_or zs k []) pushed ∙ go (cases_lt k (length xs))
  where
    size : length ys ≡ length xs + 1
    size = ap (λ (zs : List (List ℕ)). length zs) pushed ∙ length-append xs (r ∷ [])

    go : (k < length xs) ⊎ (length xs ≤ k) → get_or (xs ++ r ∷ []) k [] ≡ h
    go (inl a) = get_or_append_left xs (r ∷ []) [] k a ∙ each k a
    go (inr a) = get_or_at xs r [] [] k (omega (arith, size, l, a)) ∙ is

pub done-start : (xs : List Tale) (numbers : List ℕ) (unshown : List SiteSet) (clients : ℕ) (heads next : List ℕ) (done : List (List ℕ)) → HasClients clients xs → Linked xs clients heads next 0 →
    ((k : ℕ) → k < length done → get_or done k [] ≡ heads) → AreDone xs numbers unshown done
done-start xs numbers unshown clients heads next done few linked each k l = subst (λ (r : List ℕ). IsDone xs numbers unshown k r) (sym (each k l)) at
  where
    less : (c : ℕ) → c < length heads → c < clients
    less c m = let e : length heads ≡ clients = linked.clients_size in omega arith

    at : IsDone xs numbers unshown k heads
    at =
        record {
          clients = subst (λ (n : ℕ). HasClients n xs) (sym linked.clients_size) few;
          own = λ c m. (linked.heads_are c (less c m)).own;
          closed = λ c m j a b o. absurd ((linked.heads_are c (less c m)).none j a b o);
        }
