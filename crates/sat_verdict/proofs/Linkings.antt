-- The entries of each client, linked from the last one on, and walks along the links.
use Rattle.std.specs.Prelude.{◌≡◌, ◌⊎◌, ◌<◌, ◌≤◌, ◌+◌, ◌-◌, ℕ, List, length, get_or, set, Option, Some, None}
use Rattle.std.proofs.Common.{sym, subst, arith, inl, inr, ap, ◌∙◌}
use Rattle.std.proofs.lemmas.Bool.{cases_eq, cases_order}
use Rattle.std.proofs.lemmas.List.{get_or_default, get_or-set_same, get_or-set_other, length-set}
use Rattle.sat_verdict.specs.declared.tale.Tale.{Tale}
use Rattle.sat_verdict.specs.declared.tale.Tale.TheVariants.{Other}
use Rattle.sat_verdict.specs.Entries.{client_of}
use Rattle.sat_verdict.specs.Tables.{HasClients}
use Rattle.sat_verdict.specs.Walks.{follower, headed, IsOwn, IsHead, IsLink, AreLinks, Linked}
use Rattle.sat_verdict.proofs.Counted.{some_is}

pub linked-start : (xs : List Tale) (clients : ℕ) (heads next : List ℕ) → length heads ≡ clients → ((c : ℕ) → c < clients → get_or heads c 0 ≡ length xs) → length next ≡ length xs →
    Linked xs clients heads next (length xs)
linked-start xs clients heads next many at size =
    record {
      clients_size = many;
      size = size;
      heads_are = λ c l. head c (at c l);
      links = λ j from below. absurd (omega arith);
    }
  where
    head : (c : ℕ) → get_or heads c 0 ≡ length xs → IsHead xs c (length xs) (get_or heads c 0)
    head c e = record { ahead = omega arith; own = λ l. absurd (omega arith); none = λ j from below o. absurd (omega arith) }

-- the first entry from one place on, where the entry before it is of another client
other-head : (xs : List Tale) (c q at : ℕ) → (client_of (get_or xs q Other) ≡ Some c → ⊥) → IsHead xs c (q + 1) at → IsHead xs c q at
other-head xs c q at apart h =
    record { ahead = (let l : q + 1 ≤ at = h.ahead in omega arith); own = h.own; none = λ j from below o. go j below o (before j from) }
  where
    before : (j : ℕ) → q ≤ j → (j ≡ q) ⊎ (q + 1 ≤ j)
    before j l = grind arith

    go : (j : ℕ) → j < at → client_of (get_or xs j Other) ≡ Some c → (j ≡ q) ⊎ (q + 1 ≤ j) → ⊥
    go j below o (inl e) = apart (subst (λ (n : ℕ). client_of (get_or xs n Other) ≡ Some c) e o)
    go j below o (inr l) = h.none j l below o

own-head : (xs : List Tale) (c q : ℕ) → client_of (get_or xs q Other) ≡ Some c → IsHead xs c q q
own-head xs c q o = record { ahead = omega arith; own = λ l. o; none = λ j from below o. absurd (omega arith) }

-- a link at one place, and those behind it
links-set : (xs : List Tale) (next : List ℕ) (q v : ℕ) → length next ≡ length xs → q < length xs → IsLink xs q v → ((j : ℕ) → q + 1 ≤ j → j < length xs → IsLink xs j (get_or next j 0)) →
    (j : ℕ) → q ≤ j → j < length xs → IsLink xs j (get_or (set next q v) j 0)
links-set xs next q v size low here behind j from below = go (cases_eq j q)
  where
    go : (j ≡ q) ⊎ (j ≡ q → ⊥) → IsLink xs j (get_or (set next q v) j 0)
    go (inl e) =
        subst (λ (n : ℕ). IsLink xs n (get_or (set next q v) n 0)) (sym e)
        (subst (λ (n : ℕ). IsLink xs q n) (sym (get_or-set_same next q v 0 (omega arith))) here)
    go (inr n) = subst (λ (m : ℕ). IsLink xs j m) (sym (get_or-set_other next q j v 0 n)) (behind j (grind arith) below)

pub linked-next : (xs : List Tale) (clients : ℕ) (heads next : List ℕ) (q : ℕ) (o : Option ℕ) → Linked xs clients heads next (q + 1) → q < length xs → HasClients clients xs → o ≡ client_of (get_or xs q Other) →
    Linked xs clients (headed heads q o) (set next q (follower heads (length xs) o)) q
linked-next xs clients heads next q None old low below is =
    record {
      clients_size = old.clients_size;
      size = length-set next q (length xs) ∙ old.size;
      heads_are = λ c l. other-head xs c q (get_or heads c 0) (none c) (old.heads_are c l);
      links = links-set xs next q (length xs) old.size low (record { ahead = low; follows = λ c o. absurd (none c o) }) old.links;
    }
  where
    none : (c : ℕ) → client_of (get_or xs q Other) ≡ Some c → ⊥
    none c o = let e : None ≡ Some c = is ∙ o in absurd (cc)
linked-next xs clients heads next q (Some d) old low below is =
    record {
      clients_size = length-set heads d q ∙ old.clients_size;
      size = length-set next q (get_or heads d (length xs)) ∙ old.size;
      heads_are = λ c l. head c l (cases_eq c d);
      links = links-set xs next q (get_or heads d (length xs)) old.size low
          (record { ahead = (let l : q + 1 ≤ get_or heads d (length xs) = next-head.ahead in omega arith); follows = λ c o. subst (λ (n : ℕ). IsHead xs n (q + 1) (get_or heads d (length xs))) (same c o) next-head }) old.links;
    }
  where
    few : d < clients
    few = below q d low (sym is)

    same : (c : ℕ) → client_of (get_or xs q Other) ≡ Some c → d ≡ c
    same c o = some_is d c (is ∙ o)

    inside : d < length heads
    inside = let e : length heads ≡ clients = old.clients_size in omega (arith, few)

    next-head : IsHead xs d (q + 1) (get_or heads d (length xs))
    next-head = subst (λ (n : ℕ). IsHead xs d (q + 1) n) (get_or_default heads d 0 (length xs) inside) (old.heads_are d few)

    head : (c : ℕ) → c < clients → (c ≡ d) ⊎ (c ≡ d → ⊥) → IsHead xs c q (get_or (set heads d q) c 0)
    head c l (inl e) =
        subst (λ (n : ℕ). IsHead xs n q (get_or (set heads d q) n 0)) (sym e)
        (subst (λ (n : ℕ). IsHead xs d q n) (sym (get_or-set_same heads d q 0 inside)) (own-head xs d q (sym is)))
    head c l (inr n) =
        subst (λ (m : ℕ). IsHead xs c q m) (sym (get_or-set_other heads d c q 0 n))
        (other-head xs c q (get_or heads c 0) (λ o. n (sym (same c o))) (old.heads_are c l))

pub links-step : (xs : List Tale) (clients : ℕ) (heads seen heads' next : List ℕ) (place v : ℕ) (o : Option ℕ) (e : Tale) → (place ≤ length xs) × Linked xs clients heads next place → 0 < place → HasClients clients xs →
    o ≡ client_of (get_or xs (place - 1) e) → seen ≡ heads → v ≡ follower seen (length xs) o → heads' ≡ headed heads (place - 1) o →
    (place - 1 ≤ length xs) × Linked xs clients heads' (set next (place - 1) v) (place - 1)
links-step xs clients heads seen heads' next place v o e inv some below is seen_is v_is heads_is = (
  omega (arith, inv.0),
  subst (λ (hs : List ℕ). Linked xs clients hs (set next (place - 1) v) (place - 1)) (sym heads_is)
      (subst (λ (n : ℕ). Linked xs clients (headed heads (place - 1) o) (set next (place - 1) n) (place - 1)) (sym (v_is ∙ ap (λ (hs : List ℕ). follower hs (length xs) o) seen_is)) step),
)
  where
    low : place - 1 < length xs
    low = omega (arith, inv.0, some)

    one : place ≡ place - 1 + 1
    one = omega (arith, some)

    step : Linked xs clients (headed heads (place - 1) o) (set next (place - 1) (follower heads (length xs) o)) (place - 1)
    step = linked-next xs clients heads next (place - 1) o (subst (λ (n : ℕ). Linked xs clients heads next n) one inv.1) low below (is ∙ ap client_of (get_or_default xs (place - 1) e Other low))

-- ---- walks

-- a walk over the entries of client c came from one place to another, and each of them on the way is such
pub record Walked (xs : List Tale) (P : ℕ → Type 0) (c from at : ℕ) : Type 0 where
  pub on : from ≤ at
  pub own : IsOwn xs c at
  pub each : (j : ℕ) → from ≤ j → j < at → client_of (get_or xs j Other) ≡ Some c → P j

pub walk-start : (xs : List Tale) (P : ℕ → Type 0) (c from : ℕ) → IsOwn xs c from → Walked xs P c from from
walk-start xs P c from own = record { on = omega arith; own = own; each = λ j a b o. absurd (omega arith) }

pub walk-next : (xs : List Tale) (next : List ℕ) (P : ℕ → Type 0) (c from at : ℕ) → AreLinks xs next → at < length xs → P at → Walked xs P c from at → Walked xs P c from (get_or next at 0)
walk-next xs next P c from at links low here w =
    let link : IsLink xs at (get_or next at 0) = links.links at low in
    let head : IsHead xs c (at + 1) (get_or next at 0) = link.follows c (w.own low) in
    let ahead : at < get_or next at 0 = link.ahead in
    let on : from ≤ at = w.on in
    record { on = omega arith; own = head.own; each = λ j a b o. go head j a b o (cases_order j at) }
  where
    go : IsHead xs c (at + 1) (get_or next at 0) → (j : ℕ) → from ≤ j → j < get_or next at 0 → client_of (get_or xs j Other) ≡ Some c → (j ≡ at) ⊎ ((j < at) ⊎ (at < j)) → P j
    go head j a b o (inl e) = subst P (sym e) here
    go head j a b o (inr (inl l)) = w.each j a l o
    go head j a b o (inr (inr l)) = absurd (head.none j (omega arith) b o)

-- the measure of a walk falls
pub walk-nearer : (xs : List Tale) (next : List ℕ) (at : ℕ) → AreLinks xs next → at < length xs → at < get_or next at 0
walk-nearer xs next at links low = (links.links at low).ahead

pub nearer : (n at next : ℕ) → at < n → at < next → n - next < n - at
nearer n at next a b = omega arith
