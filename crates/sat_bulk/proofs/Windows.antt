-- Laws of the numbers that were taken.
use Rattle.std.specs.Prelude.{ℕ, ◌≡◌, ◌≤◌, ◌<◌, ◌+◌, ◌^◌, ◌==◌, ◌||◌, Bool, true, false, nat_lt, cond, List, [], ◌∷◌, if◌then◌else◌, refl}
use Rattle.std.specs.Ordering.{nat_cmp, match_ordering}
use Rattle.std.specs.declared.cmp.Ordering.TheVariants.{Less, Equal, Greater}
use Rattle.std.specs.List.{list_any}
use Rattle.std.specs.BTreeMap.{is_at}
use Rattle.std.specs.BTreeSet.{insert_key}
use Rattle.std.proofs.Common.{arith, sym, ◌∙◌, ap, subst}
use Rattle.std.proofs.lemmas.Bool.{eqb-true}
use Rattle.std.proofs.lemmas.Bool.Decides.{nat_tests}
use Rattle.sat_label.specs.Words.{has}
use Rattle.sat_label.proofs.Truth.{or-assoc}
use Rattle.sat_bulk.specs.Windows.{Numbers, has_number, starts_at, settled, placed, after_take, RisesFrom, IsWindow}

-- ---- the front moves on

-- past the least number above it
pub settled_more : (n k : ℕ) (xs ks : List ℕ) → xs ≡ k ∷ ks → starts_at xs n ≡ true → settled n xs ≡ settled (n + 1) ks
settled_more n k xs ks is starts = rw is (go (k == n) (subst (λ ys. starts_at ys n ≡ true) is starts))
  where
    go : (b : Bool) → b ≡ true → (if b then settled (n + 1) ks else record { front = n; above = k ∷ ks }) ≡ settled (n + 1) ks
    go true e = refl
    go false e = absurd (cc)

-- until it comes to a hole
pub settled_stops : (n : ℕ) (xs : List ℕ) → starts_at xs n ≡ false → record { front = n; above = xs } ≡ settled n xs
settled_stops n [] hole = refl
settled_stops n (x ∷ xs) hole = go (x == n) hole
  where
    go : (b : Bool) → b ≡ false → record { front = n; above = x ∷ xs } ≡ (if b then settled (n + 1) xs else record { front = n; above = x ∷ xs })
    go true e = absurd (cc)
    go false e = refl

pub rises_more : (n k : ℕ) (xs ks : List ℕ) → xs ≡ k ∷ ks → starts_at xs n ≡ true → RisesFrom n xs → (n + 1 < 2 ^ 64) × RisesFrom (n + 1) ks
rises_more n k xs ks is starts rises =
    let r : RisesFrom n (k ∷ ks) = subst (λ ys. RisesFrom n ys) is rises in
    let same : k ≡ n = eqb-true _ _ (subst (λ ys. starts_at ys n ≡ true) is starts) in
    subst (λ m. (m + 1 < 2 ^ 64) × RisesFrom (m + 1) ks) same (r.1, r.2)

-- the numbers that the front passed, and those above it, are those that were there
pub settled_has : (n : ℕ) (xs : List ℕ) (k : ℕ) → has_number (settled n xs) k ≡ (nat_lt k n || has ◌==◌ xs k)
settled_has n [] k = refl
settled_has n (x ∷ xs) k = go (x == n) refl (settled_has (n + 1) xs k)
  where
    past : (a b c : ℕ) (d : Bool) → (a == b) ≡ true → (nat_lt c (b + 1) || d) ≡ (nat_lt c b || ((a == c) || d))
    past a b c true e = grind (arith, nat_tests)
    past a b c false e = grind (arith, nat_tests)

    go : (b : Bool) → (x == n) ≡ b → has_number (settled (n + 1) xs) k ≡ (nat_lt k (n + 1) || has ◌==◌ xs k) → has_number (if b then settled (n + 1) xs else record { front = n; above = x ∷ xs }) k ≡ (nat_lt k n || ((x == k) || has ◌==◌ xs k))
    go true e rest = rest ∙ past x n k (has ◌==◌ xs k) e
    go false e rest = refl

-- a list that rises from one on, with its front moved on, is a window
pub settled_window : (n : ℕ) (xs : List ℕ) → RisesFrom n xs → IsWindow (settled n xs)
settled_window n [] rises = tt
settled_window n (x ∷ xs) rises = go (x == n) refl (settled_window (n + 1) xs)
  where
    apart : (a b : ℕ) → b ≤ a → (a == b) ≡ false → b + 1 ≤ a
    apart a b low e = grind (arith, nat_tests)

    go : (b : Bool) → (x == n) ≡ b → (RisesFrom (n + 1) xs → IsWindow (settled (n + 1) xs)) → IsWindow (if b then settled (n + 1) xs else record { front = n; above = x ∷ xs })
    go true e rest = rest (subst (λ m. RisesFrom (m + 1) xs) (eqb-true x n e) rises.2)
    go false e rest = (apart x n rises.0 e, rises.1, rises.2)

-- ---- a number above the front

-- the set puts a number where the list has its place
by-tests : {X : Type 0} (b c : Bool) (p q r : X) → match_ordering (cond b Less (cond c Equal Greater)) p q r ≡ (if b then p else (if c then q else r))
by-tests true c p q r = refl
by-tests false true p q r = refl
by-tests false false p q r = refl

pub set_placed : (xs : List ℕ) (n : ℕ) → insert_key nat_cmp xs n ≡ placed xs n
set_placed [] n = refl
set_placed (x ∷ xs) n =
    ap (λ ys. match_ordering (nat_cmp n x) (n ∷ x ∷ xs) (x ∷ xs) (x ∷ ys)) (set_placed xs n)
    ∙ by-tests (nat_lt n x) (n == x) (n ∷ x ∷ xs) (x ∷ xs) (x ∷ placed xs n)

set-equal : (n x : ℕ) → is_at (nat_cmp n) x ≡ (x == n)
set-equal n x = grind (arith, nat_tests)

-- and it has the numbers that the list has
pub set_has : (xs : List ℕ) (n : ℕ) → list_any (is_at (nat_cmp n)) xs ≡ has ◌==◌ xs n
set_has [] n = refl
set_has (x ∷ xs) n = ap (λ b. b || list_any (is_at (nat_cmp n)) xs) (set-equal n x) ∙ ap (λ b. (x == n) || b) (set_has xs n)

pub placed_has : (xs : List ℕ) (n k : ℕ) → has ◌==◌ (placed xs n) k ≡ (has ◌==◌ xs k || (k == n))
placed_has [] n k = alone n k
  where
    alone : (a b : ℕ) → ((a == b) || false) ≡ (false || (b == a))
    alone a b = grind (arith, nat_tests)
placed_has (x ∷ xs) n k = go (nat_lt n x) (n == x) refl (placed_has xs n k)
  where
    before : (a b c : ℕ) (h : Bool) → ((a == c) || ((b == c) || h)) ≡ (((b == c) || h) || (c == a))
    before a b c true = grind (arith, nat_tests)
    before a b c false = grind (arith, nat_tests)

    there : (a b c : ℕ) (h : Bool) → (a == b) ≡ true → ((b == c) || h) ≡ (((b == c) || h) || (c == a))
    there a b c true e = grind (arith, nat_tests)
    there a b c false e = grind (arith, nat_tests)

    go : (b c : Bool) → (n == x) ≡ c → has ◌==◌ (placed xs n) k ≡ (has ◌==◌ xs k || (k == n)) → has ◌==◌ (if b then n ∷ x ∷ xs else (if c then x ∷ xs else x ∷ placed xs n)) k ≡ (((x == k) || has ◌==◌ xs k) || (k == n))
    go true c e rest = before n x k (has ◌==◌ xs k)
    go false true e rest = there n x k (has ◌==◌ xs k) e
    go false false e rest = ap (λ b. (x == k) || b) rest ∙ or-assoc (x == k) (has ◌==◌ xs k) (k == n)

pub placed_rises : (low n : ℕ) (xs : List ℕ) → low ≤ n → n + 1 < 2 ^ 64 → RisesFrom low xs → RisesFrom low (placed xs n)
placed_rises low n [] up fits rises = (up, fits, tt)
placed_rises low n (x ∷ xs) up fits rises = go (nat_lt n x) (n == x) refl refl (λ more. placed_rises (x + 1) n xs more fits rises.2)
  where
    above : (a b : ℕ) → nat_lt a b ≡ true → a + 1 ≤ b
    above a b e = grind (arith, nat_tests)

    beyond : (a b : ℕ) → nat_lt a b ≡ false → (a == b) ≡ false → b + 1 ≤ a
    beyond a b e f = grind (arith, nat_tests)

    go : (b c : Bool) → nat_lt n x ≡ b → (n == x) ≡ c → (x + 1 ≤ n → RisesFrom (x + 1) (placed xs n)) → RisesFrom low (if b then n ∷ x ∷ xs else (if c then x ∷ xs else x ∷ placed xs n))
    go true c e f rest = (up, fits, (above n x e, rises.1, rises.2))
    go false true e f rest = rises
    go false false e f rest = (rises.0, rises.1, rest (beyond n x e f))

-- ---- a number is taken

pub take_again : (w : Numbers) (n : ℕ) → has_number w n ≡ true → after_take w n ≡ w
take_again w n old = go (has_number w n) old
  where
    go : (b : Bool) → b ≡ true → (if b then w else (if n == w.front then settled (n + 1) w.above else record { front = w.front; above = placed w.above n })) ≡ w
    go true e = refl
    go false e = absurd (cc)

pub take_front : (w : Numbers) (n : ℕ) → has_number w n ≡ false → (n == w.front) ≡ true → settled (n + 1) w.above ≡ after_take w n
take_front w n new here = go (has_number w n) (n == w.front) new here
  where
    go : (b c : Bool) → b ≡ false → c ≡ true → settled (n + 1) w.above ≡ (if b then w else (if c then settled (n + 1) w.above else record { front = w.front; above = placed w.above n }))
    go true c e f = absurd (cc)
    go false true e f = refl
    go false false e f = absurd (cc)

pub take_above : (w : Numbers) (n : ℕ) → has_number w n ≡ false → (n == w.front) ≡ false → record { front = w.front; above = insert_key nat_cmp w.above n } ≡ after_take w n
take_above w n new apart = ap (λ ns. record { front = w.front; above = ns }) (set_placed w.above n) ∙ go (has_number w n) (n == w.front) new apart
  where
    go : (b c : Bool) → b ≡ false → c ≡ false → record { front = w.front; above = placed w.above n } ≡ (if b then w else (if c then settled (n + 1) w.above else record { front = w.front; above = placed w.above n }))
    go true c e f = absurd (cc)
    go false true e f = absurd (cc)
    go false false e f = refl

-- the numbers that are taken then: those before, and this one
pub take_has : (w : Numbers) (n k : ℕ) → has_number (after_take w n) k ≡ (has_number w k || (k == n))
take_has w n k = go (has_number w n) (n == w.front) refl refl
  where
    still : (b c : Bool) → (c ≡ true → b ≡ true) → b ≡ (b || c)
    still true c f = refl
    still false true f = f refl
    still false false f = refl

    past : (a b c : ℕ) (h : Bool) → (a == b) ≡ true → (nat_lt c (a + 1) || h) ≡ ((nat_lt c b || h) || (c == a))
    past a b c true e = grind (arith, nat_tests)
    past a b c false e = grind (arith, nat_tests)

    go : (b c : Bool) → has_number w n ≡ b → (n == w.front) ≡ c → has_number (if b then w else (if c then settled (n + 1) w.above else record { front = w.front; above = placed w.above n })) k ≡ (has_number w k || (k == n))
    go true c e f = still (has_number w k) (k == n) (λ same. ap (has_number w) (eqb-true k n same) ∙ e)
    go false true e f = settled_has (n + 1) w.above k ∙ past n w.front k (has ◌==◌ w.above k) f
    go false false e f = ap (λ b. nat_lt k w.front || b) (placed_has w.above n k) ∙ or-assoc (nat_lt k w.front) (has ◌==◌ w.above k) (k == n)
