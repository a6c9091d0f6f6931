-- Laws of the marks of numbers behind a front.
use Rattle.std.specs.Prelude.{ℕ, zero, suc, ◌≡◌, ◌≤◌, ◌<◌, ◌+◌, ◌-◌, ◌^◌, ◌==◌, ◌||◌, ◌++◌, ◌⊎◌, Bool, true, false, nat_lt, List, [], ◌∷◌, length, replicate, set, slice_get, Option, Some, None, is_some, Result, Ok, Err, OnOk, OnErr, if◌then◌else◌, refl}
use Rattle.std.specs.Ordering.{nat_cmp}
use Rattle.std.specs.BTreeMap.{is_at}
use Rattle.std.specs.BTreeSet.{insert_key}
use Rattle.std.specs.List.{list_any}
use Rattle.std.proofs.Common.{arith, inl, inr, sym, ◌∙◌, ap, subst}
use Rattle.std.proofs.lemmas.Bool.{eqb-true}
use Rattle.std.proofs.lemmas.Bool.Decides.{nat_tests}
use Rattle.sat_label.specs.Words.{has}
use Rattle.sat_label.proofs.Truth.{or-assoc}
use Rattle.sat_bulk.specs.Windows.{Numbers, has_number, marked, passed, placed, settled, starts_at, told_by, after_take, AreApart, IsWindow, RisesFrom}
use Rattle.sat_bulk.proofs.Windows.{take_has, set_has, set_placed, settled_window, placed_rises}

-- ---- lists that rise

-- a number below where a list begins is not its first,
pub low_first : (n low : ℕ) (xs : List ℕ) → n < low → RisesFrom low xs → starts_at xs n ≡ false
low_first n low [] below rises = refl
low_first n low (x ∷ xs) below rises = apart x n low rises.0 below
  where
    apart : (a b c : ℕ) → c ≤ a → b < c → (a == b) ≡ false
    apart a b c e f = grind (arith, nat_tests)

-- nor in it,
pub low_has : (n low : ℕ) (xs : List ℕ) → n < low → RisesFrom low xs → has ◌==◌ xs n ≡ false
low_has n low [] below rises = refl
low_has n low (x ∷ xs) below rises = both (x == n) (has ◌==◌ xs n) (low_first n low (x ∷ xs) below rises) (low_has n (x + 1) xs (less n low x below rises.0) rises.2)
  where
    less : (a b c : ℕ) → a < b → b ≤ c → a < c + 1
    less a b c e f = grind (arith, nat_tests)

    both : (b c : Bool) → b ≡ false → c ≡ false → (b || c) ≡ false
    both b c e f = rw e (f)

-- and has its place before it
pub low_placed : (n low : ℕ) (xs : List ℕ) → n < low → RisesFrom low xs → placed xs n ≡ n ∷ xs
low_placed n low [] below rises = refl
low_placed n low (x ∷ xs) below rises = go (nat_lt n x) (less n low x below rises.0)
  where
    less : (a b c : ℕ) → a < b → b ≤ c → nat_lt a c ≡ true
    less a b c e f = grind (arith, nat_tests)

    go : (b : Bool) → b ≡ true → (if b then n ∷ x ∷ xs else (if n == x then x ∷ xs else x ∷ placed xs n)) ≡ n ∷ x ∷ xs
    go true e = refl
    go false e = absurd (cc)

pub weaken : (low n : ℕ) (xs : List ℕ) → n ≤ low → RisesFrom low xs → RisesFrom n xs
weaken low n [] under rises = tt
weaken low n (x ∷ xs) under rises = (less n low x under rises.0, rises.1, rises.2)
  where
    less : (a b c : ℕ) → a ≤ b → b ≤ c → a ≤ c
    less a b c e f = omega (arith, e, f)

-- ---- numbers and places

behind-next : (m k : ℕ) (far : List ℕ) → RisesFrom (m + suc k) far → RisesFrom ((m + 1) + k) far
behind-next m k far rises = subst (λ n. RisesFrom n far) (same m k) rises
  where
    same : (a b : ℕ) → a + suc b ≡ (a + 1) + b
    same a b = omega arith

behind-none : (m : ℕ) (far : List ℕ) → RisesFrom (m + 0) far → RisesFrom m far
behind-none m far rises = subst (λ n. RisesFrom n far) (same m) rises
  where
    same : (a : ℕ) → a + 0 ≡ a
    same a = omega arith

-- what marks tell rises from the number of the first one on
pub lift : (low m : ℕ) (bs : List Bool) (far : List ℕ) → RisesFrom low (marked m bs ++ far) → RisesFrom (m + length bs) far → RisesFrom m (marked m bs ++ far)
lift low m [] far rises behind = behind-none m far behind
lift low m (true ∷ bs) far rises behind = (omega arith, rises.1, rises.2)
lift low m (false ∷ bs) far rises behind = weaken (m + 1) m (marked (m + 1) bs ++ far) (omega arith) (lift low (m + 1) bs far rises (behind-next m (length bs) far behind))

-- ---- what was taken

-- a number with a mark was taken where the mark says so
pub marked_has : (low m i : ℕ) (bs : List Bool) (far : List ℕ) (b : Bool) → slice_get bs i ≡ Some b → RisesFrom low (marked m bs ++ far) → RisesFrom (m + length bs) far → has ◌==◌ (marked m bs ++ far) (m + i) ≡ b
marked_has low m i [] far b at rises behind = absurd (let z : false ≡ true = ap is_some at in cc)
marked_has low m zero (true ∷ bs) far b at rises behind = here m (has ◌==◌ (marked (m + 1) bs ++ far) (m + 0)) ∙ some true b at
  where
    here : (a : ℕ) (c : Bool) → ((a == a + 0) || c) ≡ true
    here a c = grind (arith, nat_tests)

    some : (c d : Bool) → Some c ≡ Some d → c ≡ d
    some c d e = cc
marked_has low m zero (false ∷ bs) far b at rises behind =
    low_has (m + 0) (m + 1) (marked (m + 1) bs ++ far) (less m) (lift low (m + 1) bs far rises (behind-next m (length bs) far behind)) ∙ some false b at
  where
    less : (a : ℕ) → a + 0 < a + 1
    less a = omega arith

    some : (c d : Bool) → Some c ≡ Some d → c ≡ d
    some c d e = cc
marked_has low m (suc i) (true ∷ bs) far b at rises behind =
    past m i (has ◌==◌ (marked (m + 1) bs ++ far) (m + suc i)) ∙ (ap (has ◌==◌ (marked (m + 1) bs ++ far)) (same m i) ∙ marked_has (m + 1) (m + 1) i bs far b at rises.2 (behind-next m (length bs) far behind))
  where
    same : (a c : ℕ) → a + suc c ≡ (a + 1) + c
    same a c = omega arith

    past : (a c : ℕ) (h : Bool) → ((a == a + suc c) || h) ≡ h
    past a c h = grind (arith, nat_tests)
marked_has low m (suc i) (false ∷ bs) far b at rises behind =
    ap (has ◌==◌ (marked (m + 1) bs ++ far)) (same m i) ∙ marked_has low (m + 1) i bs far b at rises (behind-next m (length bs) far behind)
  where
    same : (a c : ℕ) → a + suc c ≡ (a + 1) + c
    same a c = omega arith

-- one behind all marks was taken where it is among the far ones
pub marked_behind : (m n : ℕ) (bs : List Bool) (far : List ℕ) → m + length bs ≤ n → has ◌==◌ (marked m bs ++ far) n ≡ has ◌==◌ far n
marked_behind m n [] far above = refl
marked_behind m n (true ∷ bs) far above = past m n (length bs) (has ◌==◌ (marked (m + 1) bs ++ far) n) above ∙ marked_behind (m + 1) n bs far (next m (length bs) n above)
  where
    past : (a c k : ℕ) (h : Bool) → a + suc k ≤ c → ((a == c) || h) ≡ h
    past a c k h e = grind (arith, nat_tests)

    next : (a k c : ℕ) → a + suc k ≤ c → (a + 1) + k ≤ c
    next a k c e = omega (arith, e)
marked_behind m n (false ∷ bs) far above = marked_behind (m + 1) n bs far (next m (length bs) n above)
  where
    next : (a k c : ℕ) → a + suc k ≤ c → (a + 1) + k ≤ c
    next a k c e = omega (arith, e)

-- ---- a number is placed

-- one with a mark
pub placed_marked : (low m i : ℕ) (bs : List Bool) (far : List ℕ) → slice_get bs i ≡ Some false → RisesFrom low (marked m bs ++ far) → RisesFrom (m + length bs) far → placed (marked m bs ++ far) (m + i) ≡ marked m (set bs i true) ++ far
placed_marked low m i [] far at rises behind = absurd (let z : false ≡ true = ap is_some at in cc)
placed_marked low m zero (true ∷ bs) far at rises behind = absurd (cc)
placed_marked low m zero (false ∷ bs) far at rises behind =
    low_placed (m + 0) (m + 1) (marked (m + 1) bs ++ far) (less m) (lift low (m + 1) bs far rises (behind-next m (length bs) far behind)) ∙ ap (λ n. n ∷ (marked (m + 1) bs ++ far)) (none m)
  where
    less : (a : ℕ) → a + 0 < a + 1
    less a = omega arith

    none : (a : ℕ) → a + 0 ≡ a
    none a = omega arith
placed_marked low m (suc i) (true ∷ bs) far at rises behind =
    over m i (marked (m + 1) bs ++ far) ∙ ap (λ ys. m ∷ ys) (ap (placed (marked (m + 1) bs ++ far)) (same m i) ∙ placed_marked (m + 1) (m + 1) i bs far at rises.2 (behind-next m (length bs) far behind))
  where
    same : (a c : ℕ) → a + suc c ≡ (a + 1) + c
    same a c = omega arith

    over : (a c : ℕ) (ys : List ℕ) → placed (a ∷ ys) (a + suc c) ≡ a ∷ placed ys (a + suc c)
    over a c ys = go (nat_lt (a + suc c) a) (a + suc c == a) (not-less a c) (not-same a c)
      where
        not-less : (p q : ℕ) → nat_lt (p + suc q) p ≡ false
        not-less p q = grind (arith, nat_tests)

        not-same : (p q : ℕ) → (p + suc q == p) ≡ false
        not-same p q = grind (arith, nat_tests)

        go : (b d : Bool) → b ≡ false → d ≡ false → (if b then (a + suc c) ∷ a ∷ ys else (if d then a ∷ ys else a ∷ placed ys (a + suc c))) ≡ a ∷ placed ys (a + suc c)
        go true d e f = absurd (cc)
        go false true e f = absurd (cc)
        go false false e f = refl
placed_marked low m (suc i) (false ∷ bs) far at rises behind =
    ap (placed (marked (m + 1) bs ++ far)) (same m i) ∙ placed_marked low (m + 1) i bs far at rises (behind-next m (length bs) far behind)
  where
    same : (a c : ℕ) → a + suc c ≡ (a + 1) + c
    same a c = omega arith

-- one behind all marks
pub placed_behind : (m n : ℕ) (bs : List Bool) (far : List ℕ) → m + length bs ≤ n → placed (marked m bs ++ far) n ≡ marked m bs ++ placed far n
placed_behind m n [] far above = refl
placed_behind m n (true ∷ bs) far above = over m n (length bs) (marked (m + 1) bs ++ far) above ∙ ap (λ ys. m ∷ ys) (placed_behind (m + 1) n bs far (next m (length bs) n above))
  where
    next : (a k c : ℕ) → a + suc k ≤ c → (a + 1) + k ≤ c
    next a k c e = omega (arith, e)

    over : (a c k : ℕ) (ys : List ℕ) → a + suc k ≤ c → placed (a ∷ ys) c ≡ a ∷ placed ys c
    over a c k ys e = go (nat_lt c a) (c == a) (not-less a c k e) (not-same a c k e)
      where
        not-less : (p q r : ℕ) → p + suc r ≤ q → nat_lt q p ≡ false
        not-less p q r e = grind (arith, nat_tests)

        not-same : (p q r : ℕ) → p + suc r ≤ q → (q == p) ≡ false
        not-same p q r e = grind (arith, nat_tests)

        go : (b d : Bool) → b ≡ false → d ≡ false → (if b then c ∷ a ∷ ys else (if d then a ∷ ys else a ∷ placed ys c)) ≡ a ∷ placed ys c
        go true d e f = absurd (cc)
        go false true e f = absurd (cc)
        go false false e f = refl
placed_behind m n (false ∷ bs) far above = placed_behind (m + 1) n bs far (next m (length bs) n above)
  where
    next : (a k c : ℕ) → a + suc k ≤ c → (a + 1) + k ≤ c
    next a k c e = omega (arith, e)

-- marks of numbers that were not taken tell nothing
pub marked_pad : (m k : ℕ) (bs : List Bool) → marked m (bs ++ replicate k false) ≡ marked m bs
marked_pad m zero [] = refl
marked_pad m (suc k) [] = marked_pad (m + 1) k []
marked_pad m k (true ∷ bs) = ap (λ ys. m ∷ ys) (marked_pad (m + 1) k bs)
marked_pad m k (false ∷ bs) = marked_pad (m + 1) k bs

-- and behind them one of a number that was
pub marked_laid : (m k : ℕ) (bs : List Bool) → marked m (bs ++ replicate k false ++ true ∷ []) ≡ marked m bs ++ (m + length bs + k) ∷ []
marked_laid m zero [] = ap (λ n. n ∷ []) (same m)
  where
    same : (a : ℕ) → a ≡ a + 0 + 0
    same a = omega arith
marked_laid m (suc k) [] = marked_laid (m + 1) k [] ∙ ap (λ n. n ∷ []) (same m k)
  where
    same : (a c : ℕ) → (a + 1) + 0 + c ≡ a + 0 + suc c
    same a c = omega arith
marked_laid m k (true ∷ bs) = ap (λ ys. m ∷ ys) (marked_laid (m + 1) k bs ∙ ap (λ n. marked (m + 1) bs ++ n ∷ []) (same m (length bs) k))
  where
    same : (a b c : ℕ) → (a + 1) + b + c ≡ a + suc b + c
    same a b c = omega arith
marked_laid m k (false ∷ bs) = marked_laid (m + 1) k bs ∙ ap (λ n. marked (m + 1) bs ++ n ∷ []) (same m (length bs) k)
  where
    same : (a b c : ℕ) → (a + 1) + b + c ≡ a + suc b + c
    same a b c = omega arith

-- ---- the front moves on

-- what marks and far numbers tell from a number on
pub settled_marks : (n : ℕ) (bs : List Bool) (far : List ℕ) → RisesFrom (n + length bs) far → settled n (marked n bs ++ far) ≡ told_by (settled (passed n bs).0 far).front (passed n bs).1 (settled (passed n bs).0 far).above
settled_marks n [] far behind = refl
settled_marks n (true ∷ bs) far behind = go (n == n) (self n) (settled_marks (n + 1) bs far (behind-next n (length bs) far behind))
  where
    self : (a : ℕ) → (a == a) ≡ true
    self a = grind (arith, nat_tests)

    go : (b : Bool) → b ≡ true → settled (n + 1) (marked (n + 1) bs ++ far) ≡ told_by (settled (passed (n + 1) bs).0 far).front (passed (n + 1) bs).1 (settled (passed (n + 1) bs).0 far).above
        → (if b then settled (n + 1) (marked (n + 1) bs ++ far) else record { front = n; above = n ∷ (marked (n + 1) bs ++ far) }) ≡ told_by (settled (passed (n + 1) bs).0 far).front (passed (n + 1) bs).1 (settled (passed (n + 1) bs).0 far).above
    go true e f = f
    go false e f = absurd (cc)
settled_marks n (false ∷ bs) far behind = stays n (marked (n + 1) bs ++ far) (hole n (n + 1) bs far (omega arith) (behind-next n (length bs) far behind)) ∙ ap (λ w. told_by w.front bs w.above) (sym (stays n far (low_first n (n + suc (length bs)) far (above n (length bs)) behind)))
  where
    above : (a b : ℕ) → a < a + suc b
    above a b = omega arith

    stays : (a : ℕ) (xs : List ℕ) → starts_at xs a ≡ false → settled a xs ≡ record { front = a; above = xs }
    stays a [] e = refl
    stays a (x ∷ xs) e = pick (x == a) e
      where
        pick : (b : Bool) → b ≡ false → (if b then settled (a + 1) xs else record { front = a; above = x ∷ xs }) ≡ record { front = a; above = x ∷ xs }
        pick true e = absurd (cc)
        pick false e = refl

    hole : (a m : ℕ) (cs : List Bool) (xs : List ℕ) → a < m → RisesFrom (m + length cs) xs → starts_at (marked m cs ++ xs) a ≡ false
    hole a m [] xs less after = low_first a (m + 0) xs (wide a m less) after
      where
        wide : (p q : ℕ) → p < q → p < q + 0
        wide p q e = omega (arith, e)
    hole a m (true ∷ cs) xs less after = apart m a less
      where
        apart : (p q : ℕ) → q < p → (p == q) ≡ false
        apart p q e = grind (arith, nat_tests)
    hole a m (false ∷ cs) xs less after = hole a (m + 1) cs xs (wide a m less) (behind-next m (length cs) xs after)
      where
        wide : (p q : ℕ) → p < q → p < q + 1
        wide p q e = omega (arith, e)

-- the far numbers still lie behind the marks that are left
passed-behind : (n : ℕ) (bs : List Bool) (far : List ℕ) → RisesFrom (n + length bs) far → RisesFrom ((settled (passed n bs).0 far).front + 1 + length (passed n bs).1) (settled (passed n bs).0 far).above
passed-behind n [] far behind = subst (λ k. RisesFrom k (settled n far).above) (none (settled n far).front) (settled_window n far (behind-none n far behind))
  where
    none : (a : ℕ) → a + 1 ≡ a + 1 + 0
    none a = omega arith
passed-behind n (true ∷ bs) far behind = passed-behind (n + 1) bs far (behind-next n (length bs) far behind)
passed-behind n (false ∷ bs) far behind = go far (low_first n (n + suc (length bs)) far (above n (length bs)) behind) behind
  where
    above : (a b : ℕ) → a < a + suc b
    above a b = omega arith

    same : (a b : ℕ) → a + suc b ≡ a + 1 + b
    same a b = omega arith

    go : (xs : List ℕ) → starts_at xs n ≡ false → RisesFrom (n + suc (length bs)) xs → RisesFrom ((settled n xs).front + 1 + length bs) (settled n xs).above
    go [] e rises = tt
    go (x ∷ xs) e rises = pick (x == n) e (subst (λ k. RisesFrom k (x ∷ xs)) (same n (length bs)) rises)
      where
        pick : (b : Bool) → b ≡ false → RisesFrom (n + 1 + length bs) (x ∷ xs) → RisesFrom ((if b then settled (n + 1) xs else record { front = n; above = x ∷ xs }).front + 1 + length bs) (if b then settled (n + 1) xs else record { front = n; above = x ∷ xs }).above
        pick true e r = absurd (cc)
        pick false e r = r

-- the front is taken: marks are passed, and then far numbers
pub advanced : (front : ℕ) (marks : List Bool) (far : List ℕ) (w : Numbers) → AreApart front marks far → w ≡ settled (passed (front + 1) marks).0 far → (told_by w.front (passed (front + 1) marks).1 w.above ≡ settled (front + 1) (told_by front marks far).above) × AreApart w.front (passed (front + 1) marks).1 w.above
advanced front marks far w apart is =
    let behind = apart.behind in
    let same : told_by w.front (passed (front + 1) marks).1 w.above ≡ settled (front + 1) (told_by front marks far).above
    = ap (λ v. told_by v.front (passed (front + 1) marks).1 v.above) is ∙ sym (settled_marks (front + 1) marks far behind) in (
      same,
      record {
        window = subst IsWindow (sym same) (settled_window (front + 1) (marked (front + 1) marks ++ far) apart.window);
        behind = subst (λ v. RisesFrom (v.front + 1 + length (passed (front + 1) marks).1) v.above) (sym is) (passed-behind (front + 1) marks far behind);
      },
    )

-- the front does not come behind the marks
pub passed_far : (n : ℕ) (bs : List Bool) (far : List ℕ) (f : ℕ) (ms : List Bool) → (f, ms) ≡ passed n bs → RisesFrom (n + length bs) far → RisesFrom f far
passed_far n bs far f ms is behind = weaken (n + length bs) f far (subst (λ p. p.0 ≤ n + length bs) (sym is) (under n bs)) behind
  where
    under : (m : ℕ) (cs : List Bool) → (passed m cs).0 ≤ m + length cs
    under m [] = omega arith
    under m (true ∷ cs) = next m (length cs) (passed (m + 1) cs).0 (under (m + 1) cs)
      where
        next : (a k p : ℕ) → p ≤ (a + 1) + k → p ≤ a + suc k
        next a k p e = omega (arith, e)
    under m (false ∷ cs) = omega arith

-- the front, marks and far numbers once the front was taken
pub advanced_to : (front : ℕ) (marks : List Bool) (far : List ℕ) (f g : ℕ) (ms : List Bool) (xs : List ℕ) → AreApart front marks far → (f, ms) ≡ passed (front + 1) marks → record { front = g; above = xs } ≡ settled f far → (told_by g ms xs ≡ settled (front + 1) (told_by front marks far).above) × AreApart g ms xs
advanced_to front marks far f g ms xs apart how is =
    subst (λ p. (told_by g p.1 xs ≡ settled (front + 1) (told_by front marks far).above) × AreApart g p.1 xs) (sym how)
    (advanced front marks far (record { front = g; above = xs }) apart (is ∙ ap (λ p. settled p.0 far) how))

-- marks alone rise as marks and far numbers do
pub rises_front : (n : ℕ) (xs ys : List ℕ) → RisesFrom n (xs ++ ys) → RisesFrom n xs
rises_front n [] ys rises = tt
rises_front n (x ∷ xs) ys rises = (rises.0, rises.1, rises_front (x + 1) xs ys rises.2)

-- a mark of a number that was taken is passed
pub passed_more : (n : ℕ) (bs cs : List Bool) (b : Bool) → bs ≡ b ∷ cs → b ≡ true → RisesFrom n (marked n bs) → (passed n bs ≡ passed (n + 1) cs) × (n + 1 < 2 ^ 64) × RisesFrom (n + 1) (marked (n + 1) cs)
passed_more n bs cs b is taken rises =
    let all : bs ≡ true ∷ cs = is ∙ ap (λ c. c ∷ cs) taken in
    let r : RisesFrom n (n ∷ marked (n + 1) cs) = subst (λ ys. RisesFrom n (marked n ys)) all rises in
    (ap (passed n) all, r.1, r.2)

-- the other one is the front's own
pub passed_hole : (n : ℕ) (bs cs : List Bool) (b : Bool) → bs ≡ b ∷ cs → b ≡ false → (n, cs) ≡ passed n bs
passed_hole n bs cs b is open_ = sym (ap (passed n) (is ∙ ap (λ c. c ∷ cs) open_))

pub passed_none : (n : ℕ) (bs : List Bool) → bs ≡ [] → (n, bs) ≡ passed n bs
passed_none n bs none = rw none (refl)

-- ---- what the calls ask

pub has_low : (w : Numbers) (n : ℕ) → IsWindow w → n ≤ w.front → nat_lt n w.front ≡ has_number w n
has_low w n window low = alone (nat_lt n w.front) (has ◌==◌ w.above n) (low_has n (w.front + 1) w.above (less n w.front low) window)
  where
    less : (a b : ℕ) → a ≤ b → a < b + 1
    less a b e = omega (arith, e)

    alone : (b c : Bool) → c ≡ false → b ≡ (b || c)
    alone true c e = refl
    alone false c e = sym e

pub has_high : (w : Numbers) (n : ℕ) (b : Bool) → w.front < n → has ◌==◌ w.above n ≡ b → b ≡ has_number w n
has_high w n b high is = go (nat_lt n w.front) (not-less n w.front high)
  where
    not-less : (p q : ℕ) → q < p → nat_lt p q ≡ false
    not-less p q e = grind (arith, nat_tests)

    go : (c : Bool) → c ≡ false → b ≡ (c || has ◌==◌ w.above n)
    go true e = absurd (cc)
    go false e = sym is

-- a number with a mark
pub has_mark : (front n i : ℕ) (marks : List Bool) (far : List ℕ) (b : Bool) → AreApart front marks far → front < n → i ≡ n - front - 1 → slice_get marks i ≡ Some b → b ≡ has_number (told_by front marks far) n
has_mark front n i marks far b apart high is at =
    let place : (front + 1) + i ≡ n = there front n i high is in
    has_high (told_by front marks far) n b high (subst (λ k. has ◌==◌ (marked (front + 1) marks ++ far) k ≡ b) place (marked_has (front + 1) (front + 1) i marks far b at apart.window apart.behind))
  where
    there : (a b c : ℕ) → a < b → c ≡ b - a - 1 → (a + 1) + c ≡ b
    there a b c e f = omega (arith, e, f)

-- one behind the marks
pub has_far : (front n i : ℕ) (marks : List Bool) (far : List ℕ) → front < n → i ≡ n - front - 1 → length marks ≤ i → list_any (is_at (nat_cmp n)) far ≡ has_number (told_by front marks far) n
has_far front n i marks far high is after =
    has_high (told_by front marks far) n (list_any (is_at (nat_cmp n)) far) high (marked_behind (front + 1) n marks far (there front n i (length marks) high is after) ∙ sym (set_has far n))
  where
    there : (a b c k : ℕ) → a < b → c ≡ b - a - 1 → k ≤ c → (a + 1) + k ≤ b
    there a b c k e f g = omega (arith, e, f, g)

-- less than the first is less than all
pub before_none : (number : ℕ) (far : List ℕ) → far ≡ [] → (low : ℕ) → RisesFrom low far → RisesFrom (number + 1) far
before_none number far none low rises = rw none (tt)

pub before_first : (number first : ℕ) (far rest : List ℕ) → far ≡ first ∷ rest → nat_lt number first ≡ true → (low : ℕ) → RisesFrom low far → RisesFrom (number + 1) far
before_first number first far rest is less low rises =
    let r : RisesFrom low (first ∷ rest) = subst (RisesFrom low) is rises in
    subst (RisesFrom (number + 1)) (sym is) (above number first less, r.1, r.2)
  where
    above : (a b : ℕ) → nat_lt a b ≡ true → a + 1 ≤ b
    above a b e = grind (arith, nat_tests)

-- ---- a number above the front is taken

new-place : (front n i : ℕ) → front < n → i ≡ n - front - 1 → (front + 1) + i ≡ n
new-place a b c e f = omega (arith, e, f)

-- what was not taken has a mark that says so
pub mark_new : (front n i : ℕ) (marks : List Bool) (far : List ℕ) (b : Bool) → AreApart front marks far → front < n → i ≡ n - front - 1 → slice_get marks i ≡ Some b → has ◌==◌ (marked (front + 1) marks ++ far) n ≡ false → slice_get marks i ≡ Some false
mark_new front n i marks far b apart high is at new =
    at ∙ ap Some (sym (marked_has (front + 1) (front + 1) i marks far b at apart.window apart.behind) ∙ (ap (has ◌==◌ (marked (front + 1) marks ++ far)) (new-place front n i high is) ∙ new))

-- then the mark says that it was taken
pub mark_placed : (front n i : ℕ) (marks : List Bool) (far : List ℕ) → AreApart front marks far → front < n → n + 1 < 2 ^ 64 → i ≡ n - front - 1 → slice_get marks i ≡ Some false → (told_by front (set marks i true) far ≡ record { front = front; above = placed (marked (front + 1) marks ++ far) n }) × AreApart front (set marks i true) far
mark_placed front n i marks far apart high small is at =
    let same : marked (front + 1) (set marks i true) ++ far ≡ placed (marked (front + 1) marks ++ far) n
    = sym (placed_marked (front + 1) (front + 1) i marks far at apart.window apart.behind) ∙ ap (placed (marked (front + 1) marks ++ far)) (new-place front n i high is) in (
      ap (λ ys. record { front = front; above = ys }) same,
      record {
        window = subst (RisesFrom (front + 1)) (sym same) (placed_rises (front + 1) n (marked (front + 1) marks ++ far) (up front n high) small apart.window);
        behind = subst (λ k. RisesFrom (front + 1 + k) far) (sym (as-long marks i true)) apart.behind;
      },
    )
  where
    up : (a b : ℕ) → a < b → a + 1 ≤ b
    up a b e = omega (arith, e)

    as-long : (bs : List Bool) (k : ℕ) (b : Bool) → length (set bs k b) ≡ length bs
    as-long [] k b = refl
    as-long (c ∷ bs) zero b = refl
    as-long (c ∷ bs) (suc k) b = ap suc (as-long bs k b)

-- a far number
pub far_placed : (front n i : ℕ) (marks : List Bool) (far : List ℕ) → AreApart front marks far → front < n → n + 1 < 2 ^ 64 → i ≡ n - front - 1 → length marks ≤ i → (told_by front marks (insert_key nat_cmp far n) ≡ record { front = front; above = placed (marked (front + 1) marks ++ far) n }) × AreApart front marks (insert_key nat_cmp far n)
far_placed front n i marks far apart high small is after =
    let same : marked (front + 1) marks ++ insert_key nat_cmp far n ≡ placed (marked (front + 1) marks ++ far) n
    = ap (λ ys. marked (front + 1) marks ++ ys) (set_placed far n) ∙ sym (placed_behind (front + 1) n marks far (there front n i (length marks) high is after)) in (
      ap (λ ys. record { front = front; above = ys }) same,
      record {
        window = subst (RisesFrom (front + 1)) (sym same) (placed_rises (front + 1) n (marked (front + 1) marks ++ far) (up front n high) small apart.window);
        behind = subst (RisesFrom (front + 1 + length marks)) (sym (set_placed far n)) (placed_rises (front + 1 + length marks) n far (there front n i (length marks) high is after) small apart.behind);
      },
    )
  where
    up : (a b : ℕ) → a < b → a + 1 ≤ b
    up a b e = omega (arith, e)

    there : (a b c k : ℕ) → a < b → c ≡ b - a - 1 → k ≤ c → (a + 1) + k ≤ b
    there a b c k e f g = omega (arith, e, f, g)

-- marks laid up to it
pub laid_placed : (front n i : ℕ) (marks laid : List Bool) (far : List ℕ) → AreApart front marks far → front < n → n + 1 < 2 ^ 64 → i ≡ n - front - 1 → length marks ≤ i → ((low : ℕ) → RisesFrom low far → RisesFrom (n + 1) far) → laid ≡ marks ++ replicate (i - length marks) false ++ true ∷ [] → (told_by front laid far ≡ record { front = front; above = placed (marked (front + 1) marks ++ far) n }) × AreApart front laid far
laid_placed front n i marks laid far apart high small is after before how =
    let behind : RisesFrom (n + 1) far = before (front + 1 + length marks) apart.behind in
    let number : front + 1 + length marks + (i - length marks) ≡ n = there front n i (length marks) high is after in
    let tells : marked (front + 1) laid ≡ marked (front + 1) marks ++ n ∷ []
    = ap (marked (front + 1)) how ∙ (marked_laid (front + 1) (i - length marks) marks ∙ ap (λ k. marked (front + 1) marks ++ k ∷ []) number) in
    let same : marked (front + 1) laid ++ far ≡ placed (marked (front + 1) marks ++ far) n
    = ap (λ ys. ys ++ far) tells ∙ (append-one (marked (front + 1) marks) n far ∙ (ap (λ ys. marked (front + 1) marks ++ ys) (sym (low_placed n (n + 1) far (less n) behind)) ∙ sym (placed_behind (front + 1) n marks far (above front n i (length marks) high is after)))) in (
      ap (λ ys. record { front = front; above = ys }) same,
      record {
        window = subst (RisesFrom (front + 1)) (sym same) (placed_rises (front + 1) n (marked (front + 1) marks ++ far) (up front n high) small apart.window);
        behind = subst (λ k. RisesFrom k far) (sym (long front n i (length marks) (length laid) high is after (ap length how ∙ count marks (i - length marks)))) behind;
      },
    )
  where
    up : (a b : ℕ) → a < b → a + 1 ≤ b
    up a b e = omega (arith, e)

    less : (a : ℕ) → a < a + 1
    less a = omega arith

    there : (a b c k : ℕ) → a < b → c ≡ b - a - 1 → k ≤ c → a + 1 + k + (c - k) ≡ b
    there a b c k e f g = omega (arith, e, f, g)

    above : (a b c k : ℕ) → a < b → c ≡ b - a - 1 → k ≤ c → (a + 1) + k ≤ b
    above a b c k e f g = omega (arith, e, f, g)

    long : (a b c k l : ℕ) → a < b → c ≡ b - a - 1 → k ≤ c → l ≡ k + ((c - k) + 1) → a + 1 + l ≡ b + 1
    long a b c k l e f g h = omega (arith, e, f, g, h)

    append-one : (xs : List ℕ) (k : ℕ) (ys : List ℕ) → (xs ++ k ∷ []) ++ ys ≡ xs ++ k ∷ ys
    append-one [] k ys = refl
    append-one (x ∷ xs) k ys = ap (λ zs. x ∷ zs) (append-one xs k ys)

    count : (bs : List Bool) (k : ℕ) → length (bs ++ replicate k false ++ true ∷ []) ≡ length bs + (k + 1)
    count [] zero = refl
    count [] (suc k) = first (length (replicate k false ++ true ∷ [])) k (count [] k)
      where
        first : (a c : ℕ) → a ≡ 0 + (c + 1) → suc a ≡ 0 + (suc c + 1)
        first a c e = omega (arith, e)
    count (b ∷ bs) k = next (length (bs ++ replicate k false ++ true ∷ [])) (length bs) k (count bs k)
      where
        next : (a d c : ℕ) → a ≡ d + (c + 1) → suc a ≡ suc d + (c + 1)
        next a d c e = omega (arith, e)

-- marks laid for want of memory tell no number
pub pad_placed : (front n i : ℕ) (marks laid : List Bool) (far : List ℕ) → AreApart front marks far → front < n → i ≡ n - front - 1 → length marks ≤ i → ((low : ℕ) → RisesFrom low far → RisesFrom (n + 1) far) → (laid ≡ marks) ⊎ (laid ≡ marks ++ replicate (i - length marks) false) → (told_by front laid far ≡ told_by front marks far) × AreApart front laid far
pad_placed front n i marks laid far apart high is after before (inl how) = (ap (λ ms. told_by front ms far) how, subst (λ ms. AreApart front ms far) (sym how) apart)
pad_placed front n i marks laid far apart high is after before (inr how) =
    let same : told_by front laid far ≡ told_by front marks far
    = ap (λ ys. record { front = front; above = ys ++ far }) (ap (marked (front + 1)) how ∙ marked_pad (front + 1) (i - length marks) marks) in (
      same,
      record {
        window = subst IsWindow (sym same) apart.window;
        behind = weaken (n + 1) (front + 1 + length laid) far (long front n i (length marks) (length laid) high is after (ap length how ∙ count marks (i - length marks))) (before (front + 1 + length marks) apart.behind);
      },
    )
  where
    long : (a b c k l : ℕ) → a < b → c ≡ b - a - 1 → k ≤ c → l ≡ k + (c - k) → a + 1 + l ≤ b + 1
    long a b c k l e f g h = omega (arith, e, f, g, h)

    count : (bs : List Bool) (k : ℕ) → length (bs ++ replicate k false) ≡ length bs + k
    count [] zero = refl
    count [] (suc k) = first (length (replicate k false)) k (count [] k)
      where
        first : (a c : ℕ) → a ≡ 0 + c → suc a ≡ 0 + suc c
        first a c e = omega (arith, e)
    count (b ∷ bs) k = next (length (bs ++ replicate k false)) (length bs) k (count bs k)
      where
        next : (a d c : ℕ) → a ≡ d + c → suc a ≡ suc d + c
        next a d c e = omega (arith, e)

-- after either end of a call
pub either : {T E A B P : Type 0} (r : Result T E) → OnOk r A → OnErr r B → (A → P) → (B → P) → P
either (Ok x) a b f g = f a
either (Err e) a b f g = g b

-- ---- the numbers then

pub then_has : (w v : Numbers) (n : ℕ) → has_number w n ≡ false → (n == w.front) ≡ false → v ≡ record { front = w.front; above = placed w.above n } → (v ≡ after_take w n) × ((k : ℕ) → has_number v k ≡ (has_number w k || (k == n)))
then_has w v n new apart is =
    let same : v ≡ after_take w n = is ∙ go (has_number w n) (n == w.front) new apart in
    (same, λ k. ap (λ u. has_number u k) same ∙ take_has w n k)
  where
    go : (b c : Bool) → b ≡ false → c ≡ false → record { front = w.front; above = placed w.above n } ≡ (if b then w else (if c then settled (n + 1) w.above else record { front = w.front; above = placed w.above n }))
    go true c e f = absurd (cc)
    go false true e f = absurd (cc)
    go false false e f = refl
