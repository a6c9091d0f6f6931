-- Numbers of ends, and tests on them.
use Rattle.std.proofs.Common.{◌≡◌, ◌≢◌, ℕ, ◌+◌, ◌*◌, ◌-◌, ◌^◌, ◌<◌, ◌≤◌, ◌==◌, ◌&&◌, ◌||◌, nat_le, nat_lt, Bool, true, false, inl, inr, refl, sym, ap, ◌∙◌, subst, arith}
use Rattle.std.proofs.lemmas.Bool.{cases_Bool}
use Rattle.std.proofs.lemmas.Bool.Decides.{nat_tests}
use Rattle.std.proofs.lemmas.Nat.{mul-lt}
use Rattle.std.proofs.Math.Nat.{mul-le-mul_right}
use Rattle.sat_machines.specs.Layout.{peer}
use Rattle.sat_parts.specs.Layout.{rank}

-- ---- products

pub product_small : (a b : ℕ) → a < 2 ^ 16 → b < 2 ^ 16 → a * b < 2 ^ 32
product_small a b ha hb = (let h : a * b < 2 ^ 16 * 2 ^ 16 = mul-lt a b (2 ^ 16) (2 ^ 16) ha hb in omega arith)

pub next_product : (n m : ℕ) → (n + 1) * m ≡ n * m + m
next_product n m = grind (arith)

-- a lane of one of the first sites
pub lane_within : (first n g others gears : ℕ) → n < others → g < gears → (first + n * gears) + g < first + others * gears
lane_within first n g others gears hn hg =
    let le : (n + 1) * gears ≤ others * gears = mul-le-mul_right gears (let l : n + 1 ≤ others = omega arith in l) in
    let e = next_product n gears in
    omega arith

-- ---- tests

pub same_one : (m n : ℕ) → m ≡ n → (m == n) ≡ true
same_one m n e = grind (arith, nat_tests)

pub not_one : (m n : ℕ) → m ≢ n → (m == n) ≡ false
not_one m n differ = grind (arith, nat_tests)

pub is_one : (m n : ℕ) → (m == n) ≡ true → m ≡ n
is_one m n e = grind (arith, nat_tests)

-- one number more of those from lo on
pub within_more : (lo n k : ℕ) → (nat_le lo k && nat_lt k (lo + (n + 1))) ≡ ((nat_le lo k && nat_lt k (lo + n)) || (k == lo + n))
within_more lo n k = elim (cases_Bool (nat_le lo k)) [
  | inl a ↦ elim (cases_Bool (nat_lt k (lo + n))) [
    | inl b ↦ let c : nat_lt k (lo + (n + 1)) ≡ true = grind (arith, nat_tests) in rw (a, b, c) refl
    | inr b ↦ elim (cases_Bool (k == lo + n)) [
      | inl e ↦ let c : nat_lt k (lo + (n + 1)) ≡ true = grind (arith, nat_tests) in rw (a, b, c, e) refl
      | inr e ↦ let c : nat_lt k (lo + (n + 1)) ≡ false = grind (arith, nat_tests) in rw (a, b, c, e) refl
    ]
  ]
  | inr a ↦ let e : (k == lo + n) ≡ false = grind (arith, nat_tests) in rw (a, e) refl
]

pub within_not : (lo n k : ℕ) → (k == lo + n) ≡ true → (nat_le lo k && nat_lt k (lo + n)) ≡ false
within_not lo n k e = elim (cases_Bool (nat_le lo k)) [
  | inl a ↦ let b : nat_lt k (lo + n) ≡ false = grind (arith, nat_tests) in rw (a, b) refl
  | inr a ↦ rw a refl
]

pub within_none : (lo k : ℕ) → (nat_le lo k && nat_lt k (lo + 0)) ≡ false
within_none lo k = elim (cases_Bool (nat_le lo k)) [
  | inl a ↦ let b : nat_lt k (lo + 0) ≡ false = grind (arith, nat_tests) in rw (a, b) refl
  | inr a ↦ rw a refl
]

-- the lanes of a site are behind all ends for beats
pub first_not : (lo m gears n k : ℕ) → n < lo → (k == n) ≡ true → (nat_le (lo + m) k && nat_lt k ((lo + m) + gears)) ≡ false
first_not lo m gears n k less e = (let a : nat_le (lo + m) k ≡ false = grind (arith, nat_tests) in rw a refl)

-- what is of a site is not of those before it
pub first_beyond : (lo m gears n k : ℕ) → n < lo → ((nat_le (lo + m) k && nat_lt k ((lo + m) + gears)) || (k == n)) ≡ true → (nat_lt k n || (nat_le lo k && nat_lt k (lo + m))) ≡ false
first_beyond lo m gears n k less e = elim (cases_Bool (k == n)) [
  | inl at ↦
      let a : nat_lt k n ≡ false = grind (arith, nat_tests) in
      let b : nat_le lo k ≡ false = grind (arith, nat_tests) in
      rw (a, b) refl
  | inr away ↦
      let le : nat_le (lo + m) k ≡ true = lane (nat_le (lo + m) k) (nat_lt k ((lo + m) + gears)) (k == n) away e in
      let a : nat_lt k n ≡ false = grind (arith, nat_tests) in
      let b : nat_lt k (lo + m) ≡ false = grind (arith, nat_tests) in
      rw (a, b) (and-false (nat_le lo k))
] where
  lane : (p q r : Bool) → r ≡ false → ((p && q) || r) ≡ true → p ≡ true
  lane true q r none some = refl
  lane false q r none some = absurd (let wrong : false ≡ true = sym none ∙ some in cc (wrong))

  and-false : (t : Bool) → (t && false) ≡ false
  and-false true = refl
  and-false false = refl

-- one site more
pub first_more : (lo m gears m' n k : ℕ) → n < lo → m' ≡ m + gears
    → (nat_lt k (n + 1) || (nat_le lo k && nat_lt k (lo + m'))) ≡ ((nat_lt k n || (nat_le lo k && nat_lt k (lo + m))) || ((nat_le (lo + m) k && nat_lt k ((lo + m) + gears)) || (k == n)))
first_more lo m gears m' n k less next = elim (cases_Bool (nat_le lo k)) [
  | inl high ↦
      let a : nat_lt k (n + 1) ≡ false = grind (arith, nat_tests) in
      let b : nat_lt k n ≡ false = grind (arith, nat_tests) in
      let c : (k == n) ≡ false = grind (arith, nat_tests) in
      rw (high, a, b, c) (two (nat_lt k (lo + m)) refl)
  | inr low ↦
      let a : nat_le (lo + m) k ≡ false = grind (arith, nat_tests) in
      elim (cases_Bool (k == n)) [
        | inl at ↦
            let b : nat_lt k (n + 1) ≡ true = grind (arith, nat_tests) in
            let c : nat_lt k n ≡ false = grind (arith, nat_tests) in
            rw (low, a, at, b, c) refl
        | inr away ↦ elim (cases_Bool (nat_lt k n)) [
          | inl under ↦ let b : nat_lt k (n + 1) ≡ true = grind (arith, nat_tests) in rw (low, a, away, b, under) refl
          | inr over ↦ let b : nat_lt k (n + 1) ≡ false = grind (arith, nat_tests) in rw (low, a, away, b, over) refl
        ]
      ]
] where
  two : (t : Bool) → nat_lt k (lo + m) ≡ t → nat_lt k (lo + m') ≡ (nat_lt k (lo + m) || ((nat_le (lo + m) k && nat_lt k ((lo + m) + gears)) || false))
  two true e = let a : nat_lt k (lo + m') ≡ true = grind (arith, nat_tests) in rw (e, a) refl
  two false e =
      let a : nat_le (lo + m) k ≡ true = grind (arith, nat_tests) in
      elim (cases_Bool (nat_lt k ((lo + m) + gears))) [
        | inl inside ↦ let b : nat_lt k (lo + m') ≡ true = grind (arith, nat_tests) in rw (e, a, inside, b) refl
        | inr outside ↦ let b : nat_lt k (lo + m') ≡ false = grind (arith, nat_tests) in rw (e, a, outside, b) refl
      ]

-- of no site
pub first_none : (lo m k : ℕ) → m ≡ 0 → (nat_lt k 0 || (nat_le lo k && nat_lt k (lo + m))) ≡ false
first_none lo m k none =
    let a : nat_lt k 0 ≡ false = grind (arith, nat_tests) in
    elim (cases_Bool (nat_le lo k)) [
      | inl b ↦ let c : nat_lt k (lo + m) ≡ false = grind (arith, nat_tests) in rw (a, b, c) refl
      | inr b ↦ rw (a, b) refl
    ]

-- ---- sites by their numbers among the others

pub peers_apart : (i k j : ℕ) → k ≢ j → (peer i j == peer i k) ≡ false
peers_apart i k j differ = elim (cases_Bool (nat_lt j i)) [
  | inl jl ↦ elim (cases_Bool (nat_lt k i)) [
    | inl kl ↦ rw (jl, kl) (grind (arith, nat_tests))
    | inr kl ↦ rw (jl, kl) (grind (arith, nat_tests))
  ]
  | inr jl ↦ elim (cases_Bool (nat_lt k i)) [
    | inl kl ↦ rw (jl, kl) (grind (arith, nat_tests))
    | inr kl ↦ rw (jl, kl) (grind (arith, nat_tests))
  ]
]

pub rank_peer : (i n : ℕ) → rank i (peer i n) ≡ n
rank_peer i n = elim (cases_Bool (nat_lt n i)) [
  | inl less ↦ rw (less, less) refl
  | inr more ↦ let above : nat_lt (n + 1) i ≡ false = grind (arith, nat_tests) in rw (more, above) (omega arith)
]
