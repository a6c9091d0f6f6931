-- How many acts a large script has, and what holds of each.
use Rattle.std.proofs.Common.{ℕ, zero, suc, ◌≡◌, ◌≢◌, ◌<◌, ◌≤◌, ◌+◌, ◌/◌, ◌==◌, Bool, true, false, List, [], ◌∷◌, ◌++◌, length, filter, refl, arith, ap, ◌∙◌, if◌then◌else◌, length-append, ◌⊎◌, inl, inr}
use Rattle.std.specs.List.{AllByRecursion}
use Rattle.std.proofs.lemmas.Bool.{eqb-true, cases_lt}
use Rattle.std.proofs.lemmas.Bool.Decides.{nat_tests}
use Rattle.sat_act.specs.declared.act.Act.{Act}
use Rattle.sat_act.specs.declared.act.Act.TheVariants as act
use Rattle.sat_act.specs.Ranges.{IsActOf}
use Rattle.sat_act.specs.Runs.{is_settle}
use Rattle.sat_settle.specs.declared.load_rows.Row.{Row}
use Rattle.sat_settle.specs.declared.load_rows.Row.TheVariants as row
use Rattle.sat_settle.specs.LoadHeader.{load_deployment}
use Rattle.sat_settle.specs.LoadActs.{row_act, row_at, closes, closes_after, made_acts, load_acts}
use Rattle.sat_settle.specs.LoadDraws.{next_state}
use Rattle.sat_settle.proofs.LoadLists.{all-append, all-below}
use Rattle.sat_settle.proofs.LoadRanges.{row-in-range, close-in-range}

-- ---- what holds of each act

-- what holds of the acts of all rows and of the closes
record OfEach (P : Act → Type 0) (most : ℕ) : Type 0 where
  rows : (r : Row) (k x : ℕ) → k ≤ most → P (row_act r k x)
  closes : (i : ℕ) → i < 5 → P (act.Close i)

closes-all : (P : Act → Type 0) (most n k : ℕ) → OfEach P most → AllByRecursion P (closes_after n k)
closes-all P most n k each = go (k == n / 2)
  where
    go : (b : Bool) → AllByRecursion P (if b then closes else [])
    go true = all-below P act.Close 5 each.closes
    go false = tt

made-all : (P : Act → Type 0) (most seed n k : ℕ) → OfEach P most → k ≤ most → AllByRecursion P (made_acts seed n k).acts
unfolding made_acts
made-all P most seed n zero each few = tt
made-all P most seed n (suc k) each few =
    let x = (made_acts seed n k).state in
    all-append P (made_acts seed n k).acts (row_act (row_at x) (suc k) (next_state x) ∷ closes_after n (suc k))
    (made-all P most seed n k each (omega arith))
    (each.rows (row_at x) (suc k) (next_state x) few, closes-all P most n (suc k) each)

pub each-in-range : (seed n : ℕ) → n ≤ 199000 → AllByRecursion (IsActOf load_deployment) (load_acts seed n)
unfolding load_acts
each-in-range seed n few =
    all-append (IsActOf load_deployment) (made_acts seed n n).acts (act.Settle ∷ [])
    (made-all (IsActOf load_deployment) 199000 seed n n (record { rows = row-in-range; closes = close-in-range }) few) (tt, tt)

-- ---- the settle

row-no-settle : (r : Row) (k x : ℕ) → is_settle (row_act r k x) ≡ false
unfolding row_act
row-no-settle row.Write k x = refl
row-no-settle row.Read k x = refl
row-no-settle row.Move k x = refl
row-no-settle row.Attach k x = refl
row-no-settle row.Tick k x = refl
row-no-settle row.Gather k x = refl
row-no-settle row.Emit k x = refl
row-no-settle row.Pulse k x = refl
row-no-settle row.Hop k x = refl
row-no-settle row.Bulk k x = refl
row-no-settle row.Turn k x = refl

last-alone : (acts : List Act) → AllByRecursion (λ a. is_settle a ≡ false) acts → filter is_settle (acts ++ act.Settle ∷ []) ≡ act.Settle ∷ []
last-alone [] none = refl
last-alone (a ∷ acts) none = rw (none.0) (last-alone acts none.1)

-- a large script has one settle
pub one-settle : (seed n : ℕ) → length (filter is_settle (load_acts seed n)) ≡ 1
unfolding load_acts
one-settle seed n =
    ap length (last-alone (made_acts seed n n).acts
    (made-all (λ a. is_settle a ≡ false) n seed n n (record { rows = λ r k x few. row-no-settle r k x; closes = λ i less. refl }) (omega arith)))

-- ---- the number of acts

record Counted (seed n k : ℕ) : Type 0 where
  before : k < n / 2 → length (made_acts seed n k).acts ≡ k
  since : n / 2 ≤ k → length (made_acts seed n k).acts ≡ k + 5

no-closes : (n k : ℕ) → k ≢ n / 2 → length (closes_after n k) ≡ 0
no-closes n k other = go (k == n / 2) refl
  where
    go : (b : Bool) → (k == n / 2) ≡ b → length (if b then closes else []) ≡ 0
    go true is = absurd (other (eqb-true _ _ is))
    go false is = refl

some-closes : (n k : ℕ) → k ≡ n / 2 → length (closes_after n k) ≡ 5
some-closes n k same = let is : (k == n / 2) ≡ true = grind (arith, nat_tests) in rw is refl

longer : (seed n k : ℕ) → length (made_acts seed n (suc k)).acts ≡ length (made_acts seed n k).acts + 1 + length (closes_after n (suc k))
unfolding made_acts
longer seed n k =
    let x = (made_acts seed n k).state in
    let e = length-append (made_acts seed n k).acts (row_act (row_at x) (suc k) (next_state x) ∷ closes_after n (suc k)) in
    e ∙ omega arith

counted : (seed n k : ℕ) → 2 ≤ n → Counted seed n k
unfolding made_acts
counted seed n zero some = record { before = λ less. refl; since = λ most. absurd (omega arith) }
counted seed n (suc k) some =
    let more = longer seed n k in
    let last = counted seed n k some in
    record {
      before = λ less. let a = last.before (omega arith) in let b = no-closes n (suc k) (omega arith) in omega arith;
      since = λ most. go (cases_lt k (n / 2)) more last most;
    }
  where
    go : (k < n / 2) ⊎ (n / 2 ≤ k) → length (made_acts seed n (suc k)).acts ≡ length (made_acts seed n k).acts + 1 + length (closes_after n (suc k)) → Counted seed n k → n / 2 ≤ suc k → length (made_acts seed n (suc k)).acts ≡ suc k + 5
    go (inl less) more last most = let a = last.before less in let b = some-closes n (suc k) (omega arith) in omega arith
    go (inr past) more last most = let a = last.since past in let b = no-closes n (suc k) (omega arith) in omega arith

pub acts_counted : (seed n : ℕ) → 2 ≤ n → length (load_acts seed n) ≡ n + 6
unfolding load_acts
acts_counted seed n some =
    let e = (counted seed n n some).since (omega arith) in
    length-append (made_acts seed n n).acts (act.Settle ∷ []) ∙ omega arith
