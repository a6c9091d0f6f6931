-- When a call may say that the outside failed.
use Rattle.std.specs.Prelude.{ℕ, ◌+◌, ◌-◌, ◌^◌, ◌≤◌, ◌≡◌, ◌==◌, min, OnErr, MatchResult, if◌then◌else◌}
use Rattle.std.specs.declared.result.Result.{Result}

-- A count of faults went up, or stands at the last value of a u64.
abbrev pub Rose : ℕ → ℕ → Type 0
Rose before now = min (before + 1) (2 ^ 64 - 1) ≤ now

-- A count of faults never falls, and a call fails only where it went up in this call.
pub record HasCause {T E : Type 0} (before now : ℕ) (result : Result T E) : Type 0 where
  pub later : before ≤ now
  pub failed : OnErr result (Rose before now)

-- A count of faults rises by one at each failure, up to the last value of a u64, and at nothing else.
abbrev pub CountsFaults : {T E : Type 0} → ℕ → ℕ → Result T E → Type 0
CountsFaults before now result = MatchResult result (λ _. now ≡ before) (λ _. now ≡ min (before + 1) (2 ^ 64 - 1))

-- A count of ends rises by one at each read that gives no byte, up to the last value of a u64, and at nothing else.
abbrev pub CountsEnds : {E : Type 0} → ℕ → ℕ → Result ℕ E → Type 0
CountsEnds before now result =
    MatchResult result (λ n. now ≡ (if n == 0 then min (before + 1) (2 ^ 64 - 1) else before)) (λ _. now ≡ before)
