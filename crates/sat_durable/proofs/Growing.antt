-- A body that is appended to a journal in place: what the calls of its disk leave.
use Rattle.std.proofs.Common.{◌≡◌, ◌⊎◌, inl, ℕ, ◌+◌, ◌-◌, ◌≤◌, ◌<◌, ◌^◌, true, false, List, [], ◌∷◌, ◌++◌, length, drop, Result, IsOk, IsErr, refl, sym, ◌∙◌, ap, subst, arith, length-drop}
use Rattle.sat_durable.specs.Told.{Told}
use Rattle.sat_durable.specs.Disk.{DiskState, LeftOnly, Rests}
use Rattle.sat_durable.specs.Drills.{AddsTold, StepsTold}
use Rattle.sat_durable.specs.Journal.{reading, with_last}
use Rattle.sat_durable.specs.Settled.{IsSettled}
use Rattle.sat_durable.proofs.Drilling.{step-cut, step-done}
use Rattle.sat_durable.proofs.Moments.{left_at_first, left_more}

-- the journal as it was, or with one body more
abbrev Either : DiskState → List ℕ → List ℕ → Type 0
Either first body c = (reading c ≡ reading first.content) ⊎ (reading c ≡ with_last (reading first.content) body)

module _ {T E : Type 0} (first ready last : DiskState) (r : Result T E) (body : List ℕ) (same : ready.content ≡ first.content) (tells : ready.told ≡ first.told)
    (adds : AddsTold last r (λ c. reading c ≡ with_last (reading ready.content) body) (λ c. reading c ≡ reading ready.content) ready.told) where
  abbrev Added : DiskState → List ℕ → Type 0
  Added disk c = reading c ≡ with_last (reading disk.content) body

  abbrev Same : DiskState → List ℕ → Type 0
  Same disk c = reading c ≡ reading disk.content

  added : (c : List ℕ) → Added ready c → Added first c
  added c is = is ∙ ap (λ (l : List ℕ). with_last (reading l) body) same

  as_before : (c : List ℕ) → Same ready c → Same first c
  as_before c is = is ∙ ap reading same

  pub told_appended : IsOk r → StepsTold last true (Added first) (Same first) first.told
  told_appended e = subst (StepsTold last true (Added first) (Same first)) tells (step-done last (Added ready) (Same ready) (Added first) (Same first) added as_before r ready.told e adds)

  pub told_failed : IsErr r → StepsTold last false (Added first) (Same first) first.told
  told_failed e = subst (StepsTold last false (Added first) (Same first)) tells (step-cut last (Added ready) (Same ready) (Added first) (Same first) added as_before r ready.told e adds)

-- a body behind five bytes
pub short_body : (bytes : List ℕ) → 5 ≤ length bytes → length bytes < 2 ^ 32 + 5 → length (drop 5 bytes) < 2 ^ 32
short_body bytes head short = omega (arith, head, short, length-drop 5 bytes)
