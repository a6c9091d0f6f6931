-- What is left where a disk was told when to fail.
use Rattle.std.proofs.Common.{◌≡◌, ℕ, zero, suc, ◌+◌, ◌<◌, ◌^◌, Bool, true, false, List, [], ◌∷◌, ◌++◌, length, Option, Result, Some, None, Ok, Err, IsOk, IsErr, is_ok, is_err, OnOk, OnErr, refl, sym, ◌∙◌, ap, subst}
use Rattle.std.specs.Prelude.{if◌then◌else◌}
use Rattle.sat_durable.specs.Told.{Told}
use Rattle.sat_durable.specs.Told as drill
use Rattle.sat_durable.specs.Disk.{DiskState, IsSynced, overwritten}
use Rattle.sat_durable.specs.Drills.{AddsTold, Chosen, CutLeaves, HoldsSynced, PairsTold, StepsTold, is_kept}
use Rattle.sat_durable.specs.Journal.{Reading, reading, with_last}
use Rattle.sat_durable.specs.Machine.{Keeps, Meaning, Recovers}
use Rattle.sat_durable.proofs.Lifting.{recovers_more, recovers_same}

never-both : {T E : Type 0} {P : Type 0} (r : Result T E) → IsOk r → IsErr r → P
never-both (Ok x) a b = absurd (cc)
never-both (Err x) a b = absurd (cc)

-- ---- a record

-- what either holds of both lists holds of what a crash leaves
either-way : (P : List ℕ → Type 0) (keep : Bool) (content synced : List ℕ) → P content → P synced → P (if keep then content else synced)
either-way P true content synced a b = a
either-way P false content synced a b = b

module _ {T E U F : Type 0} (old mid : DiskState) (with_it without : List ℕ → Type 0) (at : ℕ) (piece : List ℕ) (first : Result T E) (r : Result U F) where
  module _ (was : without old.content) (lies : IsSynced old) where
    -- what was synced is what is there
    lost : (calls : Option ℕ) (keep : Bool) (synced : List ℕ) → HoldsSynced old (drill.told calls keep synced) → without synced
    lost calls keep synced held = subst without (sym (lies synced held)) was

    -- it stopped at one of the first two calls
    pub add-stops : (t : Told) → HoldsSynced old t → (mid.content ≡ overwritten old.content at piece → without mid.content) → IsErr first → IsErr r → PairsTold old mid at piece first t → AddsTold mid r with_it without t
    add-stops drill.untold held behind e f s = tt
    add-stops (drill.told None keep synced) held behind e f s = never-both first s.0 e
    add-stops (drill.told (Some zero) keep synced) held behind e f s = (f, (synced, s.1, either-way without keep mid.content synced (subst without (sym s.2) was) (lost (Some zero) keep synced held)))
    add-stops (drill.told (Some (suc zero)) keep synced) held behind e f s = (f, (synced, s.1, either-way without keep mid.content synced (behind s.2) (lost (Some (suc zero)) keep synced held)))
    add-stops (drill.told (Some (suc (suc n))) keep synced) held behind e f s = never-both first s.0 e

  -- it came to the other two
  module _ (new : DiskState) (n : ℕ) (gate : List ℕ) (ok : IsOk first) (behind : without mid.content) (opens : new.content ≡ overwritten mid.content n gate → with_it new.content) where
    pub paired-as : (t u : Told) → t ≡ u → PairsTold mid new n gate r t → PairsTold mid new n gate r u
    paired-as t u e s = subst (PairsTold mid new n gate r) e s

    pub add-goes : (t : Told) → PairsTold old mid at piece first t → PairsTold mid new n gate r mid.told → AddsTold new r with_it without t
    add-goes drill.untold s y = tt
    add-goes (drill.told None keep synced) s y =
        let z = paired-as mid.told (drill.told None keep mid.content) s.1 y in (z.0, (keep, new.content, z.1))
    add-goes (drill.told (Some zero) keep synced) s y = never-both first ok s.0
    add-goes (drill.told (Some (suc zero)) keep synced) s y = never-both first ok s.0
    add-goes (drill.told (Some (suc (suc zero))) keep synced) s y =
        let z = paired-as mid.told (drill.told (Some zero) keep mid.content) s.1 y in
        (z.0, (mid.content, z.1, either-way without keep new.content mid.content (subst without (sym z.2) behind) behind))
    add-goes (drill.told (Some (suc (suc (suc zero)))) true synced) s y =
        let z = paired-as mid.told (drill.told (Some (suc zero)) true mid.content) s.1 y in (z.0, (mid.content, z.1, opens z.2))
    add-goes (drill.told (Some (suc (suc (suc zero)))) false synced) s y =
        let z = paired-as mid.told (drill.told (Some (suc zero)) false mid.content) s.1 y in (z.0, (mid.content, z.1, behind))
    add-goes (drill.told (Some (suc (suc (suc (suc k))))) keep synced) s y =
        let z = paired-as mid.told (drill.told (Some (suc (suc k))) keep mid.content) s.1 y in z.0

-- ---- a step

module _ (new : DiskState) (P Q V W : List ℕ → Type 0) (p : (c : List ℕ) → P c → V c) (q : (c : List ℕ) → Q c → W c) where
  pub leaves_weaker : (calls : ℕ) (keep : Bool) → CutLeaves new calls keep P Q → CutLeaves new calls keep V W
  leaves_weaker calls keep s = (s.0, s.1, go (is_kept calls keep) s.2)
    where
      go : (b : Bool) → Chosen b (P (if keep then new.content else s.0)) (Q (if keep then new.content else s.0)) → Chosen b (V (if keep then new.content else s.0)) (W (if keep then new.content else s.0))
      go true x = p (if keep then new.content else s.0) x
      go false x = q (if keep then new.content else s.0) x

  pub step-cut : {T E : Type 0} (r : Result T E) (t : Told) → IsErr r → AddsTold new r P Q t → StepsTold new false V W t
  step-cut r drill.untold e s = tt
  step-cut r (drill.told None keep synced) e s = never-both r s.0 e
  step-cut r (drill.told (Some zero) keep synced) e s = (refl, leaves_weaker 0 keep s.1)
  step-cut r (drill.told (Some (suc zero)) keep synced) e s = (refl, leaves_weaker 1 keep s.1)
  step-cut r (drill.told (Some (suc (suc zero))) keep synced) e s = (refl, leaves_weaker 2 keep s.1)
  step-cut r (drill.told (Some (suc (suc (suc zero)))) keep synced) e s = (refl, leaves_weaker 3 keep s.1)
  step-cut r (drill.told (Some (suc (suc (suc (suc k))))) keep synced) e s = never-both r s e

  pub step-done : {T E : Type 0} (r : Result T E) (t : Told) → IsOk r → AddsTold new r P Q t → StepsTold new true V W t
  step-done r drill.untold e s = tt
  step-done r (drill.told None keep synced) e s = (refl, s.1)
  step-done r (drill.told (Some zero) keep synced) e s = never-both r e s.0
  step-done r (drill.told (Some (suc zero)) keep synced) e s = never-both r e s.0
  step-done r (drill.told (Some (suc (suc zero))) keep synced) e s = never-both r e s.0
  step-done r (drill.told (Some (suc (suc (suc zero)))) keep synced) e s = never-both r e s.0
  step-done r (drill.told (Some (suc (suc (suc (suc k))))) keep synced) e s = refl

-- what is left of a step that was cut off, and of one that was not, where room was taken before the record
module _ {S I O : Type 0} (m : Meaning S I O) (fresh : S) (first : DiskState) (machine : S) (inputs : List I) (keeps : Keeps m fresh first machine inputs) (input : I) (fits : m.fits machine input ≡ true) (again : m.input_of (m.body input) ≡ Some input) where
  abbrev With : List ℕ → Type 0
  With c = Recovers m fresh c (inputs ++ input ∷ [])

  abbrev Without : List ℕ → Type 0
  Without c = Recovers m fresh c inputs

  module _ {T E : Type 0} (ready last : DiskState) (r : Result T E) (same : ready.content ≡ first.content) (tells : ready.told ≡ first.told)
      (adds : AddsTold last r (λ c. reading c ≡ with_last (reading ready.content) (m.body input)) (λ c. reading c ≡ reading ready.content) ready.told) where
    abbrev Added : List ℕ → Type 0
    Added c = reading c ≡ with_last (reading ready.content) (m.body input)

    abbrev Same : List ℕ → Type 0
    Same c = reading c ≡ reading ready.content

    more : (c : List ℕ) → Added c → With c
    more c is = recovers_more m fresh first machine inputs keeps input fits again c (is ∙ ap (λ (l : List ℕ). with_last (reading l) (m.body input)) same)

    as_before : (c : List ℕ) → Same c → Without c
    as_before c is = recovers_same m fresh first machine inputs keeps c (is ∙ ap reading same)

    pub told_cut : IsErr r → StepsTold last false With Without first.told
    told_cut e = subst (StepsTold last false With Without) tells (step-cut last Added Same With Without more as_before r ready.told e adds)

    pub told_done : IsOk r → StepsTold last true With Without first.told
    told_done e = subst (StepsTold last true With Without) tells (step-done last Added Same With Without more as_before r ready.told e adds)
