-- What a site on its disk has behind it, by what the calls of its disk and its journal say.
use Rattle.std.proofs.Common.{◌≡◌, ◌≤◌, ◌<◌, ◌^◌, ℕ, zero, suc, ◌+◌, Bool, true, false, List, [], ◌∷◌, ◌++◌, length, drop, Option, Some, None, Result, Ok, Err, IsErrOf, refl, sym, ap, subst, ◌∙◌, arith, length-append}
use Rattle.std.specs.Prelude.{if◌then◌else◌}
use Rattle.sat_act.specs.Deployed.{Deployed}
use Rattle.sat_durable.specs.declared.memory.MemoryDisk.{MemoryDisk}
use Rattle.sat_durable.specs.Disk.{DiskState, IsSynced}
use Rattle.sat_durable.specs.Journal.{reading, with_last}
use Rattle.sat_durable.specs.Journals.{is_whole}
use Rattle.sat_durable.specs.Drills.{Chosen, CutLeaves, IsCalm, StepsTold, is_kept}
use Rattle.sat_durable.specs.Machine.{Keeps, Recovers, Run, recovered, run_from, run_of, started, taken}
use Rattle.sat_durable.specs.Memory.{memory_armed, memory_keeps, memory_state, memory_synced}
use Rattle.sat_durable.specs.Told.{Told}
use Rattle.sat_durable.specs.Told as drill
use Rattle.sat_durable.proofs.Drilling.{leaves_weaker}
use Rattle.sat_durable.proofs.Lifting.{keeps_more, recovers_more, recovers_same}
use Rattle.sat_lasting_laws.specs.declared.lasting_act.TheConstants.{MOST_CALLS}
use Rattle.sat_site.specs.declared.input.SiteInput.{SiteInput}
use Rattle.sat_site.specs.declared.output.SiteOutput.{SiteOutput}
use Rattle.sat_lasting.specs.declared.cut.Cut.{Cut}
use Rattle.sat_lasting.specs.declared.kept_site.KeptSite.{KeptSite}
use Rattle.sat_lasting.specs.declared.slot.Slot.{Slot}
use Rattle.sat_lasting.specs.Sites.{fresh_kept, site_meaning}
use Rattle.sat_lasting.specs.Slots.{Arms, CameTo, FailsBy, HasInputs, IsFew, LeftBy, SlotFits, SlotKeeps, StepsKept, StepsSlot, TakesNext, after_inputs, is_there, slot_disk, with_input}

abbrev Journalled : Deployed → ℕ → List ℕ → List SiteInput → Type 0
Journalled d i content inputs = Recovers site_meaning (fresh_kept d i) content inputs

-- a new one
-- where a machine has these inputs, it is the one behind them
by-machine : (d : Deployed) (i : ℕ) (inputs : List SiteInput) (disk : DiskState) (machine : KeptSite) → Keeps site_meaning (fresh_kept d i) disk machine inputs → Keeps site_meaning (fresh_kept d i) disk (after_inputs d i inputs) inputs
by-machine d i inputs disk machine keeps = record { same = refl; shown = keeps.shown; left = keeps.left }

pub fresh-has : (d : Deployed) (i : ℕ) (fresh machine : KeptSite) (old new : DiskState) → fresh ≡ fresh_kept d i → old.told ≡ drill.told None false [] → Keeps site_meaning fresh new machine [] → (IsCalm old → IsCalm new) → HasInputs d i [] new
fresh-has d i fresh machine old new is told keeps calm = record {
  keeps = by-machine d i [] new machine (subst (λ (m : KeptSite). Keeps site_meaning m new machine []) is keeps);
  fails = calm (false, [], told);
}

-- a journal of its own
pub parts-keep : (d : Deployed) (i : ℕ) (inputs : List SiteInput) (slot : Slot) (disk : MemoryDisk) → slot_disk slot ≡ disk → is_whole slot.journal ≡ true → HasInputs d i inputs (memory_state disk) → SlotKeeps d i inputs slot
parts-keep d i inputs slot disk is whole has = record {
  whole = whole;
  has = subst (λ (x : MemoryDisk). HasInputs d i inputs (memory_state x)) (sym is) has;
}

-- ---- a cut that waits

-- which error it was
pub err-is : {T E : Type 0} (r : Result T E) (x e : E) → r ≡ Err x → x ≡ e → IsErrOf r e
err-is {E = E} r x e is same = subst (λ (y : E). IsErrOf r y) same is

-- ---- a body that was appended

-- what is known of the disk behind it, by whether it was done
abbrev ToldOf : DiskState → DiskState → List ℕ → Bool → Told → Type 0
ToldOf old new body done t = StepsTold new done (λ c. reading c ≡ with_last (reading old.content) body) (λ c. reading c ≡ reading old.content) t

told-by : (old new : DiskState) (body : List ℕ) (done : Bool) (t u : Told) → t ≡ u → ToldOf old new body done t → ToldOf old new body done u
told-by old new body done t u e told = subst (λ (x : Told). ToldOf old new body done x) e told

never : (new : DiskState) (P Q : List ℕ → Type 0) (calls : ℕ) (keep : Bool) (synced : List ℕ) → calls ≤ MOST_CALLS → StepsTold new true P Q (drill.told (Some calls) keep synced) → ⊥
never new P Q zero keep synced few steps = absurd (let e : true ≡ false = steps.0 in cc)
never new P Q (suc zero) keep synced few steps = absurd (let e : true ≡ false = steps.0 in cc)
never new P Q (suc (suc zero)) keep synced few steps = absurd (let e : true ≡ false = steps.0 in cc)
never new P Q (suc (suc (suc zero))) keep synced few steps = absurd (let e : true ≡ false = steps.0 in cc)
never new P Q (suc (suc (suc (suc calls)))) keep synced few steps = absurd (omega (arith, few))

leaves : (new : DiskState) (P Q : List ℕ → Type 0) (calls : ℕ) (keep : Bool) (synced : List ℕ) → calls ≤ MOST_CALLS → StepsTold new false P Q (drill.told (Some calls) keep synced) → CutLeaves new calls keep P Q
leaves new P Q zero keep synced few steps = steps.1
leaves new P Q (suc zero) keep synced few steps = steps.1
leaves new P Q (suc (suc zero)) keep synced few steps = steps.1
leaves new P Q (suc (suc (suc zero))) keep synced few steps = steps.1
leaves new P Q (suc (suc (suc (suc calls)))) keep synced few steps = absurd (omega (arith, few))

module _ (d : Deployed) (i : ℕ) (inputs : List SiteInput) (given : SiteInput) (old new : DiskState) (body : List ℕ)
    (keeps : Keeps site_meaning (fresh_kept d i) old (after_inputs d i inputs) inputs) (fits : TakesNext d i inputs given) (again : site_meaning.input_of (site_meaning.body given) ≡ Some given) (is : body ≡ site_meaning.body given) where
  -- a disk that says one body more says one input more
  more : (c : List ℕ) → reading c ≡ with_last (reading old.content) body → Journalled d i c (inputs ++ given ∷ [])
  more c says = recovers_more site_meaning (fresh_kept d i) old (after_inputs d i inputs) inputs keeps given fits again c (says ∙ ap (λ (l : List ℕ). with_last (reading old.content) l) is)

  as-before : (c : List ℕ) → reading c ≡ reading old.content → Journalled d i c inputs
  as-before c says = recovers_same site_meaning (fresh_kept d i) old (after_inputs d i inputs) inputs keeps c says

  keeps-next : reading new.content ≡ with_last (reading old.content) body → IsSynced new → Keeps site_meaning (fresh_kept d i) new (after_inputs d i (inputs ++ given ∷ [])) (inputs ++ given ∷ [])
  keeps-next added synced =
      by-machine d i (inputs ++ given ∷ []) new (site_meaning.after (after_inputs d i inputs) given) (keeps_more site_meaning (fresh_kept d i) old (after_inputs d i inputs) inputs keeps given fits again new (site_meaning.after (after_inputs d i inputs) given) refl (added ∙ ap (λ (l : List ℕ). with_last (reading old.content) l) is) synced)

  -- the site behind it is one into which no cut fell
  pub step-done : (cut : Option Cut) → IsFew cut → FailsBy cut old → reading new.content ≡ with_last (reading old.content) body → IsSynced new → ToldOf old new body true old.told →
      (cut ≡ None) × HasInputs d i (inputs ++ given ∷ []) new
  step-done None few fails added synced told = (
    refl,
    record { keeps = keeps-next added synced; fails = (told-by old new body true old.told (drill.told None fails.0 fails.1) fails.2 told).1 },
  )
  step-done (Some cut) few fails added synced told =
      absurd (never new (λ c. reading c ≡ with_last (reading old.content) body) (λ c. reading c ≡ reading old.content) cut.calls cut.keep fails.0 few
      (told-by old new body true old.told (drill.told (Some cut.calls) cut.keep fails.0) fails.1 told))

  -- a disk that failed is one to which a cut said so
  pub step-failed : (cut : Option Cut) → IsFew cut → FailsBy cut old → ToldOf old new body false old.told → LeftBy d i inputs given cut new
  step-failed None few fails told = absurd (let e : false ≡ true = (told-by old new body false old.told (drill.told None fails.0 fails.1) fails.2 told).0 in cc)
  step-failed (Some cut) few fails told =
      leaves_weaker new (λ c. reading c ≡ with_last (reading old.content) body) (λ c. reading c ≡ reading old.content) (λ c. Journalled d i c (inputs ++ given ∷ [])) (λ c. Journalled d i c inputs) more as-before cut.calls cut.keep
      (leaves new (λ c. reading c ≡ with_last (reading old.content) body) (λ c. reading c ≡ reading old.content) cut.calls cut.keep fails.0 few
      (told-by old new body false old.told (drill.told (Some cut.calls) cut.keep fails.0) fails.1 told))

-- ---- a record, which begins in five bytes

abbrev Five : List ℕ → Type 0
Five head = head ≡ 0 ∷ 0 ∷ 0 ∷ 0 ∷ 0 ∷ []

behind-five : (head bytes body : List ℕ) → Five head → bytes ≡ head ++ body → drop 5 bytes ≡ body
behind-five head bytes body is more = ap (λ (l : List ℕ). drop 5 l) more ∙ ap (λ (l : List ℕ). drop 5 (l ++ body)) is

five-long : (head bytes body : List ℕ) → Five head → bytes ≡ head ++ body → length bytes ≡ 5 + length body
five-long head bytes body is more = ap length more ∙ (length-append head body ∙ ap (λ (l : List ℕ). length l + length body) is)

pub five-head : (head bytes body : List ℕ) → Five head → bytes ≡ head ++ body → 5 ≤ length bytes
five-head head bytes body is more = omega (arith, five-long head bytes body is more)

pub five-short : (head bytes body : List ℕ) → Five head → bytes ≡ head ++ body → length body < 2 ^ 32 → length bytes < 2 ^ 32 + 5
five-short head bytes body is more short = omega (arith, short, five-long head bytes body is more)

module _ (given : SiteInput) (old new : Slot) (head bytes : List ℕ) (again : site_meaning.input_of (site_meaning.body given) ≡ Some given)
    (five : Five head) (is : bytes ≡ head ++ site_meaning.body given) where
  pub took-done : is_whole new.journal ≡ true → reading (memory_state (slot_disk new)).content ≡ with_last (reading (memory_state (slot_disk old)).content) (drop 5 bytes) →
      IsSynced (memory_state (slot_disk new)) → ToldOf (memory_state (slot_disk old)) (memory_state (slot_disk new)) (drop 5 bytes) true (memory_state (slot_disk old)).told → StepsKept old given true new
  took-done whole added synced told d i inputs cut few fits waits =
      let x = step-done d i inputs given (memory_state (slot_disk old)) (memory_state (slot_disk new)) (drop 5 bytes) waits.keeps fits again (behind-five head bytes (site_meaning.body given) five is) cut few waits.fails added synced told in
      (x.0, record { whole = whole; has = x.1 })

  pub took-failed : ToldOf (memory_state (slot_disk old)) (memory_state (slot_disk new)) (drop 5 bytes) false (memory_state (slot_disk old)).told → StepsKept old given false new
  took-failed told d i inputs cut few fits waits =
      step-failed d i inputs given (memory_state (slot_disk old)) (memory_state (slot_disk new)) (drop 5 bytes) waits.keeps fits again (behind-five head bytes (site_meaning.body given) five is) cut few waits.fails told

-- ---- what a slot has behind a step

there-as : (cut : Option Cut) → cut ≡ None → true ≡ is_there cut
there-as cut e = sym (ap (λ (o : Option Cut). is_there o) e)

-- what a crash leaves of a disk that is known
left-is : (content now : List ℕ) (a : Option ℕ) (k keep : Bool) (s synced : List ℕ) → drill.told a k s ≡ drill.told None keep synced → now ≡ (if k then content else s) → now ≡ (if keep then content else synced)
left-is content now a k keep s synced e is =
    let one : k ≡ keep = cc in
    let two : s ≡ synced = cc in
    is ∙ (ap (λ (b : Bool). if b then content else s) one ∙ ap (λ (l : List ℕ). if keep then content else l) two)

chosen-by : (d : Deployed) (i : ℕ) (inputs : List SiteInput) (given : SiteInput) (content : List ℕ) (b there : Bool) → there ≡ b → Chosen b (Journalled d i content (inputs ++ given ∷ [])) (Journalled d i content inputs) → Journalled d i content (with_input there inputs given)
chosen-by d i inputs given content b there e chosen = subst (λ (t : Bool). Journalled d i content (with_input t inputs given)) (sym e) (by b chosen)
  where
    by : (b : Bool) → Chosen b (Journalled d i content (inputs ++ given ∷ [])) (Journalled d i content inputs) → Journalled d i content (with_input b inputs given)
    by true chosen = chosen
    by false chosen = chosen

left-content : (d : Deployed) (i : ℕ) (inputs : List SiteInput) (given : SiteInput) (cut : Option Cut) (disk : MemoryDisk) (crashed : DiskState) (there : Bool) → LeftBy d i inputs given cut (memory_state disk) →
    crashed.content ≡ (if memory_keeps disk then (memory_state disk).content else memory_synced disk) → there ≡ is_there cut → Journalled d i crashed.content (with_input there inputs given)
left-content d i inputs given None disk crashed there left content e = absurd left
left-content d i inputs given (Some cut) disk crashed there left content e =
    let now : crashed.content ≡ (if cut.keep then (memory_state disk).content else left.0) = left-is (memory_state disk).content crashed.content (memory_armed disk) (memory_keeps disk) cut.keep (memory_synced disk) left.0 left.1 content in
    chosen-by d i inputs given crashed.content (is_kept cut.calls cut.keep) there e
    (subst (λ (l : List ℕ). Chosen (is_kept cut.calls cut.keep) (Journalled d i l (inputs ++ given ∷ [])) (Journalled d i l inputs)) (sym now) left.2)

-- a crash ends an arming
pub crashed-calm : (disk : MemoryDisk) (crashed : DiskState) → crashed.told ≡ drill.told None (memory_keeps disk) crashed.content → IsCalm crashed
crashed-calm disk crashed tells = (memory_keeps disk, crashed.content, tells)

-- an armed slot takes what it took before
pub armed-fits : (given : SiteInput) (old mid : Slot) → is_whole mid.journal ≡ is_whole old.journal → SlotFits given old → SlotFits given mid
armed-fits given old mid whole fits = record { whole = whole ∙ fits.whole; allows = fits.allows }

module _ (d : Deployed) (i : ℕ) (inputs : List SiteInput) (given : SiteInput) (cut : Option Cut) (old mid new : Slot) (done : Bool)
    (few : IsFew cut) (arms : Arms cut (memory_state (slot_disk old)) (memory_state (slot_disk mid))) (steps : StepsKept mid given done new) (fits : TakesNext d i inputs given) (keeps : SlotKeeps d i inputs old) where
  came-to : CameTo d i inputs given cut done new
  came-to = steps d i inputs cut few fits (arms d i inputs keeps.has)

  pub slot-done : done ≡ true → StepsSlot d i inputs given cut true new
  slot-done is =
      let x : CameTo d i inputs given cut true new = subst (λ (b : Bool). CameTo d i inputs given cut b new) is came-to in
      record { told = there-as cut x.0; keeps = x.1 }

  pub slot-failed : (crashed : DiskState) (there : Bool) (made : Slot) → done ≡ false →
      crashed.content ≡ (if memory_keeps (slot_disk new) then (memory_state (slot_disk new)).content else memory_synced (slot_disk new)) →
      crashed.told ≡ drill.told None (memory_keeps (slot_disk new)) crashed.content →
      ((xs : List SiteInput) → Recovers site_meaning (fresh_kept d i) crashed.content xs → IsCalm crashed → SlotKeeps d i xs made) →
      there ≡ is_there cut → StepsSlot d i inputs given cut there made
  slot-failed crashed there made is content tells makes e =
      let left : LeftBy d i inputs given cut (memory_state (slot_disk new)) = subst (λ (b : Bool). CameTo d i inputs given cut b new) is came-to in
      record {
        told = e;
        keeps = makes (with_input there inputs given) (left-content d i inputs given cut (slot_disk new) crashed there left content e) (crashed-calm (slot_disk new) crashed tells);
      }

-- ---- a site that is made again

pub slot-left : (d : Deployed) (i : ℕ) (inputs : List SiteInput) (old : Slot) (content : List ℕ) → (memory_state (slot_disk old)).may_leave content → SlotKeeps d i inputs old → Recovers site_meaning (fresh_kept d i) content inputs
slot-left d i inputs old content left has = has.has.keeps.left content left

pub made-has : (d : Deployed) (i : ℕ) (inputs : List SiteInput) (fresh machine : KeptSite) (old new : DiskState) → fresh ≡ fresh_kept d i →
    ((xs : List SiteInput) → Recovers site_meaning fresh old.content xs → Keeps site_meaning fresh new machine xs) → (IsCalm old → IsCalm new) →
    Recovers site_meaning (fresh_kept d i) old.content inputs → IsCalm old → HasInputs d i inputs new
made-has d i inputs fresh machine old new is keeps calms recovers calm = record {
  keeps = by-machine d i inputs new machine (subst (λ (m : KeptSite). Keeps site_meaning m new machine inputs) is (keeps inputs (subst (λ (m : KeptSite). Recovers site_meaning m old.content inputs) (sym is) recovers)));
  fails = calms calm;
}

counted : (run : Run KeptSite SiteOutput) (xs : List SiteInput) → (run_from site_meaning run xs).inputs ≡ run.inputs + length xs
counted run [] = omega arith
counted run (x ∷ xs) = let more : (run_from site_meaning (taken site_meaning run x) xs).inputs ≡ (run.inputs + 1) + length xs = counted (taken site_meaning run x) xs in omega (arith, more)

pub made-count : (d : Deployed) (i : ℕ) (inputs : List SiteInput) (fresh : KeptSite) (content : List ℕ) (run : Run KeptSite SiteOutput) → fresh ≡ fresh_kept d i → recovered site_meaning fresh content ≡ Ok run → Recovers site_meaning (fresh_kept d i) content inputs → run.inputs ≡ length inputs
made-count d i inputs fresh content run is made recovers =
    let found : recovered site_meaning (fresh_kept d i) content ≡ Ok run = ap (λ (m : KeptSite). recovered site_meaning m content) (sym is) ∙ made in
    let same : run_of site_meaning (fresh_kept d i) inputs ≡ run = let two : (let x : Result (Run KeptSite SiteOutput) ℕ = Ok (run_of site_meaning (fresh_kept d i) inputs) in x) ≡ Ok run = sym recovers.replay ∙ found in cc in
    let count : (run_of site_meaning (fresh_kept d i) inputs).inputs ≡ 0 + length inputs = counted (started (fresh_kept d i)) inputs in
    let moved : (run_of site_meaning (fresh_kept d i) inputs).inputs ≡ run.inputs = ap (λ (r : Run KeptSite SiteOutput). r.inputs) same in
    omega (arith, count, moved)
