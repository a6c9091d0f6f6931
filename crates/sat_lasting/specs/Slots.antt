-- The journal of what a site was handed, beside the site in the world.
use Rattle.std.specs.Prelude.{◌≡◌, ◌≤◌, ℕ, Bool, true, false, List, [], ◌∷◌, ◌++◌, Option, Some, None, if◌then◌else◌}
use Rattle.sat_act.specs.Deployed.{Deployed}
use Rattle.sat_durable.specs.declared.memory.MemoryDisk.{MemoryDisk}
use Rattle.sat_durable.specs.Disk.{DiskState}
use Rattle.sat_durable.specs.Drills.{CutLeaves, IsCalm}
use Rattle.sat_durable.specs.Journals.{is_whole, journal_disk}
use Rattle.sat_durable.specs.Machine.{Keeps, Recovers, run_of}
use Rattle.sat_durable.specs.Memory.{memory_state}
use Rattle.sat_durable.specs.Told as drill
use Rattle.sat_lasting_laws.specs.declared.lasting_act.TheConstants.{MOST_CALLS}
use Rattle.sat_lasting_laws.specs.Lastings.{keeps_input}
use Rattle.sat_site.specs.declared.input.SiteInput.{SiteInput}
use Rattle.sat_bodies.specs.Bodies.{input_allows}
use Rattle.sat_lasting.specs.declared.cut.Cut.{Cut}
use Rattle.sat_lasting.specs.declared.kept_site.KeptSite.{KeptSite}
use Rattle.sat_lasting.specs.declared.slot.Slot.{Slot}
use Rattle.sat_lasting.specs.Cuts.{cut_seen}
use Rattle.sat_lasting.specs.Sites.{fresh_kept, site_meaning}

-- its disk
abbrev pub slot_disk : Slot → MemoryDisk
slot_disk slot = journal_disk slot.journal

-- where a disk fails: nowhere, or where the cut that waits at its site says
abbrev pub FailsBy : Option Cut → DiskState → Type 0
FailsBy None disk = IsCalm disk
FailsBy (Some cut) disk = (synced : List ℕ) × (disk.told ≡ drill.told (Some cut.calls) cut.keep synced)

-- site i behind just these inputs
abbrev pub after_inputs : Deployed → ℕ → List SiteInput → KeptSite
after_inputs d i inputs = (run_of site_meaning (fresh_kept d i) inputs).machine

-- the disk of site i has just these inputs, and fails where the cut says
pub record Waits (d : Deployed) (i : ℕ) (inputs : List SiteInput) (cut : Option Cut) (disk : DiskState)
    : Type 0 where
  pub keeps : Keeps site_meaning (fresh_kept d i) disk (after_inputs d i inputs) inputs
  pub fails : FailsBy cut disk

-- the same of a disk that will not fail
abbrev pub HasInputs : Deployed → ℕ → List SiteInput → DiskState → Type 0
HasInputs d i inputs disk = Waits d i inputs None disk

-- the same of its journal, which takes a body more
pub record SlotKeeps (d : Deployed) (i : ℕ) (inputs : List SiteInput) (slot : Slot) : Type 0 where
  pub whole : is_whole slot.journal ≡ true
  pub has : HasInputs d i inputs (memory_state (slot_disk slot))

-- behind these inputs the site takes this
abbrev pub TakesNext : Deployed → ℕ → List SiteInput → SiteInput → Type 0
TakesNext d i inputs given = site_meaning.fits (after_inputs d i inputs) given ≡ true

-- this has a body, and the journal takes one
pub record SlotFits (given : SiteInput) (slot : Slot) : Type 0 where
  pub whole : is_whole slot.journal ≡ true
  pub allows : input_allows given ≡ true

-- with one input more, if it is there
abbrev pub with_input : Bool → List SiteInput → SiteInput → List SiteInput
with_input there inputs given = if there then inputs ++ given ∷ [] else inputs

-- whether an input is there, by the cut that fell into it
abbrev pub is_there : Option Cut → Bool
is_there None = true
is_there (Some cut) = keeps_input (cut_seen cut)

-- a cut that may wait
abbrev pub IsFew : Option Cut → Type 0
IsFew None = Unit {0}
IsFew (Some cut) = cut.calls ≤ MOST_CALLS

-- what a step leaves, and whether the input is there
pub record StepsSlot (d : Deployed) (i : ℕ) (inputs : List SiteInput) (given : SiteInput) (cut : Option Cut)
    (there : Bool) (new : Slot) : Type 0 where
  pub told : there ≡ is_there cut
  pub keeps : SlotKeeps d i (with_input there inputs given) new

-- what the disk of a site is left with whose step a cut fell into: with the input where it is there, and else without
-- it
abbrev pub LeftBy : Deployed → ℕ → List SiteInput → SiteInput → Option Cut → DiskState → Type 0
LeftBy d i inputs given None disk = ⊥
LeftBy d i inputs given (Some cut) disk =
    CutLeaves disk cut.calls cut.keep (λ c. Recovers site_meaning (fresh_kept d i) c (inputs ++ given ∷ []))
    (λ c. Recovers site_meaning (fresh_kept d i) c inputs)

-- what came of an input that was handed to a site, by whether its disk did all of its calls: it goes on where no cut
-- fell into it, and else its disk failed
abbrev pub CameTo : Deployed → ℕ → List SiteInput → SiteInput → Option Cut → Bool → Slot → Type 0
CameTo d i inputs given cut true new = (cut ≡ None) × SlotKeeps d i (inputs ++ given ∷ []) new
CameTo d i inputs given cut false new = LeftBy d i inputs given cut (memory_state (slot_disk new))

-- a journal to which an input was appended came to this, whichever cut waits at it
abbrev pub StepsKept : Slot → SiteInput → Bool → Slot → Type 0
StepsKept old given done new = (d : Deployed) (i : ℕ) (inputs : List SiteInput) (cut : Option Cut) → IsFew cut
    → TakesNext d i inputs given → Waits d i inputs cut (memory_state (slot_disk old))
    → CameTo d i inputs given cut done new

-- a disk was armed by a cut, or by none
abbrev pub Arms : Option Cut → DiskState → DiskState → Type 0
Arms cut old new =
    (d : Deployed) (i : ℕ) (inputs : List SiteInput) → HasInputs d i inputs old → Waits d i inputs cut new
