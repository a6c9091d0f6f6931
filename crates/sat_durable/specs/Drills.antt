-- What each call of a disk does that is told when to fail.
use Rattle.std.specs.Prelude.{◌≡◌, ℕ, zero, suc, Bool, true, false, ◌&&◌, ◌==◌, List, Some, None, IsOk, IsErr}
use Rattle.std.specs.Prelude.{if◌then◌else◌}
use Rattle.std.specs.declared.result.Result.{Result}
use Rattle.sat_durable.specs.Told.{Told}
use Rattle.sat_durable.specs.Told as drill
use Rattle.sat_durable.specs.Disk.{DiskState, overwritten}

-- what was there when it was synced last is among what a crash may leave
abbrev pub HoldsSynced : DiskState → Told → Type 0
HoldsSynced disk drill.untold = Unit {0}
HoldsSynced disk (drill.told calls keep synced) = disk.may_leave synced

-- A write fails where it was told to, and then writes nothing.
abbrev pub WritesTold : {T E : Type 0} → DiskState → DiskState → Result T E → Told → Type 0
WritesTold old new result drill.untold = new.told ≡ drill.untold
WritesTold old new result (drill.told None keep synced) = IsOk result × (new.told ≡ drill.told None keep synced)
WritesTold old new result (drill.told (Some zero) keep synced) =
    IsErr result × (new.told ≡ drill.told None keep synced) × (new.content ≡ old.content)
WritesTold old new result (drill.told (Some (suc calls)) keep synced) =
    IsOk result × (new.told ≡ drill.told (Some calls) keep synced)

-- So does a sync, and then syncs nothing.
abbrev pub SyncsTold : {T E : Type 0} → DiskState → DiskState → Result T E → Told → Type 0
SyncsTold old new result drill.untold = new.told ≡ drill.untold
SyncsTold old new result (drill.told None keep synced) = IsOk result × (new.told ≡ drill.told None keep old.content)
SyncsTold old new result (drill.told (Some zero) keep synced) = IsErr result × (new.told ≡ drill.told None keep synced)
SyncsTold old new result (drill.told (Some (suc calls)) keep synced) =
    IsOk result × (new.told ≡ drill.told (Some calls) keep old.content)

-- A read doesn't fail.
abbrev pub ReadsTold : {T E : Type 0} → Result T E → Told → Type 0
ReadsTold result drill.untold = Unit {0}
ReadsTold result (drill.told calls keep synced) = IsOk result

-- A write with a sync behind it, which are two calls.
abbrev pub PairsTold : {T E : Type 0} → DiskState → DiskState → ℕ → List ℕ → Result T E → Told → Type 0
PairsTold old new at piece result drill.untold = Unit {0}
PairsTold old new at piece result (drill.told None keep synced) =
    IsOk result × (new.told ≡ drill.told None keep new.content)
PairsTold old new at piece result (drill.told (Some zero) keep synced) =
    IsErr result × (new.told ≡ drill.told None keep synced) × (new.content ≡ old.content)
PairsTold old new at piece result (drill.told (Some (suc zero)) keep synced) =
    IsErr result × (new.told ≡ drill.told None keep synced) × (new.content ≡ overwritten old.content at piece)
PairsTold old new at piece result (drill.told (Some (suc (suc calls))) keep synced) =
    IsOk result × (new.told ≡ drill.told (Some calls) keep new.content)

-- It will not fail.
abbrev pub IsCalm : DiskState → Type 0
IsCalm disk = (keep : Bool) × (synced : List ℕ) × (disk.told ≡ drill.told None keep synced)

-- Of the four calls by which a record is added so many pass: whether the record is there after a crash.
abbrev pub is_kept : ℕ → Bool → Bool
is_kept calls keep = (calls == 3) && keep

abbrev pub Chosen : Bool → Type 0 → Type 0 → Type 0
Chosen true P Q = P
Chosen false P Q = Q

-- It will not fail any more, and what a crash leaves has one property where the record is there, and else the other
-- one.
abbrev pub CutLeaves : DiskState → ℕ → Bool → (List ℕ → Type 0) → (List ℕ → Type 0) → Type 0
CutLeaves disk calls keep with_it without =
    (synced : List ℕ) × (disk.told ≡ drill.told None keep synced)
    × Chosen (is_kept calls keep) (with_it (if keep then disk.content else synced))
    (without (if keep then disk.content else synced))

-- Four calls add a record: where so few pass it fails, and a crash leaves what has the one property or the other.
abbrev pub AddsTold : {T E : Type 0} → DiskState → Result T E → (List ℕ → Type 0) → (List ℕ → Type 0) → Told → Type 0
AddsTold new result with_it without drill.untold = Unit {0}
AddsTold new result with_it without (drill.told None keep synced) = IsOk result × IsCalm new
AddsTold new result with_it without (drill.told (Some zero) keep synced) =
    IsErr result × CutLeaves new 0 keep with_it without
AddsTold new result with_it without (drill.told (Some (suc zero)) keep synced) =
    IsErr result × CutLeaves new 1 keep with_it without
AddsTold new result with_it without (drill.told (Some (suc (suc zero))) keep synced) =
    IsErr result × CutLeaves new 2 keep with_it without
AddsTold new result with_it without (drill.told (Some (suc (suc (suc zero)))) keep synced) =
    IsErr result × CutLeaves new 3 keep with_it without
AddsTold new result with_it without (drill.told (Some (suc (suc (suc (suc calls))))) keep synced) = IsOk result

-- The same of a step, by whether it was done: one that was told to fail at one of its four calls isn't, and any other
-- is.
abbrev pub StepsTold : DiskState → Bool → (List ℕ → Type 0) → (List ℕ → Type 0) → Told → Type 0
StepsTold new done with_it without drill.untold = Unit {0}
StepsTold new done with_it without (drill.told None keep synced) = (done ≡ true) × IsCalm new
StepsTold new done with_it without (drill.told (Some zero) keep synced) =
    (done ≡ false) × CutLeaves new 0 keep with_it without
StepsTold new done with_it without (drill.told (Some (suc zero)) keep synced) =
    (done ≡ false) × CutLeaves new 1 keep with_it without
StepsTold new done with_it without (drill.told (Some (suc (suc zero))) keep synced) =
    (done ≡ false) × CutLeaves new 2 keep with_it without
StepsTold new done with_it without (drill.told (Some (suc (suc (suc zero)))) keep synced) =
    (done ≡ false) × CutLeaves new 3 keep with_it without
StepsTold new done with_it without (drill.told (Some (suc (suc (suc (suc calls))))) keep synced) = done ≡ true
