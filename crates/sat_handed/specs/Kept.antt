-- What putting something on a disk hands out.
use Rattle.std.specs.Prelude.{Ok, Err}
use Rattle.std.specs.declared.result.Result.{Result}
use Rattle.sat_durable.specs.Step.{fault_disk}
use Rattle.sat_durable.specs.declared.durable.Durable.{Durable}
use Rattle.sat_durable.specs.declared.durable.StepFault.{StepFault}

-- the disk, whichever way it went
abbrev pub disk_kept : {D M I O : Type 0} {d : _} {m : _} → Result (Durable D M I O d m) (StepFault D M I O d m) → D
disk_kept (Ok durable) = durable.disk
disk_kept (Err e) = fault_disk e
