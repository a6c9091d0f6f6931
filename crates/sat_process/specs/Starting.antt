-- How a process begins, and why there is none.
use Rattle.std.specs.Prelude.{◌≡◌, ℕ, List, take, slice_get, Some, None, Ok, Err}
use Rattle.std.specs.declared.option.Option.{Option}
use Rattle.std.specs.declared.result.Result.{Result}
use Rattle.sat_durable.specs.declared.durable.DurableFault.{DurableFault}
use Rattle.sat_durable.specs.declared.durable.DurableFault.TheVariants as durable
use Rattle.sat_durable.specs.Machine.{Recovers}
use Rattle.sat_log.specs.Logs.{log_meaning, passing}
use Rattle.sat_node.specs.declared.kept.Body.{Body}
use Rattle.sat_host_laws.specs.Messages.{HostSeen}
use Rattle.sat_handed.specs.declared.handed.Handed.{Handed}
use Rattle.sat_handed.specs.Handed.{input_of}
use Rattle.sat_handed.specs.Told.{IsFed}
use Rattle.sat_process.specs.declared.hosted.Became.{Became}
use Rattle.sat_process.specs.declared.hosted.Became.TheVariants as became
use Rattle.sat_process.specs.declared.starting.ProcessFault.{ProcessFault}
use Rattle.sat_process.specs.declared.starting.ProcessFault.TheVariants as fault
use Rattle.sat_process.specs.Keeping.{bodies_of}
use Rattle.sat_process.specs.Processes.{ProcessSeen}

-- the fault of a journal, with the transport that is handed back
abbrev pub fault_with : {D T : Type 0} → DurableFault D → T → ProcessFault D T
fault_with (durable.Disk disk) transport = fault.Disk disk transport
fault_with (durable.Torn disk at) transport = fault.Torn disk transport at
fault_with (durable.Memory disk) transport = fault.Memory disk transport

-- P of the disk, where it failed, Q of it and a place, where it is torn there, R of it and a number, where that record
-- is strange, and S of it, where memory was missing
abbrev pub MatchProcess : {D T : Type 0} → ProcessFault D T → (D → Type 0) → (D → ℕ → Type 0) → (D → ℕ → Type 0)
    → (D → Type 0) → Type 0
MatchProcess (fault.Disk disk transport) P Q R S = P disk
MatchProcess (fault.Torn disk transport at) P Q R S = Q disk at
MatchProcess (fault.Strange disk transport number) P Q R S = R disk number
MatchProcess (fault.Memory disk transport) P Q R S = S disk

abbrev pub fault_disk : {D T : Type 0} → ProcessFault D T → D
fault_disk (fault.Disk disk transport) = disk
fault_disk (fault.Torn disk transport at) = disk
fault_disk (fault.Strange disk transport number) = disk
fault_disk (fault.Memory disk transport) = disk

abbrev pub fault_transport : {D T : Type 0} → ProcessFault D T → T
fault_transport (fault.Disk disk transport) = transport
fault_transport (fault.Torn disk transport at) = transport
fault_transport (fault.Strange disk transport number) = transport
fault_transport (fault.Memory disk transport) = transport

-- the disk and the transport, whichever way it began
abbrev pub disk_begun : {D T M I A : Type 0} → Result (ProcessSeen D T M I A) (ProcessFault D T) → D
disk_begun (Ok process) = process.disk
disk_begun (Err e) = fault_disk e

abbrev pub transport_begun : {D T M I A : Type 0} → Result (ProcessSeen D T M I A) (ProcessFault D T) → T
transport_begun (Ok process) = process.transport
transport_begun (Err e) = fault_transport e

-- ---- records that a node takes not

-- a body of nothing, or of something that the node would not take
abbrev pub NotTaken : {M I A : Type 0} → (HostSeen M I A → Handed → Became) → HostSeen M I A → Option Handed → Type 0
NotTaken would h None = Unit {0}
NotTaken would h (Some given) = would h given ≡ became.Taken → ⊥

module _ {M I A : Type 0} (asked : ℕ → I → Option Handed) (took : I → Option Body) where
  -- the host took so many of these records
  pub record Feeds (bodies : List (List ℕ)) (number : ℕ) (old new : HostSeen M I A) : Type 0 where
    pub fed : IsFed asked took new.node.entries new.slips
    pub told : bodies_of asked took new ≡ take number bodies
    pub name : new.node.name ≡ old.node.name

  -- a host that took all records before that one would not take it
  pub record IsStrange (would : HostSeen M I A → Handed → Became) (bodies : List (List ℕ)) (number : ℕ) : Type 0 where
    pub host : HostSeen M I A
    pub fed : IsFed asked took host.node.entries host.slips
    pub before : bodies_of asked took host ≡ take number bodies
    pub body : List ℕ
    pub there : slice_get bodies number ≡ Some body
    pub strange : NotTaken would host (input_of body)

  -- of the records of a journal one is strange
  pub record HasStrange (would : HostSeen M I A → Handed → Became) (content : List ℕ) (number : ℕ) : Type 0 where
    pub bodies : List (List ℕ)
    pub journal : Recovers log_meaning passing content bodies
    pub strange : IsStrange would bodies number
