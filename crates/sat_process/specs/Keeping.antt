-- A host whose disk has what it was handed.
use Rattle.std.specs.Prelude.{◌≡◌, ◌⊎◌, ℕ, List, ◌∷◌, [], ◌++◌, map}
use Rattle.std.specs.declared.option.Option.{Option}
use Rattle.sat_durable.specs.Disk.{DiskState}
use Rattle.sat_durable.specs.Machine.{Keeps, Recovers}
use Rattle.sat_log.specs.Logs.{LogSeen, log_meaning, passing}
use Rattle.sat_node.specs.declared.kept.Body.{Body}
use Rattle.sat_host_laws.specs.Messages.{HostSeen}
use Rattle.sat_handed.specs.declared.handed.Handed.{Handed}
use Rattle.sat_handed.specs.Handed.{body_of}
use Rattle.sat_handed.specs.Told.{IsFed}
use Rattle.sat_process.specs.Taking.{told_by}

module _ {M I A : Type 0} (asked : ℕ → I → Option Handed) (took : I → Option Body) where
  -- what its journal on the disk has
  abbrev pub bodies_of : HostSeen M I A → List (List ℕ)
  bodies_of h = map body_of (told_by asked took h)

  -- the disk has what the host was handed, and so has all that a crash may leave now
  pub record OnDisk (disk : DiskState) (log : LogSeen) (h : HostSeen M I A) : Type 0 where
    pub keeps : Keeps log_meaning passing disk log (bodies_of h)
    pub fed : IsFed asked took h.node.entries h.slips

  -- a journal of what a host was handed
  abbrev pub IsJournalOf : HostSeen M I A → List ℕ → Type 0
  IsJournalOf h c = Recovers log_meaning passing c (bodies_of h)

  -- a journal of what it was handed and one thing more
  abbrev pub IsJournalAnd : HostSeen M I A → Handed → List ℕ → Type 0
  IsJournalAnd h given c = Recovers log_meaning passing c (bodies_of h ++ body_of given ∷ [])

  -- of the one or of the other
  abbrev pub IsJournalOr : HostSeen M I A → Handed → List ℕ → Type 0
  IsJournalOr h given c = IsJournalOf h c ⊎ IsJournalAnd h given c
