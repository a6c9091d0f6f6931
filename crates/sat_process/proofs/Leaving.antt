-- What a stop leaves of a process.
use Rattle.std.proofs.Common.{◌≡◌, ◌⊎◌, ℕ, ◌+◌, ◌^◌, ◌≤◌, min, List, [], ◌∷◌, ◌++◌, map, Option, refl, sym, ap, ◌∙◌, subst, inl, inr, ⊎_elim, arith}
use Rattle.sat_durable.specs.Causes.{Rose}
use Rattle.sat_durable.specs.Disk.{DiskState, Elapses, LeftOnly, Rests}
use Rattle.sat_durable.specs.Machine.{Keeps, Recovers}
use Rattle.sat_durable.specs.Recovering.{fault_disk as durable_disk}
use Rattle.sat_durable.specs.declared.durable.DurableFault.{DurableFault}
use Rattle.sat_durable.specs.declared.durable.DurableFault.TheVariants as durable
use Rattle.sat_durable.proofs.Moments.{left_at_first, left_both, left_weaker}
use Rattle.sat_log.specs.Logs.{LogSeen, log_meaning, passing}
use Rattle.sat_node.specs.declared.kept.Body.{Body}
use Rattle.sat_host_laws.specs.Messages.{HostSeen}
use Rattle.sat_handed.specs.declared.handed.Handed.{Handed}
use Rattle.sat_handed.specs.Handed.{body_of}
use Rattle.sat_handed.specs.Told.{IsFed}
use Rattle.sat_process.specs.Keeping.{IsJournalAnd, IsJournalOf, IsJournalOr, OnDisk, bodies_of}
use Rattle.sat_process.specs.declared.starting.ProcessFault.{ProcessFault}
use Rattle.sat_process.specs.Starting.{fault_disk, fault_with}
use Rattle.sat_process.specs.Taking.{Takes, told_by}

map_more : {X Y : Type 0} (f : X → Y) (xs : List X) (y : X) → map f (xs ++ y ∷ []) ≡ map f xs ++ f y ∷ []
map_more f [] y = refl
map_more f (x ∷ xs) y = ap (λ (l : List _). f x ∷ l) (map_more f xs y)

-- ---- disks

-- a disk to which nothing happened
pub left_same : (disk : DiskState) → ((c : List ℕ) → disk.left_since disk.moment c → disk.may_leave c) → LeftOnly disk disk disk.may_leave
left_same disk only = left_at_first disk disk.may_leave only (λ c left. left)

-- what leaves nothing more twice leaves nothing more
pub left_twice : (old mid new : DiskState) → LeftOnly old mid old.may_leave → LeftOnly mid new mid.may_leave → LeftOnly old new old.may_leave
left_twice old mid new p q = left_both old mid new old.may_leave mid.may_leave old.may_leave p q (λ c left. left) (λ c left. p.now c left)

-- the same disk, under another name
pub left_kept : {D : Type 0} (state : D → DiskState) (old out : D) → out ≡ old → ((c : List ℕ) → (state old).left_since (state old).moment c → (state old).may_leave c) → LeftOnly (state old) (state out) (state old).may_leave
left_kept {D} state old out is only = subst (λ (d : D). LeftOnly (state old) (state d) (state old).may_leave) (sym is) (left_same (state old) only)

disk-with : {D T : Type 0} (e : DurableFault D) (t : T) → fault_disk (fault_with e t) ≡ durable_disk e
disk-with (durable.Disk disk) t = refl
disk-with (durable.Torn disk at) t = refl
disk-with (durable.Memory disk) t = refl

-- the disk of a fault
pub left_fault : {D T : Type 0} (state : D → DiskState) (old : DiskState) (P : List ℕ → Type 0) (e : DurableFault D) (t : T) (f : ProcessFault D T) → f ≡ fault_with e t → LeftOnly old (state (durable_disk e)) P → LeftOnly old (state (fault_disk f)) P
left_fault {D} {T} state old P e t f is left = subst (λ (d : D). LeftOnly old (state d) P) (sym (ap (λ (x : ProcessFault D T). fault_disk x) is ∙ disk-with e t)) left

-- ---- a host on its disk

module _ {M I A : Type 0} (asked : ℕ → I → Option Handed) (took : I → Option Body) where
  -- nothing happened to the disk
  pub stays_of : (disk : DiskState) (log : LogSeen) (h : HostSeen M I A) → ((c : List ℕ) → disk.left_since disk.moment c → disk.may_leave c) → OnDisk asked took disk log h → LeftOnly disk disk (IsJournalOf asked took h)
  stays_of disk log h only on = left_at_first disk (IsJournalOf asked took h) only on.keeps.left

  -- what its disk has once it took one thing more
  pub bodies_more : (given : Handed) (old new : HostSeen M I A) → IsFed asked took old.node.entries old.slips → Takes asked took given old new → bodies_of asked took new ≡ bodies_of asked took old ++ body_of given ∷ []
  bodies_more given old new fed takes = ap (map body_of) (takes.handed fed) ∙ map_more body_of (told_by asked took old) given

  pub on_disk_more : (disk next : DiskState) (log after : LogSeen) (given : Handed) (old new : HostSeen M I A) → OnDisk asked took disk log old
      → ((bodies : List (List ℕ)) → Keeps log_meaning passing disk log bodies → Keeps log_meaning passing next after (bodies ++ body_of given ∷ [])) → Takes asked took given old new → OnDisk asked took next after new
  on_disk_more disk next log after given old new on more takes = record {
    keeps = subst (λ (bodies : List (List ℕ)). Keeps log_meaning passing next after bodies) (sym (bodies_more given old new on.fed takes)) (more (bodies_of asked took old) on.keeps);
    fed = takes.fed on.fed;
  }

  -- nothing more is there
  pub on_disk_still : (disk next : DiskState) (log after : LogSeen) (old : HostSeen M I A) → OnDisk asked took disk log old
      → ((bodies : List (List ℕ)) → Keeps log_meaning passing disk log bodies → Keeps log_meaning passing next after bodies) → OnDisk asked took next after old
  on_disk_still disk next log after old on still = record { keeps = still (bodies_of asked took old) on.keeps; fed = on.fed }
