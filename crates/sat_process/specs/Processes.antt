-- A process, and what its calls do.
use Rattle.std.specs.Prelude.{◌≡◌, ◌⊎◌, ℕ, ◌+◌, ◌^◌, max, nat_lt, Bool, List, [], ◌∷◌, Some, None, Ok, Err}
use Rattle.std.specs.Prelude.{if◌then◌else◌}
use Rattle.std.specs.declared.option.Option.{Option}
use Rattle.std.specs.declared.result.Result.{Result}
use Rattle.sat_node.specs.declared.kept.Body.{Body}
use Rattle.sat_durable.specs.Causes.{Rose}
use Rattle.sat_durable.specs.Disk.{DiskState, LeftOnly}
use Rattle.sat_node.specs.Seen.{last_number}
use Rattle.sat_message.specs.declared.message.Message.{Message}
use Rattle.sat_wire.specs.Wholes.{whole}
use Rattle.sat_letter.specs.Letters.{letter}
use Rattle.sat_host_laws.specs.Messages.{HostSeen}
use Rattle.sat_handed.specs.declared.handed.Handed.{Handed}
use Rattle.sat_handed.specs.declared.handed.Handed.TheVariants as given
use Rattle.sat_process.specs.declared.hosted.Became.{Became}
use Rattle.sat_process.specs.declared.hosted.Became.TheVariants as became
use Rattle.sat_process.specs.declared.outcomes.Asked.{Asked}
use Rattle.sat_process.specs.declared.outcomes.Asked.TheVariants as asked_as
use Rattle.sat_process.specs.declared.outcomes.Ended.{Ended}
use Rattle.sat_process.specs.declared.outcomes.Ended.TheVariants as ended
use Rattle.sat_process.specs.declared.outcomes.Heard.{Heard}
use Rattle.sat_process.specs.declared.outcomes.Heard.TheVariants as heard
use Rattle.sat_handed.specs.Handed.{handed_allows}
use Rattle.sat_process.specs.Keeping.{IsJournalAnd, IsJournalOf, IsJournalOr}
use Rattle.sat_process.specs.Taking.{Takes}
use Rattle.sat_handed.specs.Transports.{Grows, Posted, posted}

-- its disk, its transport, its host, and how many bytes its journal has on the disk
pub record ProcessSeen (D T M I A : Type 0) : Type 0 where
  pub disk : D
  pub transport : T
  pub host : HostSeen M I A
  pub size : ℕ

-- nothing but its transport and what it says next differs
pub record SameProcess {D T M I A : Type 0} (old new : ProcessSeen D T M I A) : Type 0 where
  pub disk : new.disk ≡ old.disk
  pub size : new.size ≡ old.size
  pub node : new.host.node ≡ old.host.node
  pub slips : new.host.slips ≡ old.host.slips
  pub wanted : new.host.wanted ≡ old.host.wanted

-- nothing but its transport differs
pub record SameInside {D T M I A : Type 0} (old new : ProcessSeen D T M I A) : Type 0 where
  pub disk : new.disk ≡ old.disk
  pub size : new.size ≡ old.size
  pub host : new.host ≡ old.host

-- the number above this one, if there is one
abbrev pub IsNumber : ℕ → Option ℕ → Type 0
IsNumber last None = last ≡ last_number
IsNumber last (Some n) = (n ≡ last + 1) × ((last ≡ last_number) → ⊥)

-- what becomes of what a node is handed, where this would become of it: first that the journal is longer than a disk
-- takes, then that it has no spelling
abbrev pub foreseen : Became → ℕ → Bool → Became
foreseen would size allowed =
    if nat_lt (2 ^ 40) size then became.Full else if allowed then would else became.Unspelled

-- that is answered, or that memory ran out
abbrev pub IsAnswered : Became → Became → Type 0
IsAnswered is b = (b ≡ is) ⊎ (b ≡ became.Memory)

-- what is asked, as what is handed under this number
abbrev pub handed_as : ℕ → Asked → Handed
handed_as number (asked_as.Site by i) = given.Asked number by i
handed_as number asked_as.Kill = given.Killed number

-- the disk and the transport, whichever way a call ended
abbrev pub ended_disk : {D T : Type 0} → Ended D T → D
ended_disk (ended.Disk disk transport) = disk
ended_disk (ended.Memory disk transport) = disk

abbrev pub ended_transport : {D T : Type 0} → Ended D T → T
ended_transport (ended.Disk disk transport) = transport
ended_transport (ended.Memory disk transport) = transport

abbrev pub disk_ended : {D T M I A X : Type 0} → Result (ProcessSeen D T M I A × X) (Ended D T) → D
disk_ended (Ok x) = x.0.disk
disk_ended (Err e) = ended_disk e

abbrev pub transport_ended : {D T M I A X : Type 0} → Result (ProcessSeen D T M I A × X) (Ended D T) → T
transport_ended (Ok x) = x.0.transport
transport_ended (Err e) = ended_transport e

-- P of the disk, where it failed, and Q of it, where memory ran out behind it
abbrev pub MatchEnded : {D T : Type 0} → Ended D T → (D → Type 0) → (D → Type 0) → Type 0
MatchEnded (ended.Disk disk transport) P Q = P disk
MatchEnded (ended.Memory disk transport) P Q = Q disk

module _ {M I A : Type 0} (asked : ℕ → I → Option Handed) (took : I → Option Body) where
  -- the host took it, or is as before
  abbrev pub Becomes : Handed → Became → HostSeen M I A → HostSeen M I A → Type 0
  Becomes g became.Taken old new = Takes asked took g old new
  Becomes g became.Early old new = new ≡ old
  Becomes g became.Again old new = new ≡ old
  Becomes g became.Unfit old new = new ≡ old
  Becomes g became.Unspelled old new = new ≡ old
  Becomes g became.Worn old new = new ≡ old
  Becomes g became.Full old new = new ≡ old
  Becomes g became.Memory old new = new ≡ old

  -- a letter came whose bytes spell this message, and this became of it
  pub record HearsMessage (would : HostSeen M I A → Handed → Became) (size link : ℕ) (b : Became)
      (before after : Option (List Posted)) (old new : HostSeen M I A) : Type 0 where
    pub message : Message
    pub came : Grows before after (posted link (letter.spell message) ∷ [])
    pub answered : IsAnswered (foreseen (would old (given.Came link message)) size
        (handed_allows (given.Came link message))) b
    pub becomes : Becomes (given.Came link message) b old new

  -- what became of a message of a link
  abbrev pub HearsHanded : (HostSeen M I A → Handed → Became) → Heard → ℕ → ℕ → Message → HostSeen M I A
      → HostSeen M I A → Type 0
  HearsHanded would h size link m old new = (b : Became) × (h ≡ heard.Message link b)
      × IsAnswered (foreseen (would old (given.Came link m)) size (handed_allows (given.Came link m))) b
      × Becomes (given.Came link m) b old new

  -- bytes came that are no message
  pub record HearsNone (link : ℕ) (why : List ℕ → Type 0) (before after : Option (List Posted))
      (old new : HostSeen M I A) : Type 0 where
    pub bytes : List ℕ
    pub came : Grows before after (posted link bytes ∷ [])
    pub refused : why bytes
    pub same : new ≡ old

  -- what came, and what became of it
  abbrev pub Hears : (HostSeen M I A → Handed → Became) → Heard → ℕ → Option (List Posted) → Option (List Posted)
      → HostSeen M I A → HostSeen M I A → Type 0
  Hears would heard.Nothing size before after old new = Grows before after [] × (new ≡ old)
  Hears would heard.Failed size before after old new = Grows before after [] × (new ≡ old)
  Hears would (heard.Unread link wrong) size before after old new =
      HearsNone link (λ bytes. whole letter bytes ≡ Err wrong) before after old new
  Hears would (heard.Lost link) size before after old new = HearsNone link (λ bytes. Unit {0}) before after old new
  Hears would (heard.Message link b) size before after old new = HearsMessage would size link b before after old new

  -- the same, and then nothing but what it says next differs
  pub record HearsThen (would : HostSeen M I A → Handed → Became) (h : Heard) (size : ℕ)
      (before after : Option (List Posted)) (old new : HostSeen M I A) : Type 0 where
    pub host : HostSeen M I A
    pub letters : Option (List Posted)
    pub hears : Hears would h size before letters old host
    pub quiet : Grows letters after []
    pub node : new.node ≡ host.node
    pub slips : new.slips ≡ host.slips
    pub wanted : new.wanted ≡ host.wanted

  -- a stop at any moment leaves a journal of what it was handed; or, where a message came, that or that and the message
  abbrev pub LeavesHeard : HostSeen M I A → Option (List Posted) → Option (List Posted) → DiskState → DiskState → Type 0
  LeavesHeard h before after old new = LeftOnly old new (IsJournalOf asked took h)
      ⊎ ((link : ℕ) × (m : Message) × Grows before after (posted link (letter.spell m) ∷ [])
      × LeftOnly old new (IsJournalOr asked took h (given.Came link m)))

  -- it is worn where the greater of the two numbers is the greatest, and else handed under the next one
  abbrev pub Acts : (HostSeen M I A → Handed → Became) → ℕ → Asked → Became → ℕ → HostSeen M I A → HostSeen M I A
      → Type 0
  Acts would heard given_asked b size old new =
      ((max old.node.number heard ≡ last_number) × (b ≡ became.Worn) × (new ≡ old))
      ⊎ (((max old.node.number heard ≡ last_number) → ⊥)
      × IsAnswered (foreseen (would old (handed_as (max old.node.number heard + 1) given_asked)) size
      (handed_allows (handed_as (max old.node.number heard + 1) given_asked))) b
      × Becomes (handed_as (max old.node.number heard + 1) given_asked) b old new)

  -- the process ended as it was handed this, which it would have taken: the disk failed; or memory ran out, and the
  -- disk has all and this besides
  pub record Ends {D T : Type 0} (state : D → DiskState) (would : Became) (size : ℕ) (g : Handed)
      (h : HostSeen M I A) (disk : D) (e : Ended D T) : Type 0 where
    pub taken : foreseen would size (handed_allows g) ≡ became.Taken
    pub why : MatchEnded e (λ left. Rose (state disk).faults (state left).faults)
        (λ left. IsJournalAnd asked took h g (state left).content)

  -- the same, as a message was heard
  pub record EndsHearing {D T : Type 0} (state : D → DiskState) (gave : T → Option (List Posted))
      (would : HostSeen M I A → Handed → Became) (size : ℕ) (h : HostSeen M I A) (disk : D) (transport : T)
      (e : Ended D T) : Type 0 where
    pub link : ℕ
    pub message : Message
    pub came : Grows (gave transport) (gave (ended_transport e)) (posted link (letter.spell message) ∷ [])
    pub ends : Ends state (would h (given.Came link message)) size (given.Came link message) h disk e
