-- What hosts and sessions do, one thing after the other: of it all, hosts and sessions note the same.
use Rattle.std.specs.Prelude.{◌≡◌, ◌<◌, ℕ, List, [], ◌∷◌, ◌++◌, length, map, set, slice_get, Some, None, Ok}
use Rattle.sat_label.specs.declared.items.Items.{Items}
use Rattle.sat_label.specs.declared.items.Items.TheVariants.{One}
use Rattle.sat_act.specs.declared.act.Act.{Act}
use Rattle.sat_act.specs.declared.act.Act.TheVariants as act
use Rattle.sat_act.specs.declared.answer.Answer.{Answer}
use Rattle.sat_act.specs.Deployed.{Deployed}
use Rattle.sat_site.specs.declared.input.SiteInput.TheVariants as given
use Rattle.sat_node.specs.declared.kept.Kept.{Kept as Line}
use Rattle.sat_node.specs.Links.{Each}
use Rattle.sat_machines.specs.Acts.{ActSeen}
use Rattle.sat_machines.specs.declared.site_answer.SiteAnswer.{SiteAnswer}
use Rattle.sat_machines.specs.declared.serial_act.SerialAct.{SerialAct}
use Rattle.sat_machines.specs.declared.serial_act.SerialAct.TheVariants as serial
use Rattle.sat_machines.specs.declared.serial_act.SerialAnswer.{SerialAnswer}
use Rattle.sat_opened.specs.Keeping.{owner_of, serial_owner}
use Rattle.sat_session.specs.Notes.{SessionSeen, node_notes, session_notes}
use Rattle.sat_session.specs.Sessions.{IsSession, SameNotes}
use Rattle.sat_session.specs.Calls.{IsGroup, AtNone, AtNode, of_site, of_serial, asked_by}
use Rattle.sat_host_laws.specs.Messages.{HostSeen, SiteHost, SerialHost, held_of}

-- all hosts of a store and all sessions, as they stand
pub record StoreSeen : Type 0 where
  pub sites : List SiteHost
  pub serials : List SerialHost
  pub sessions : List SessionSeen

-- nothing happened
pub record Begins (x : StoreSeen) : Type 0 where
  pub sites : Each x.sites (λ _ h. h.node.entries ≡ [])
  pub serials : Each x.serials (λ _ h. h.node.entries ≡ [])
  pub sessions : Each x.sessions (λ _ s. s.noted ≡ [])

-- what each call of a session hands to a site: its act, and the input that it is
pub data IsAsked (d : Deployed) (x : SessionSeen) : Act → ActSeen → Type 0 where
  write : (n : ℕ) (value : List ℕ) → x.number < length d.clients → IsAsked d x (act.Write x.number n value)
      (asked_by (Some x.number) (given.Write x.client.carried (One n) (value ∷ [])))
  writes : (items : Items) (values : List (List ℕ)) → x.number < length d.clients → IsGroup d items values
      → IsAsked d x (act.Writes x.number items values)
      (asked_by (Some x.number) (given.Write x.client.carried items values))
  read : (n : ℕ) → x.number < length d.clients
      → IsAsked d x (act.Read x.number n) (asked_by (Some x.number) (given.Read x.client.carried n))
  move_to : (j : ℕ) → x.number < length d.clients
      → IsAsked d x (act.Move x.number j) (asked_by (Some x.number) (given.Move x.client.carried j))
  attach : (j : ℕ) → x.number < length d.clients
      → IsAsked d x (act.Attach x.number j) (asked_by (Some x.number) (given.Attach x.client.carried))
  close : (i : ℕ) → x.number ≡ length d.clients → IsAsked d x (act.Close i) (asked_by None given.Close)
  fall : (i : ℕ) → x.number ≡ length d.clients → IsAsked d x (act.Fall i) (asked_by None given.Fall)

-- a host took these more, under its name
pub record Took {M I A : Type 0} (more : List (Line I A)) (old new : HostSeen M I A) : Type 0 where
  pub name : new.node.name ≡ old.node.name
  pub entries : new.node.entries ≡ old.node.entries ++ more

-- what no client and no operator asked for: messages, and what a site does by itself
abbrev pub IsSites : Line ActSeen SiteAnswer → Type 0
IsSites k = owner_of k.input.by k.input.input ≡ None

abbrev pub IsHop : Line SerialAct SerialAnswer → Type 0
IsHop k = serial_owner k.input ≡ None

abbrev pub with_site : StoreSeen → ℕ → SiteHost → StoreSeen
with_site x n h = record { sites = set x.sites n h; serials = x.serials; sessions = x.sessions }

abbrev pub with_serial : StoreSeen → ℕ → SerialHost → StoreSeen
with_serial x n h = record { sites = x.sites; serials = set x.serials n h; sessions = x.sessions }

abbrev pub with_session : StoreSeen → ℕ → SessionSeen → StoreSeen
with_session x n s = record { sites = x.sites; serials = x.serials; sessions = set x.sessions n s }

-- one thing more: a session's call at a site, the operator's kill, a call that touches no host, or what a host took
-- that nobody asked for. A call that failed left both sides as they were
pub data Goes (d : Deployed) (x : StoreSeen) : StoreSeen → Type 0 where
  asked : (n k : ℕ) (old new : SiteHost) (before after : SessionSeen) (a : Act) (i : ActSeen) (r : Answer)
      → slice_get x.sites n ≡ Some old → slice_get x.sessions k ≡ Some before → IsAsked d before a i
      → AtNode a i of_site (Ok r) old.node new.node before after → IsSession d after
      → Goes d x (with_session (with_site x n new) k after)
  killed : (n k : ℕ) (old new : SerialHost) (before after : SessionSeen) (e z : ℕ) (r : Answer)
      → slice_get x.serials n ≡ Some old → slice_get x.sessions k ≡ Some before → before.number ≡ length d.clients
      → AtNode (act.Kill e z) serial.Kill of_serial (Ok r) old.node new.node before after → IsSession d after
      → Goes d x (with_session (with_serial x n new) k after)
  alone : (k : ℕ) (before after : SessionSeen) (a : Act) (r : Answer) → slice_get x.sessions k ≡ Some before
      → AtNone a (Ok r) before after → Goes d x (with_session x k after)
  at_site : (n : ℕ) (old new : SiteHost) (more : List (Line ActSeen SiteAnswer)) → slice_get x.sites n ≡ Some old
      → Took more old new → Each more (λ _ k. IsSites k) → Goes d x (with_site x n new)
  at_serial : (n : ℕ) (old new : SerialHost) (more : List (Line SerialAct SerialAnswer))
      → slice_get x.serials n ≡ Some old → Took more old new → Each more (λ _ k. IsHop k)
      → Goes d x (with_serial x n new)

-- a store that went on so from its beginning
pub data HasGone (d : Deployed) : StoreSeen → Type 0 where
  begins : (x : StoreSeen) → Begins x → HasGone d x
  goes : (x y : StoreSeen) → HasGone d x → Goes d x y → HasGone d y

-- hosts and sessions noted the same
abbrev pub NotedSame : Deployed → StoreSeen → Type 0
NotedSame d x = SameNotes (node_notes (map held_of x.sites) (map held_of x.serials)) (session_notes d x.sessions)

-- so they do at any time
abbrev pub StoresNote : Type 0
StoresNote = (d : Deployed) (x : StoreSeen) → HasGone d x → NotedSame d x
