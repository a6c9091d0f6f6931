-- Which acts of a script a history of running nodes lacks. Entries and acts come the oldest first.
use Rattle.std.specs.Prelude.{◌≡◌, ◌⊎◌, ℕ, ◌+◌, ◌<◌, Bool, true, false, ◌&&◌, not, nat_le, nat_lt, List, [], ◌∷◌, ◌++◌}
use Rattle.std.specs.Prelude.{length, filter, Option, Some, None, slice_get, if◌then◌else◌}
use Rattle.sat_act.specs.declared.act.Act.{Act}
use Rattle.sat_act.specs.declared.act.Act.TheVariants as act
use Rattle.sat_act.specs.declared.answer.Answer.{Answer}
use Rattle.sat_act.specs.declared.answer.Answer.TheVariants as ans
use Rattle.sat_act.specs.declared.answer.Refusal.TheVariants as why
use Rattle.sat_act.specs.declared.entry.Entry.{Entry}
use Rattle.sat_stitch.specs.Kept.{acts_of as acts_among}
use Rattle.sat_stitch.specs.Places.{Session, Client, Operator, session_of, is_session}
use Rattle.sat_undone.specs.declared.lacking.Tally.{Tally}
use Rattle.sat_undone.specs.declared.tries.TheConstants.{MOST_TRIES}

-- ---- whose acts

-- the session of this number: that of the client, or behind all clients the operator's
abbrev pub session_at : ℕ → ℕ → Session
session_at clients n = if nat_lt n clients then Client n else Operator

-- the number of a session, if it is one of so many clients or the operator
abbrev pub number_of : ℕ → Option Session → Option ℕ
number_of clients None = None
number_of clients (Some (Client c)) = if nat_lt c clients then Some c else None
number_of clients (Some Operator) = Some clients

abbrev pub is_by : Session → Entry → Bool
is_by s e = is_session s (session_of e.act)

-- the entries of a session, and its acts in a script
abbrev pub entries_of : Session → List Entry → List Entry
entries_of s es = filter (is_by s) es

abbrev pub is_of : Session → Act → Bool
is_of s a = is_session s (session_of a)

abbrev pub acts_of : Session → List Act → List Act
acts_of s acts = filter (is_of s) acts

-- ---- tries

abbrev pub is_attach : Act → Bool
is_attach (act.Attach c j) = true
is_attach _ = false

abbrev pub is_not_yet : Answer → Bool
is_not_yet (ans.Refused why.NotYet) = true
is_not_yet _ = false

-- an attach that has to wait, and is tried again
abbrev pub has_to_wait : Act → Answer → Bool
has_to_wait a r = is_attach a && is_not_yet r

-- whether an entry is an attach that has to be tried again
abbrev pub waits : Entry → Bool
waits e = has_to_wait e.act e.answer

-- what so many attaches in a row are that had to wait, the last of which is this, where nothing comes behind them: one
-- act where they are the most, else none
abbrev pub given_up : ℕ → Option Act → List Act
given_up n None = []
given_up n (Some a) = if nat_le MOST_TRIES n then a ∷ [] else []

-- the acts of these entries of one session, behind so many attaches in a row that had to wait: such an attach and the
-- entry behind it are one act
abbrev pub acts_behind : ℕ → Option Act → List Entry → List Act
acts_behind n o [] = given_up n o
acts_behind n o (e ∷ es) = if waits e then acts_behind (n + 1) (Some e.act) es else e.act ∷ acts_behind 0 None es

-- the acts that these entries of one session do, where the tries of an attach count once
abbrev pub acts_done : List Entry → List Act
acts_done es = acts_behind 0 None es

-- ---- counted

-- after one entry more: an attach that has to wait, or another one
abbrev pub tally_by : Bool → Tally → Tally
tally_by true t = record { done = t.done; tries = t.tries + 1 }
tally_by false t = record { done = t.done + 1; tries = 0 }

abbrev pub next_tally : Tally → Entry → Tally
next_tally t e = tally_by (waits e) t

abbrev pub tally_from : Tally → List Entry → Tally
tally_from t [] = t
tally_from t (e ∷ es) = tally_from (next_tally t e) es

abbrev pub no_tally : Tally
no_tally = record { done = 0; tries = 0 }

-- of a session, in a history
unfoldable pub tally_of : Session → List Entry → Tally
tally_of s es = tally_from no_tally (entries_of s es)

-- its client stopped
abbrev pub stopped : Tally → Bool
stopped t = nat_le MOST_TRIES t.tries

-- ---- what is lacking

-- the history lacks the act of this number of a session, unless its client stopped
abbrev pub lacks_of : Tally → ℕ → Bool
lacks_of t n = not (stopped t) && nat_le t.done n

abbrev pub lacks_by : List Entry → List Act → Option Session → Bool
lacks_by es before None = false
lacks_by es before (Some s) = lacks_of (tally_of s es) (length (acts_of s before))

-- a history lacks an act that comes behind others of a script
abbrev pub lacks : List Entry → List Act → Act → Bool
lacks es before a = lacks_by es before (session_of a)

abbrev pub undone_behind : List Entry → List Act → List Act → Option Act
undone_behind es before [] = None
undone_behind es before (a ∷ acts) = if lacks es before a then Some a else undone_behind es (before ++ a ∷ []) acts

-- the first act of a script that a history lacks, but for those that stand behind the most refused attaches of their
-- client
unfoldable pub undone : List Entry → List Act → Option Act
unfolding tally_of
undone es acts = undone_behind es [] acts

-- ---- what each session did

-- the first of them are these
abbrev pub IsFront : List Act → List Act → Type 0
IsFront front all = (rest : List Act) × (all ≡ front ++ rest)

-- behind entries of this tally, this act of a session comes next, and was not tried the most times yet
pub record IsNext (t : Tally) (acts : List Act) (a : Act) : Type 0 where
  pub act : slice_get acts t.done ≡ Some a
  pub tries : t.tries < MOST_TRIES

-- behind entries of this tally, each of these entries is of the act that comes next. So behind an attach that has to
-- wait stands the same act, and behind the most tries of it nothing
abbrev pub AreInTurn : Tally → List Act → List Entry → Type 0
AreInTurn t acts [] = Unit {0}
AreInTurn t acts (e ∷ es) = IsNext t acts e.act × AreInTurn (next_tally t e) acts es

-- by these entries a session did a front of these acts, each in its turn
pub record DoesFront (acts : List Act) (es : List Entry) : Type 0 where
  pub front : IsFront (acts_done es) acts
  pub in_turn : AreInTurn no_tally acts es

-- and these were all of them; or at their end its client gave up, behind the most tries
pub record DoesAll (acts : List Act) (es : List Entry) : Type 0 where
  pub does : DoesFront acts es
  pub all : (acts_done es ≡ acts) ⊎ ((tally_from no_tally es).tries ≡ MOST_TRIES)

-- each session did a front of its acts
abbrev pub AreFronts : List Entry → List Act → Type 0
AreFronts es acts = (s : Session) → DoesFront (acts_of s acts) (entries_of s es)

-- each session did all its acts, or its client gave up; and the operator's acts are the script's, in their order
pub record AreDone (es : List Entry) (acts : List Act) : Type 0 where
  pub each : (s : Session) → DoesAll (acts_of s acts) (entries_of s es)
  pub operator : acts_among (entries_of Operator es) ≡ acts_of Operator acts

-- where what was done are fronts and the history lacks nothing, all acts were done
abbrev pub FrontsAreDone : Type 0
FrontsAreDone = (es : List Entry) (acts : List Act) → AreFronts es acts → undone es acts ≡ None → AreDone es acts
