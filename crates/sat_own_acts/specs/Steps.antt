-- What each line of a text with acts of the command's own comes to.
use Rattle.std.specs.Prelude.{ℕ, ◌+◌, ◌-◌, ◌*◌, List, [], ◌∷◌, length, Option, Some, None, Result, Ok, Err}
use Rattle.sat_act.specs.Deployed.{Deployed}
use Rattle.sat_own_acts.specs.OwnActs.{OwnActs}
use Rattle.sat_own_acts.specs.Lines.{own_line, own_after}
use Rattle.sat_own_acts.specs.Texts.{Telling, numbered, may_go_on}
use Rattle.sat_own_acts.specs.declared.line.OwnParsed.{OwnParsed}
use Rattle.sat_own_acts.specs.declared.line.OwnParsed.TheVariants as says
use Rattle.sat_follow.specs.Rules.{Rules, Outcome, goes, stops, Closing}
use Rattle.sat_script.specs.Grammar.{close_at, told_line}
use Rattle.sat_script.specs.State.{State, start, number_of, fault_at}
use Rattle.sat_script.specs.declared.fault.Cause.{Cause}
use Rattle.sat_script.specs.declared.line.Line.{Line}
use Rattle.sat_script.specs.declared.line.Line.TheVariants as line

-- what the lines so far say, and the history of their acts, the newest entry first
pub record OwnState (E : Type 0) : Type 0 where
  pub script : State
  pub entries : List E

-- the act that a line of any script says, if it says one
abbrev pub plain_act : {A : Type 0} → OwnActs A → Line → Option A
plain_act these (line.Act a) = Some (these.plain a)
plain_act these _ = None

-- and the act of any line
abbrev pub act_in : {A : Type 0} → OwnActs A → OwnParsed A → Option A
act_in these (says.Plain p) = plain_act these (told_line p)
act_in these (says.Own a) = Some a

-- the history with an act more, and its answer with the next number, where a line says an act
abbrev pub entries_with : {A E : Type 0} → Telling A E → Deployed → List E → Option A → List E
entries_with tell d c None = c
entries_with tell d c (Some a) = tell.entry d c a ∷ c

abbrev pub told_with : {A E : Type 0} → Telling A E → Deployed → List E → Option A → List ℕ
told_with tell d c None = []
told_with tell d c (Some a) = numbered (length c + 1) (tell.answer d (tell.entry d c a))

-- the state behind a line that says this
abbrev pub state_after : {A E : Type 0} → OwnActs A → Telling A E → OwnState E → OwnParsed A → OwnState E
state_after these tell s p =
    record { script = own_after s.script p; entries = entries_with tell s.script.header s.entries (act_in these p) }

-- what a line comes to
abbrev pub outcome : {A E : Type 0} → OwnActs A → Telling A E → OwnState E → Result (OwnParsed A) Cause
    → Outcome (OwnState E)
outcome these tell s (Ok p) =
    goes (state_after these tell s p) (told_with tell s.script.header s.entries (act_in these p))
outcome these tell s (Err cause) = stops (tell.fault (fault_at s.script cause))

-- what the end comes to, where the text may not end so
abbrev pub closing : {A E : Type 0} → Telling A E → OwnState E → Option Cause → Closing
closing tell s None = record { may_go_on = may_go_on None; text = tell.holdings s.script.header s.entries; status = 0 }
closing tell s (Some cause) =
    record { may_go_on = may_go_on (Some cause); text = tell.fault (fault_at s.script cause); status = 1 }

-- no good line has more than 4,097 bytes, with its byte 10
unfoldable pub bytes_before : State → ℕ
unfolding number_of
bytes_before s = 4097 * (number_of s - 1)

-- what each line comes to
abbrev pub own_rules : {A E : Type 0} → OwnActs A → Telling A E → Rules (OwnState E)
own_rules these tell = record {
  start = record { script = start these.dialect; entries = [] };
  line = λ s line. outcome these tell s (own_line these s.script line);
  close = λ s rest. closing tell s (close_at s.script rest);
  bytes = λ s. bytes_before s.script;
  most = 840704400;
  longest = 4096;
}
