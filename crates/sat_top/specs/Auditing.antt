-- What the command `audit` makes of a text.
use Rattle.std.specs.Prelude.{ℕ, ◌≡◌, ◌+◌, nat_lt, Bool, true, false, List, length, take, Option, IfSome, Result, Ok}
use Rattle.std.specs.Prelude.{Err, if◌then◌else◌}
use Rattle.sat_outside.specs.Streams.{Told, Takes}
use Rattle.sat_script.specs.State.{header_lines}
use Rattle.sat_script.specs.declared.fault.Cause.TheVariants.{AfterEnd}
use Rattle.sat_script.specs.declared.fault.ScriptFault.{ScriptFault}
use Rattle.sat_report.specs.Faults.{fault_line}
use Rattle.sat_audit.specs.Judging.{is_yes, verdict_of, verdict_text, IsVerdictOf}
use Rattle.sat_audit.specs.Texts.{history_of}
use Rattle.sat_audit.specs.declared.heard.History.{History}
use Rattle.sat_top.specs.declared.auditing.TheConstants.{MOST_HISTORY_BYTES}

-- the line behind the last one of a history
abbrev pub line_behind : History → ℕ
line_behind h = 6 + header_lines h.deployment + length h.heard

-- where more bytes come than are read, no history is good: something stands behind it
abbrev pub cut_off : Result History ScriptFault → Result History ScriptFault
cut_off (Ok h) = Err (record { line = line_behind h; cause = AfterEnd })
cut_off (Err fault) = Err fault

-- the history that a text spells, or its first bad line. Of a text with more bytes than an audit reads, its first ones
-- say it: no history that is good has so many
unfoldable pub heard_in : List ℕ → Result History ScriptFault
unfolding history_of
heard_in text = if nat_lt MOST_HISTORY_BYTES (length text) then cut_off (history_of (take MOST_HISTORY_BYTES text))
    else history_of text

abbrev pub verdict_status : Bool → ℕ
verdict_status true = 0
verdict_status false = 7

-- what is written of a history, or of its first bad line
abbrev pub judged_text : Result History ScriptFault → List ℕ
judged_text (Ok h) = verdict_text (verdict_of h)
judged_text (Err fault) = fault_line fault

abbrev pub judged_status : Result History ScriptFault → ℕ
judged_status (Ok h) = verdict_status (is_yes (verdict_of h))
judged_status (Err fault) = 1

-- what `audit` writes of a text
unfoldable pub audit_text : List ℕ → List ℕ
unfolding heard_in verdict_of verdict_text fault_line
audit_text text = judged_text (heard_in text)

-- the status of `audit` on a text
unfoldable pub audit_status : List ℕ → ℕ
unfolding heard_in verdict_of
audit_status text = judged_status (heard_in text)

-- where the text is a history, the verdict says what is so of it
abbrev pub IsTrueVerdict : List ℕ → Type 0
IsTrueVerdict text = (h : History) → heard_in text ≡ Ok h → IsVerdictOf h (verdict_of h)

-- the output of an audit over a text
pub record IsAudited (input text : List ℕ) (status : ℕ) : Type 0 where
  pub output : text ≡ audit_text input
  pub status_is : status ≡ audit_status input
  pub verdict : IsTrueVerdict input

-- The source's text is a history. The sink took the verdict on it: of each law a yes where it holds, else the least
-- entries that offend; and whether there is a yes for each.
pub record HasVerdict (all : Bool) (left : Option (List ℕ)) (old new : Told) : Type 0 where
  pub text : List ℕ
  pub whole : IfSome left (λ all. all ≡ text)
  pub history : History
  pub read : heard_in text ≡ Ok history
  pub written : Takes old new (verdict_text (verdict_of history))
  pub yes_is : is_yes (verdict_of history) ≡ all
  pub verdict : IsVerdictOf history (verdict_of history)

-- The source's text is no history. The sink took the line of its first fault.
pub record HasHistoryFault (left : Option (List ℕ)) (old new : Told) : Type 0 where
  pub text : List ℕ
  pub whole : IfSome left (λ all. all ≡ text)
  pub fault : ScriptFault
  pub bad : heard_in text ≡ Err fault
  pub written : Takes old new (fault_line fault)
