-- What a text is as a history: the deployment and what was heard, or its first bad line with the cause.
use Rattle.std.specs.Prelude.{ℕ, List, [], ◌∷◌, Option, Some, None, Result, Ok, Err}
use Rattle.std.specs.List.{slice_split}
use Rattle.sat_script.specs.Grammar.{close_at}
use Rattle.sat_script.specs.State.{fault_at, number_of}
use Rattle.sat_script.specs.Words.{is_newline}
use Rattle.sat_script.specs.declared.fault.Cause.{Cause}
use Rattle.sat_script.specs.declared.fault.ScriptFault.{ScriptFault}
use Rattle.sat_audit.specs.Lines.{Hearing, no_lines, history_line}
use Rattle.sat_audit.specs.declared.heard.History.{History}

-- what the end of the text makes of the lines
abbrev pub closed : Hearing → Option Cause → Result History ScriptFault
closed h None = Ok (record { deployment = h.script.header; heard = h.heard })
closed h (Some cause) = Err (fault_at h.script cause)

-- what a line makes of it, where go_on says what the lines after it make
abbrev pub after_line : Hearing → (Hearing → Result History ScriptFault) → Result Hearing Cause
    → Result History ScriptFault
after_line h go_on (Ok later) = go_on later
after_line h go_on (Err cause) = Err (fault_at h.script cause)

-- the lines from there on; the last part has no byte 10 after it
unfoldable pub history_from : Hearing → List (List ℕ) → Result History ScriptFault
unfolding history_line number_of
history_from h [] = closed h (close_at h.script [])
history_from h (rest ∷ []) = closed h (close_at h.script rest)
history_from h (line ∷ part ∷ parts) = after_line h (λ later. history_from later (part ∷ parts)) (history_line h line)

-- what a text is
unfoldable pub history_of : List ℕ → Result History ScriptFault
unfolding history_from
history_of text = history_from no_lines (slice_split is_newline text)
