-- What the calls of the reader of histories do.
use Rattle.std.specs.Prelude.{◌≡◌, ◌≢◌, ℕ, List, None, Ok, Err}
use Rattle.sat_act.specs.declared.act.Act.{Act}
use Rattle.sat_script.specs.Grammar.{line_at}
use Rattle.sat_script.specs.State.{State, Seen, fault_at}
use Rattle.sat_script.specs.declared.fault.Cause.{Cause}
use Rattle.sat_script.specs.declared.fault.Cause.TheVariants.{Memory}
use Rattle.sat_script.specs.declared.fault.ScriptFault.{ScriptFault}
use Rattle.sat_script.specs.declared.line.Parsed.TheVariants as parsed
use Rattle.sat_audit.specs.Lines.{Hearing, history_line, with_heard}
use Rattle.sat_audit.specs.declared.heard.Heard.{Heard}
use Rattle.sat_audit.specs.declared.told.Told.{Told}

-- the lines so far, by what the reader of lines and the list beside it show
abbrev pub hearing : State → List Heard → Hearing
hearing s heard = record { script = s; heard = heard }

-- a good line of an act: its first words are this front, which is a good line of a script, and it was told this
pub record IsHeardLine (h : Hearing) (line front : List ℕ) (told : Told) : Type 0 where
  pub act : Act
  pub reads : line_at h.script front ≡ Ok (parsed.Act act)
  pub says : history_line h line ≡ Ok (with_heard h act told)

-- the call answers the cause of the line, or want of memory
abbrev pub IsCauseOf : Hearing → List ℕ → Cause → Type 0
IsCauseOf h line cause = cause ≢ Memory → history_line h line ≡ Err cause

-- a good line, and the lines after it
pub record IsTaken (h : Hearing) (line : List ℕ) (new : Seen) (heard : List Heard) : Type 0 where
  pub fresh : new.fault ≡ None
  pub says : history_line h line ≡ Ok (hearing new.state heard)

-- the fault of a bad line, or want of memory
pub record IsRefused (h : Hearing) (line : List ℕ) (fault : ScriptFault) : Type 0 where
  pub bad : fault.cause ≢ Memory → (fault ≡ fault_at h.script fault.cause) × (history_line h line ≡ Err fault.cause)
