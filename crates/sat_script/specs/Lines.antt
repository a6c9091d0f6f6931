-- What the calls of a reader of lines do.
use Rattle.std.specs.Prelude.{ℕ, ◌≡◌, ◌≢◌, true, false, List, [], ◌∷◌, ◌++◌, Some, None, Ok, Err, MatchResult}
use Rattle.std.specs.declared.option.Option.{Option}
use Rattle.std.specs.declared.result.Result.{Result}
use Rattle.sat_tree.specs.Shape.{TreeShape}
use Rattle.sat_act.specs.declared.act.Act.{Act}
use Rattle.sat_script.specs.Grammar.{is_tree, line_at, close_at, after, told_line}
use Rattle.sat_script.specs.State.{State, Seen, number_of}
use Rattle.sat_script.specs.declared.fault.Cause.{Cause}
use Rattle.sat_script.specs.declared.fault.Cause.TheVariants.{Memory}
use Rattle.sat_script.specs.declared.fault.ScriptFault.{ScriptFault}
use Rattle.sat_script.specs.declared.line.Line.{Line}
use Rattle.sat_script.specs.declared.line.Line.TheVariants as line
use Rattle.sat_script.specs.declared.line.Parsed.{Parsed}

-- the call answers this, or want of memory
abbrev pub Gives : {T : Type 0} → Result T Cause → Result T Cause → Type 0
Gives (Ok x) said = said ≡ Ok x
Gives (Err cause) said = cause ≢ Memory → said ≡ Err cause

-- a tree of so many sites, or none where it isn't one
abbrev pub IsTreeOf : ℕ → TreeShape → Option TreeShape → Type 0
IsTreeOf sites t None = is_tree sites t ≡ false
IsTreeOf sites t (Some made) = (made ≡ t) × (is_tree sites t ≡ true)

-- the acts that are known with what a good line says
abbrev pub acts_with : List Act → Line → List Act
acts_with acts (line.Act a) = acts ++ a ∷ []
acts_with acts _ = acts

-- the reader goes on in this state, or stays in it with this fault
abbrev pub running : State → Seen
running s = record { state = s; fault = None }

abbrev pub failed : State → ScriptFault → Seen
failed s fault = record { state = s; fault = Some fault }

-- the next line has this fault, or memory ran out there
pub record IsFaultOf (s : State) (bytes : List ℕ) (fault : ScriptFault) : Type 0 where
  pub line : fault.line ≡ number_of s
  pub cause : fault.cause ≢ Memory → line_at s bytes ≡ Err fault.cause

-- the next line says this
pub record IsGoodLine (s : State) (bytes : List ℕ) (line : Line) (new : Seen) : Type 0 where
  pub says : Parsed
  pub good : line_at s bytes ≡ Ok says
  pub told : line ≡ told_line says
  pub goes : new ≡ running (after s says)

abbrev pub TakesFresh : State → Seen → Result Line ScriptFault → List ℕ → Type 0
TakesFresh s new result bytes = MatchResult result
    (λ line. IsGoodLine s bytes line new)
    (λ fault. IsFaultOf s bytes fault × (new ≡ failed s fault))

-- a call of `line`: a fault that was answered is answered again
abbrev pub Takes : Option ScriptFault → State → Seen → Result Line ScriptFault → List ℕ → Type 0
Takes None s new result bytes = TakesFresh s new result bytes
Takes (Some fault) s new result bytes = (result ≡ Err fault) × (new ≡ failed s fault)

abbrev pub ClosesFresh : State → Seen → Result (Unit {0}) ScriptFault → List ℕ → Type 0
ClosesFresh s new result rest = MatchResult result
    (λ _. (close_at s rest ≡ None) × (new ≡ running s))
    (λ fault. (fault.line ≡ number_of s) × (close_at s rest ≡ Some fault.cause) × (new ≡ failed s fault))

-- a call of `close`
abbrev pub Closes : Option ScriptFault → State → Seen → Result (Unit {0}) ScriptFault → List ℕ → Type 0
Closes None s new result rest = ClosesFresh s new result rest
Closes (Some fault) s new result rest = (result ≡ Err fault) × (new ≡ failed s fault)
