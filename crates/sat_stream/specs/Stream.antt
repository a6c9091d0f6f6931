-- What a reader of pieces shows.
use Rattle.std.specs.Prelude.{◌==◌, ℕ, ◌≡◌, ◌≢◌, ◌≤◌, ◌+◌, ◌-◌, ◌*◌, List, [], ◌∷◌, ◌++◌, length, ◌&&◌, nat_lt, Some}
use Rattle.std.specs.Prelude.{None, Ok, Err, IfSome, MatchResult, if◌then◌else◌}
use Rattle.std.specs.declared.option.Option.{Option}
use Rattle.std.specs.declared.result.Result.{Result}
use Rattle.std.specs.List.{slice_split}
use Rattle.sat_act.specs.declared.act.Act.{Act}
use Rattle.sat_act.specs.Deployed.{Deployed}
use Rattle.sat_script.specs.Grammar.{is_ended}
use Rattle.sat_stream.specs.Reading.{script_from, stopped}
use Rattle.sat_script.specs.State.{State, Seen, number_of, deployment_of}
use Rattle.sat_script.specs.Words.{is_newline}
use Rattle.sat_script.specs.declared.fault.Cause.{Cause}
use Rattle.sat_script.specs.declared.fault.Cause.TheVariants.{Memory, AfterEnd, LongLine, NoEnd}
use Rattle.sat_script.specs.declared.fault.ScriptFault.{ScriptFault}
use Rattle.sat_stream.specs.declared.stream.Reading.{Reading}
use Rattle.sat_script.specs.declared.limits.TheConstants.{LONGEST_LINE}
use Rattle.sat_stream.specs.declared.limits.TheConstants.{LINE_BYTES, LONG_LINE_BYTES}

-- what the whole lines of a script say that came: the state after them, the fault if one is known, and what the good
-- lines said
pub record WholeLines : Type 0 where
  pub seen : Seen
  pub deployment : Option Deployed
  pub acts : List Act

-- the same by the state alone: the header is the deployment from the line `begin` on
abbrev pub lines_seen : Seen → List Act → WholeLines
lines_seen seen acts = record { seen = seen; deployment = deployment_of seen.state; acts = acts }

-- what has come of a script: whole lines, and the beginning of a line
pub record Came : Type 0 where
  pub lines : WholeLines
  pub begun : List ℕ

-- bytes before the first part
abbrev pub onto_front : List ℕ → List (List ℕ) → List (List ℕ)
onto_front front [] = front ∷ []
onto_front front (part ∷ parts) = (front ++ part) ∷ parts

-- what the text is, where its whole lines so far and the beginning of a line have come, and more comes after it
unfoldable pub goes_on : State → Reading → List ℕ → List ℕ → Reading
unfolding script_from
goes_on s r begun more = script_from s r (onto_front begun (slice_split is_newline more))

-- the same, where a fault may be known
abbrev pub meaning : Option ScriptFault → State → Reading → List ℕ → List ℕ → Reading
meaning None s r begun more = goes_on s r begun more
meaning (Some fault) s r begun more = stopped r fault

-- what good lines said
abbrev pub kept : Option Deployed → List Act → Reading
kept deployment acts = record { deployment = deployment; acts = acts; fault = None }

-- what the text is, where the beginning of a line and more come after whole lines
abbrev pub means : WholeLines → List ℕ → List ℕ → Reading
means l begun more = meaning l.seen.fault l.seen.state (kept l.deployment l.acts) begun more

-- what the text will be, where this text comes after what has come
unfoldable pub will_be : Came → List ℕ → Reading
unfolding goes_on
will_be r more = means r.lines r.begun more

-- the fault of the first bad line, once it has come
abbrev pub known_fault : Came → Option ScriptFault
known_fault r = r.lines.seen.fault

-- after a call: no fault is known, or the one that it told
abbrev pub Knows : {T : Type 0} → Came → Result T ScriptFault → Type 0
Knows r (Ok x) = known_fault r ≡ None
Knows r (Err fault) = known_fault r ≡ Some fault

-- the number of the line that has begun, or that comes next
abbrev pub line_of : Came → ℕ
line_of r = number_of r.lines.seen.state

-- no good line of a format has more bytes, with its byte 10
abbrev pub line_bytes : ℕ → ℕ
line_bytes format = if format == 1 then LINE_BYTES else LONG_LINE_BYTES

-- at most as many bytes have come, where no fault is known: a good line has few
unfoldable pub bytes_until : State → ℕ
unfolding number_of
bytes_until s = line_bytes s.header.format * (number_of s - 1)

abbrev pub bytes_before : WholeLines → ℕ
bytes_before l = bytes_until l.seen.state

unfoldable pub bytes_of : Came → ℕ
bytes_of r = bytes_before r.lines + length r.begun

-- ---- acts that are handed out before the end

-- a reading with these acts before its own
abbrev pub behind : List Act → Reading → Reading
behind acts r = record { deployment = r.deployment; acts = acts ++ r.acts; fault = r.fault }

-- the same lines, once the acts were handed out that they said
abbrev pub without_acts : WholeLines → WholeLines
without_acts l = record { seen = l.seen; deployment = l.deployment; acts = [] }

-- the same, once its acts were handed on
abbrev pub drained : Came → Came
drained r = record { lines = without_acts r.lines; begun = r.begun }

-- the text lacks nothing but its end, if that: none of its whole lines is bad
abbrev pub LacksOnlyItsEnd : Reading → Type 0
LacksOnlyItsEnd r = IfSome r.fault (λ fault. fault.cause ≡ NoEnd)

-- ---- a whole line

-- the lines with a fault that is told
abbrev pub stopped_at : WholeLines → ScriptFault → WholeLines
stopped_at l fault =
    record { seen = record { state = l.seen.state; fault = Some fault }; deployment = l.deployment; acts = l.acts }

-- a good line more
pub record GoesOn (old new : WholeLines) (line : List ℕ) : Type 0 where
  pub fresh : new.seen.fault ≡ None
  pub same : (more : List ℕ) → means new [] more ≡ means old line (10 ∷ more)
  pub counted : bytes_before old + length line + 1 ≤ bytes_before new

-- a line that is refused, or for which memory ran out: all but the fault is as before
pub record StopsAt (old new : WholeLines) (bytes : List ℕ) (fault : ScriptFault) : Type 0 where
  pub stays : new ≡ stopped_at old fault
  pub line : fault.line ≡ number_of old.seen.state
  pub same : fault.cause ≢ Memory → (more : List ℕ) → means new bytes more ≡ means old bytes (10 ∷ more)

-- ---- a piece

-- why a line can't go on that is so long with so many bytes more
abbrev pub stuck_with : State → ℕ → ℕ → Option Cause
stuck_with s length more =
    if is_ended s.stage && nat_lt 0 more then Some AfterEnd else
    if nat_lt LONGEST_LINE length then Some LongLine else
    None

-- a piece more
pub record HasTaken (old new : Came) (piece : List ℕ) : Type 0 where
  pub fresh : known_fault new ≡ None
  pub same : (more : List ℕ) → will_be new more ≡ will_be old (piece ++ more)
  pub counted : bytes_of old + length piece ≤ bytes_of new

-- a piece with a bad line, or for which memory ran out
pub record HasStopped (old new : Came) (piece : List ℕ) (fault : ScriptFault) : Type 0 where
  pub knows : known_fault new ≡ Some fault
  pub line : fault.line ≡ line_of new
  pub same : fault.cause ≢ Memory → (more : List ℕ) → will_be new more ≡ will_be old (piece ++ more)

-- a call that takes a piece
abbrev pub TakesPiece : Came → Came → Result (Unit {0}) ScriptFault → List ℕ → Type 0
TakesPiece old new result piece =
    MatchResult result (λ _. HasTaken old new piece) (λ fault. HasStopped old new piece fault)
