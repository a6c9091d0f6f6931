-- A script that is run piece by piece: what was written before more was read.
use Rattle.std.specs.Prelude.{ℕ, ◌≡◌, ◌≤◌, Bool, false, List, [], ◌++◌, length, Option, Some, None}
use Rattle.std.specs.Io.KnownBytes.{Consumes}
use Rattle.sat_outside.specs.Streams.{Told, Takes}
use Rattle.sat_follow.specs.declared.pieces.TheConstants.{BUFFER_BYTES}
use Rattle.sat_follow.specs.Following.{IsTextOf, TakesFront}
use Rattle.sat_act.specs.declared.act.Act.{Act}
use Rattle.sat_act.specs.Deployed.{Deployed}
use Rattle.sat_report.specs.Answers.{answers}
use Rattle.sat_stream.specs.Reading.{reading}
use Rattle.sat_stream.specs.Stream.{LacksOnlyItsEnd}
use Rattle.sat_stream.specs.declared.stream.Reading.{Reading}
use Rattle.sat_script.specs.declared.fault.ScriptFault.{ScriptFault}
use Rattle.sat_runs.specs.Runs.{history, run_text}
use Rattle.sat_pieces.specs.Good.{IsGoodScript, IsGoodFront}

-- the status of a script: 0, or 1 where it has a bad line
abbrev pub run_status : Option ScriptFault → ℕ
run_status None = 0
run_status (Some fault) = 1

-- the answers of the acts that a text's lines say, before its first bad line; where there is no deployment there are
-- none
abbrev pub answers_under : Option Deployed → List Act → List ℕ
answers_under None acts = []
answers_under (Some d) acts = answers d (history d acts)

abbrev pub answers_text : Reading → List ℕ
answers_text r = answers_under r.deployment r.acts

-- What is to be written, and the status, are those of a run of the source's text; and its history is good.
pub record IsReported (left : Option (List ℕ)) (text : List ℕ) (status : ℕ) : Type 0 where
  pub input : List ℕ
  pub whole : IsTextOf left input
  pub output : text ≡ run_text (reading false input)
  pub status_is : status ≡ run_status (reading false input).fault
  pub proves : (status ≡ 0 → IsGoodScript input) × (status ≡ 1 → IsGoodFront input)

-- The source failed after these bytes. None of the whole lines in them is bad, and the sink took the answers of their
-- acts, and nothing else: each answer was written before more was read. Their history is as good as that of a whole
-- script.
pub record HasAnswered (left left_after : Option (List ℕ)) (old new : Told) : Type 0 where
  pub taken : List ℕ
  pub consumed : Consumes left left_after taken
  pub lacks : LacksOnlyItsEnd (reading false taken)
  pub written : Takes old new (answers_text (reading false taken))
  pub good : IsGoodFront taken

-- The sink took a front of what `run` makes of the source's text.
pub record HasFront (left : Option (List ℕ)) (old new : Told) : Type 0 where
  pub text : List ℕ
  pub whole : IsTextOf left text
  pub front : TakesFront old new (run_text (reading false text))

-- The run stopped while the answers of one piece of the text were made or written: those of each whole line before that
-- piece were written before the piece was read.
pub record WasAnswering (left left_after : Option (List ℕ)) (old new : Told) : Type 0 where
  pub before : List ℕ
  pub piece : List ℕ
  pub consumed : Consumes left left_after (before ++ piece)
  pub one : length piece ≤ BUFFER_BYTES
  pub rest : List ℕ
  pub written : Takes old new (answers_text (reading false before) ++ rest)

-- None of the whole lines of what was read is bad, but in its last bytes, which are at most a piece. So behind a first
-- bad line less than a piece is read. That nothing is read once this line is known is more, and isn't said: a further
-- call could still fill the piece.
pub record StopsReading (live : Bool) (left left_after : Option (List ℕ)) : Type 0 where
  pub before : List ℕ
  pub piece : List ℕ
  pub consumed : Consumes left left_after (before ++ piece)
  pub one : length piece ≤ BUFFER_BYTES
  pub lacks : LacksOnlyItsEnd (reading live before)

-- The source failed after these bytes, and none of the whole lines in them is bad.
pub record HasReadLines (live : Bool) (left left_after : Option (List ℕ)) : Type 0 where
  pub taken : List ℕ
  pub consumed : Consumes left left_after taken
  pub lacks : LacksOnlyItsEnd (reading live taken)
