-- A text that is followed from a source to a sink: what was written before more was read.
use Rattle.std.specs.Prelude.{ℕ, ◌≡◌, ◌≤◌, true, List, ◌++◌, length, take, Option, IfSome}
use Rattle.std.specs.Io.KnownBytes.{Consumes}
use Rattle.sat_outside.specs.Streams.{Told, Takes}
use Rattle.sat_follow.specs.Meaning.{Meaning}
use Rattle.sat_follow.specs.declared.pieces.TheConstants.{BUFFER_BYTES}

-- this is the whole text of the source, where the source tells it
abbrev pub IsTextOf : Option (List ℕ) → List ℕ → Type 0
IsTextOf left text = IfSome left (λ all. all ≡ text)

-- the sink took a front of these bytes
abbrev pub TakesFront : Told → Told → List ℕ → Type 0
TakesFront old new bytes = (count : ℕ) × Takes old new (take count bytes)

-- what is written, and the status, are those of the source's text
pub record IsOutput (m : Meaning) (left : Option (List ℕ)) (text : List ℕ) (status : ℕ) : Type 0 where
  pub input : List ℕ
  pub whole : IsTextOf left input
  pub output : text ≡ m.output input
  pub status_is : status ≡ m.status input

-- The source failed after these bytes. None of the whole lines in them is bad, and the sink took the answers of these
-- lines, and nothing else: each answer was written before more was read.
pub record HasAnswered (m : Meaning) (left left_after : Option (List ℕ)) (old new : Told) : Type 0 where
  pub taken : List ℕ
  pub consumed : Consumes left left_after taken
  pub good : m.good taken ≡ true
  pub written : Takes old new (m.answers taken)

-- The sink took a front of what is made of the source's text.
pub record HasFront (m : Meaning) (left : Option (List ℕ)) (old new : Told) : Type 0 where
  pub text : List ℕ
  pub whole : IsTextOf left text
  pub front : TakesFront old new (m.output text)

-- It stopped while the answers of one piece of the text were made or written: those of each whole line before that
-- piece were written before the piece was read.
pub record WasAnswering (m : Meaning) (left left_after : Option (List ℕ)) (old new : Told) : Type 0 where
  pub before : List ℕ
  pub piece : List ℕ
  pub consumed : Consumes left left_after (before ++ piece)
  pub one : length piece ≤ BUFFER_BYTES
  pub rest : List ℕ
  pub written : Takes old new (m.answers before ++ rest)

-- None of the whole lines of what was read is bad, but in its last bytes, which are at most a piece. So behind a first
-- bad line less than a piece is read. That nothing is read once this line is known is more, and isn't said: a further
-- call could still fill the piece.
pub record StopsReading (m : Meaning) (left left_after : Option (List ℕ)) : Type 0 where
  pub before : List ℕ
  pub piece : List ℕ
  pub consumed : Consumes left left_after (before ++ piece)
  pub one : length piece ≤ BUFFER_BYTES
  pub good : m.good before ≡ true
