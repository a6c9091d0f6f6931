-- The one contract of the top call, over plain values: the words, the status, and what source and sink told before and
-- after.
use Rattle.std.specs.Prelude.{ℕ, ◌≡◌, ◌≤◌, ◌+◌, ◌⊎◌, ◌||◌, ◌==◌, nat_le, Bool, true, false, List, Option, Some, None}
use Rattle.std.specs.Prelude.{length}
use Rattle.std.specs.Io.KnownBytes.{Consumes, IsAtEnd}
use Rattle.sat_outside.specs.Causes.{Rose}
use Rattle.sat_outside.specs.Streams.{Told, Takes}
use Rattle.sat_stream.specs.declared.limits.TheConstants.{MOST_BYTES}
use Rattle.sat_delay.specs.declared.read.TheConstants.{MOST_BYTES as MOST_DELAY_BYTES}
use Rattle.sat_chain_runs.specs.ChainTexts.{chain_meaning}
use Rattle.sat_lasting_runs.specs.LastingTexts.{lasting_meaning}
use Rattle.sat_top.specs.declared.auditing.TheConstants.{MOST_HISTORY_BYTES}
use Rattle.sat_follow.specs.declared.pieces.TheConstants.{BUFFER_BYTES}
use Rattle.sat_top.specs.declared.words.Command.{Command}
use Rattle.sat_top.specs.declared.words.Command.TheVariants.{Run, Draw, Plan, Place, Audit, Chain, Durable}
use Rattle.sat_top.specs.Words.{command_of, is_live}
use Rattle.sat_top.specs.Living.{MeetsLive}
use Rattle.sat_top.specs.Streaming.{WroteBefore, BrokeOff, GaveUp, StopsReadingOf}
use Rattle.sat_follow.specs.Following.{IsTextOf, TakesFront}
use Rattle.sat_top.specs.Whole.{IsDone, IsRefused, IsFound, is_whole, reads, refusal, command_status, command_output}

-- how many bytes a command takes at the most, however many the source has: its longest input, and one piece
abbrev pub most_taken : Option Command → ℕ
most_taken (Some Run) = MOST_BYTES + BUFFER_BYTES
most_taken (Some Draw) = MOST_BYTES + BUFFER_BYTES
most_taken (Some Plan) = MOST_DELAY_BYTES + BUFFER_BYTES
most_taken (Some Place) = MOST_DELAY_BYTES + BUFFER_BYTES
most_taken (Some Audit) = MOST_HISTORY_BYTES + BUFFER_BYTES
most_taken (Some (Chain replicas)) = (chain_meaning replicas).most + BUFFER_BYTES
most_taken (Some Durable) = lasting_meaning.most + BUFFER_BYTES
most_taken _ = 0

-- the statuses of commands
abbrev pub is_command_status : ℕ → Bool
is_command_status status = nat_le status 5 || (status == 7)

-- What the top call does with a command, and with words that are none. `left` is what the source tells that it still
-- gives, `told` what the sink tells that it holds, `failed` and `refused` are the counts of faults of the source and of
-- the sink, and `ends` is how often the source said that none are left; each before the call and after it.
pub record MeetsCommand (command : Option Command) (status : ℕ) (left left_after : Option (List ℕ))
    (told told_after : Told) (failed failed_after refused refused_after ends ends_after : ℕ) : Type 0 where
  -- 0, 1, 2 and 7 say what the words and the text are, and the sink took the whole output
  pub written : is_whole status ≡ true → (text : List ℕ) × IsTextOf left text × (status ≡ command_status command text)
      × Takes told told_after (command_output command text)
  pub end : status ≡ 0 → reads command ≡ true → IsAtEnd left_after
  pub found_end : command ≡ Some Audit → status ≡ 7 → IsAtEnd left_after
  -- the same, status by status and command by command
  pub done : status ≡ 0 → IsDone command left told told_after
  pub bad : status ≡ 1 → IsRefused command left told told_after
  pub found : status ≡ 7 → IsFound command left told told_after
  pub no_command : status ≡ 2 → (command ≡ None) × Takes told told_after refusal
  -- the source fails between two reads: `run`, `chain` and `durable` have written the answers of each whole line that
  -- they read, the others nothing
  pub no_source : status ≡ 3 → Rose failed failed_after × (reads command ≡ true)
      × WroteBefore command left left_after told told_after
  pub no_sink : status ≡ 4 → Rose refused refused_after
      × ((text : List ℕ) × IsTextOf left text × TakesFront told told_after (command_output command text))
  -- where the sink fails or memory runs out, `run`, `chain` and `durable` have written the answers of all that came
  -- before the last piece read
  pub broken : status ≡ 4 → BrokeOff command left left_after told told_after
  pub no_memory : status ≡ 5 → GaveUp command left left_after told told_after
  pub statuses : is_command_status status ≡ true
  -- the bytes taken have a bound
  pub bounded : (taken : List ℕ) × Consumes left left_after taken × (length taken ≤ most_taken command)
  -- and of a script all of them but the last ones, at most a piece, have no bad line among them
  pub stops : StopsReadingOf command left left_after
  -- the source says once at most that none are left: it isn't asked again
  pub once : ends_after ≤ ends + 1
  -- no count of faults falls
  pub later : (failed ≤ failed_after) × (refused ≤ refused_after)
  -- where neither has failed, the status is that of the words and the text, unless memory ran out
  pub complete : (text : List ℕ) → left ≡ Some text → ¬ Rose failed failed_after → ¬ Rose refused refused_after
      → (status ≡ command_status command text) ⊎ (status ≡ 5)

-- what the top call does with `live`, or else with a command
abbrev pub MeetsEither : Bool → Option Command → ℕ → Option (List ℕ) → Option (List ℕ) → Told → Told → ℕ → ℕ → ℕ → ℕ → ℕ
    → ℕ → Type 0
MeetsEither true command status left left_after told told_after failed failed_after refused refused_after ends
    ends_after =
    MeetsLive status left left_after told told_after failed failed_after refused refused_after ends ends_after
MeetsEither false command status left left_after told told_after failed failed_after refused refused_after ends
    ends_after =
    MeetsCommand command status left left_after told told_after failed failed_after refused refused_after
    ends ends_after

-- the same of words
abbrev pub Meets : List (List ℕ) → ℕ → Option (List ℕ) → Option (List ℕ) → Told → Told → ℕ → ℕ → ℕ → ℕ → ℕ → ℕ → Type 0
Meets words status left left_after told told_after failed failed_after refused refused_after ends ends_after =
    MeetsEither (is_live words) (command_of words) status left left_after told told_after failed failed_after refused
    refused_after ends ends_after
