-- All that the loop says of a text that it followed: the one contract of a call that makes a follower of its own, has
-- the loop follow a text with it, and hands on what came.
use Rattle.std.specs.Prelude.{ℕ, ◌≡◌, ◌≤◌, ◌+◌, List, Option, Result, length, IfOk, OnErr, IsErrOf}
use Rattle.std.specs.Io.KnownBytes.{Consumes, IsAtEnd}
use Rattle.sat_outside.specs.Causes.{Rose}
use Rattle.sat_outside.specs.Streams.{Told, Takes}
use Rattle.sat_follow.specs.Meaning.{Meaning}
use Rattle.sat_follow.specs.Following.{HasAnswered, HasFront, IsOutput, StopsReading, WasAnswering}
use Rattle.sat_follow.specs.declared.pieces.Halt.{Halt}
use Rattle.sat_follow.specs.declared.pieces.Halt.TheVariants as halt
use Rattle.sat_follow.specs.declared.pieces.TheConstants.{BUFFER_BYTES}

-- A text was followed with this meaning, and this came of it. `left` is what the source tells that it still gives,
-- `told` what the sink tells that it holds, `source_faults` and `sink_faults` are how often they failed, and `ends` is
-- how often the source said that nothing is left; each before the text was followed and after it.
pub record HasFollowed (m : Meaning) (result : Result ℕ Halt) (left left_after : Option (List ℕ))
    (told told_after : Told) (source_faults source_faults_after sink_faults sink_faults_after ends ends_after : ℕ) :
    Type 0 where
  pub whole : IfOk result (λ status. (text : List ℕ) × IsOutput m left text status × Takes told told_after text)
  pub end : IfOk result (λ status. status ≡ 0 → IsAtEnd left_after)
  -- the bytes taken have a bound, however much the source has
  pub bounded : (taken : List ℕ) × Consumes left left_after taken × (length taken ≤ m.most + BUFFER_BYTES)
  -- all that is read but the last bytes, at most a piece, has no bad line in it
  pub stops : StopsReading m left left_after
  pub failed : IsErrOf result halt.Source → Rose source_faults source_faults_after
  pub answered : IsErrOf result halt.Source → HasAnswered m left left_after told told_after
  pub refused : IsErrOf result halt.Sink → Rose sink_faults sink_faults_after
  pub front : OnErr result (HasFront m left told told_after)
  pub stopped : OnErr result (WasAnswering m left left_after told told_after)
  pub once : ends_after ≤ ends + 1
  pub later : source_faults ≤ source_faults_after
  pub kept : sink_faults ≤ sink_faults_after
