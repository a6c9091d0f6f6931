-- What a text that was followed to its end, or as far as it went, says of the top call. A command that follows its input has one follower
-- and one proof that this does it, `IsFollowed`.
use Rattle.std.proofs.Common.{◌≡◌, ℕ, ◌≤◌, ◌+◌, true, false, List, Option, Some, None, Result, Ok, Err, length, inr, refl, ap, subst, ◌∙◌, arith}
use Rattle.std.specs.Io.KnownBytes.{Consumes, IsAtEnd}
use Rattle.sat_outside.specs.Causes.{Rose}
use Rattle.sat_outside.specs.Streams.{Told, Takes}
use Rattle.sat_follow.specs.Meaning.{Meaning}
use Rattle.sat_follow.specs.Following.{IsTextOf, TakesFront, IsOutput as FollowOutput, StopsReading as FollowStops, HasAnswered as FollowAnswered, HasFront as FollowFront, WasAnswering as FollowAnswering}
use Rattle.sat_follow.specs.HasFollowed.{HasFollowed}
use Rattle.sat_follow.specs.declared.pieces.Halt.{Halt}
use Rattle.sat_follow.specs.declared.pieces.Halt.TheVariants as halt
use Rattle.sat_follow.specs.declared.pieces.TheConstants.{BUFFER_BYTES}
use Rattle.sat_top.specs.declared.words.Command.{Command}
use Rattle.sat_top.specs.declared.words.Command.TheVariants.{Audit}
use Rattle.sat_top.specs.Contract.{most_taken, MeetsCommand}
use Rattle.sat_top.specs.Streaming.{BrokeOff, GaveUp, StopsReadingOf, WroteBefore}
use Rattle.sat_top.specs.UnderWay.{followed_status}
use Rattle.sat_top.specs.Whole.{IsOutput, command_output, reads}
use Rattle.sat_top.proofs.Meetings.{told_met}

-- a follower with this meaning does the command: what the loop says of it is what the contract asks, status by status
pub record IsFollowed (c : Command) (m : Meaning) : Type 0 where
  pub asks : reads (Some c) ≡ true
  pub other : Some c ≡ Some Audit → ⊥
  pub most : m.most + BUFFER_BYTES ≡ most_taken (Some c)
  pub output : (left : Option (List ℕ)) (text : List ℕ) (status : ℕ) → FollowOutput m left text status → IsOutput (Some c) left text status
  pub stops : (left left_after : Option (List ℕ)) → FollowStops m left left_after → StopsReadingOf (Some c) left left_after
  pub wrote : (left left_after : Option (List ℕ)) (old new : Told) → FollowAnswered m left left_after old new → WroteBefore (Some c) left left_after old new
  pub gave : (left left_after : Option (List ℕ)) (old new : Told) → FollowFront m left old new → FollowAnswering m left left_after old new → GaveUp (Some c) left left_after old new
  pub broke : (left left_after : Option (List ℕ)) (old new : Told) → FollowAnswering m left left_after old new → BrokeOff (Some c) left left_after old new
  pub front : (left : Option (List ℕ)) (old new : Told) → FollowFront m left old new → (text : List ℕ) × IsTextOf left text × TakesFront old new (command_output (Some c) text)

module _ (c : Command) (m : Meaning) (does : IsFollowed c m) (left left_after : Option (List ℕ)) (old new : Told) (failed failed_after refused refused_after ends ends_after : ℕ)
    (bounded : (taken : List ℕ) × Consumes left left_after taken × (length taken ≤ m.most + BUFFER_BYTES)) (stops : FollowStops m left left_after)
    (once : ends_after ≤ ends + 1) (later : failed ≤ failed_after) (kept : refused ≤ refused_after) where
  at-most : (taken : List ℕ) × Consumes left left_after taken × (length taken ≤ most_taken (Some c))
  at-most = (bounded.0, bounded.1, subst (λ (n : ℕ). length bounded.0 ≤ n) does.most bounded.2)

  -- to its end
  pub followed_met : (status : ℕ) → (text : List ℕ) × FollowOutput m left text status × Takes old new text → (status ≡ 0 → IsAtEnd left_after) →
      MeetsCommand (Some c) status left left_after old new failed failed_after refused refused_after ends ends_after
  followed_met status said at-end =
      told_met (Some c) status left left_after old new failed failed_after refused refused_after ends ends_after said.0 (does.output left said.0 status said.1) said.2
      (λ zero asks. at-end zero) (λ audit. absurd (does.other audit)) at-most (does.stops left left_after stops) once later kept

  -- until the source failed
  pub followed_no_source : Rose failed failed_after → FollowAnswered m left left_after old new → MeetsCommand (Some c) 3 left left_after old new failed failed_after refused refused_after ends ends_after
  followed_no_source rose answered = record {
    written = λ e. absurd (cc);
    end = λ e asks. absurd (cc);
    found_end = λ e seven. absurd (cc);
    done = λ e. absurd (cc);
    bad = λ e. absurd (cc);
    found = λ e. absurd (cc);
    no_command = λ e. absurd (cc);
    no_source = λ _. (rose, does.asks, does.wrote left left_after old new answered);
    no_sink = λ e. absurd (cc);
    broken = λ e. absurd (cc);
    no_memory = λ e. absurd (cc);
    statuses = refl;
    bounded = at-most;
    stops = does.stops left left_after stops;
    once = once;
    later = (later, kept);
    complete = λ text all never _. absurd (never rose);
  }

  -- until the sink failed
  pub followed_no_sink : Rose refused refused_after → FollowFront m left old new → FollowAnswering m left left_after old new → MeetsCommand (Some c) 4 left left_after old new failed failed_after refused refused_after ends ends_after
  followed_no_sink rose front answering = record {
    written = λ e. absurd (cc);
    end = λ e asks. absurd (cc);
    found_end = λ e seven. absurd (cc);
    done = λ e. absurd (cc);
    bad = λ e. absurd (cc);
    found = λ e. absurd (cc);
    no_command = λ e. absurd (cc);
    no_source = λ e. absurd (cc);
    no_sink = λ _. (rose, does.front left old new front);
    broken = λ _. does.broke left left_after old new answering;
    no_memory = λ e. absurd (cc);
    statuses = refl;
    bounded = at-most;
    stops = does.stops left left_after stops;
    once = once;
    later = (later, kept);
    complete = λ text all _ never. absurd (never rose);
  }

  -- until memory ran out
  pub followed_no_memory : FollowFront m left old new → FollowAnswering m left left_after old new → MeetsCommand (Some c) 5 left left_after old new failed failed_after refused refused_after ends ends_after
  followed_no_memory front answering = record {
    written = λ e. absurd (cc);
    end = λ e asks. absurd (cc);
    found_end = λ e seven. absurd (cc);
    done = λ e. absurd (cc);
    bad = λ e. absurd (cc);
    found = λ e. absurd (cc);
    no_command = λ e. absurd (cc);
    no_source = λ e. absurd (cc);
    no_sink = λ e. absurd (cc);
    broken = λ e. absurd (cc);
    no_memory = λ _. does.gave left left_after old new front answering;
    statuses = refl;
    bounded = at-most;
    stops = does.stops left left_after stops;
    once = once;
    later = (later, kept);
    complete = λ text all _ _. inr refl;
  }

-- whatever came of it
pub has_followed : (c : Command) (m : Meaning) → IsFollowed c m → (result : Result ℕ Halt) (left left_after : Option (List ℕ)) (old new : Told) (failed failed_after refused refused_after ends ends_after : ℕ)
    → HasFollowed m result left left_after old new failed failed_after refused refused_after ends ends_after
    → MeetsCommand (Some c) (followed_status result) left left_after old new failed failed_after refused refused_after ends ends_after
has_followed c m does (Ok status) left left_after old new failed failed_after refused refused_after ends ends_after had =
    followed_met c m does left left_after old new failed failed_after refused refused_after ends ends_after had.bounded had.stops had.once had.later had.kept status had.whole had.end
has_followed c m does (Err halt.Source) left left_after old new failed failed_after refused refused_after ends ends_after had =
    followed_no_source c m does left left_after old new failed failed_after refused refused_after ends ends_after had.bounded had.stops had.once had.later had.kept (had.failed refl) (had.answered refl)
has_followed c m does (Err halt.Sink) left left_after old new failed failed_after refused refused_after ends ends_after had =
    followed_no_sink c m does left left_after old new failed failed_after refused refused_after ends ends_after had.bounded had.stops had.once had.later had.kept (had.refused refl) had.front had.stopped
has_followed c m does (Err halt.Memory) left left_after old new failed failed_after refused refused_after ends ends_after had =
    followed_no_memory c m does left left_after old new failed failed_after refused refused_after ends ends_after had.bounded had.stops had.once had.later had.kept had.front had.stopped
