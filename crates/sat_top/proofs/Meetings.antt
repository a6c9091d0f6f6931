-- What a run that came to its end says of the top call.
use Rattle.std.proofs.Common.{◌≡◌, ℕ, ◌≤◌, ◌+◌, true, false, List, Option, Some, None, length, inl, sym, ap, subst, ◌∙◌, arith}
use Rattle.std.specs.Io.KnownBytes.{Consumes, IsAtEnd}
use Rattle.sat_outside.specs.Streams.{Told, Takes}
use Rattle.sat_script.specs.declared.fault.ScriptFault.{ScriptFault}
use Rattle.sat_stream.specs.declared.limits.TheConstants.{MOST_BYTES}
use Rattle.sat_follow.specs.declared.pieces.TheConstants.{BUFFER_BYTES}
use Rattle.sat_top.specs.declared.words.Command.{Command}
use Rattle.sat_top.specs.declared.words.Command.TheVariants.{Audit, Run}
use Rattle.sat_top.specs.Contract.{most_taken, MeetsCommand}
use Rattle.sat_pieces.specs.Streaming.{IsReported, StopsReading, run_status}
use Rattle.sat_top.specs.Streaming.{StopsReadingOf}
use Rattle.sat_follow.specs.Following.{IsTextOf}
use Rattle.sat_top.specs.Whole.{IsOutput, command_status, reads}
use Rattle.sat_top.proofs.Done.{has_status, is_done, is_found, is_refused, no_status, two_is}

small : (fault : Option ScriptFault) → run_status fault ≤ 1
small None = omega arith
small (Some fault) = omega arith

-- what a run made is the output of the command `run`
reported : (left : Option (List ℕ)) (text : List ℕ) (status : ℕ) → IsReported left text status → IsOutput (Some Run) left text status
reported left text status r = record { input = r.input; whole = r.whole; output = r.output; status_is = r.status_is; proves = r.proves }

pub met : (status : ℕ) (left left_after : Option (List ℕ)) (old new : Told) (failed failed_after refused refused_after ends ends_after : ℕ) →
    (text : List ℕ) × IsReported left text status × Takes old new text →
    (status ≡ 0 → IsAtEnd left_after) →
    (taken : List ℕ) × Consumes left left_after taken × (length taken ≤ MOST_BYTES + BUFFER_BYTES) →
    StopsReading false left left_after →
    ends_after ≤ ends + 1 →
    failed ≤ failed_after → refused ≤ refused_after →
    MeetsCommand (Some Run) status left left_after old new failed failed_after refused refused_after ends ends_after
met status left left_after old new failed failed_after refused refused_after ends ends_after said at-end bounded stops once later kept =
    let o : IsOutput (Some Run) left said.0 status = reported left said.0 status said.1 in
    let took : Takes old new said.0 = said.2 in
    let low : status ≤ 1 = subst (λ (n : ℕ). n ≤ 1) (sym o.status_is) (small _) in record {
      written = λ _. (o.input, o.whole, o.status_is, subst (λ (bytes : List ℕ). Takes old new bytes) o.output took);
      end = λ is _. at-end is;
      done = λ is. is_done (Some Run) left said.0 status old new o took is;
      bad = λ is. is_refused (Some Run) left said.0 status old new o took is;
      no_command = λ is. absurd (omega (arith, is, low));
      no_source = λ is. absurd (omega (arith, is, low));
      no_sink = λ is. absurd (omega (arith, is, low));
      broken = λ is. absurd (omega (arith, is, low));
      no_memory = λ is. absurd (omega (arith, is, low));
      found = λ is. absurd (omega (arith, is, low));
      found_end = λ none. absurd (cc);
      statuses = has_status (Some Run) left said.0 status o;
      bounded = bounded;
      stops = stops;
      once = once;
      later = (later, kept);
      complete = λ text is _ _.
          let same : text ≡ o.input = subst (λ (l : Option (List ℕ)). IsTextOf l o.input) is o.whole in
          inl (o.status_is ∙ ap (command_status (Some Run)) (sym same));
    }

-- what the other commands say, once their whole output is written
pub told_met : (c : Option Command) (status : ℕ) (left left_after : Option (List ℕ)) (old new : Told) (failed failed_after refused refused_after ends ends_after : ℕ) (text : List ℕ) →
    IsOutput c left text status → Takes old new text →
    (status ≡ 0 → reads c ≡ true → IsAtEnd left_after) →
    (c ≡ Some Audit → status ≡ 7 → IsAtEnd left_after) →
    (taken : List ℕ) × Consumes left left_after taken × (length taken ≤ most_taken c) →
    StopsReadingOf c left left_after →
    ends_after ≤ ends + 1 →
    failed ≤ failed_after → refused ≤ refused_after →
    MeetsCommand c status left left_after old new failed failed_after refused refused_after ends ends_after
told_met c status left left_after old new failed failed_after refused refused_after ends ends_after text o took at-end found-end bounded stops once later kept = record {
  written = λ _. (o.input, o.whole, o.status_is, subst (λ (bytes : List ℕ). Takes old new bytes) o.output took);
  end = λ is asks. at-end is asks;
  found_end = found-end;
  done = λ is. is_done c left text status old new o took is;
  bad = λ is. is_refused c left text status old new o took is;
  found = λ is. is_found c left text status old new o took is;
  no_command = λ is. two_is c left text status old new o took is;
  no_source = λ is. absurd (no_status 3 c left text status o (λ e. cc) (λ e. cc) (λ e. cc) (λ e. cc) is);
  no_sink = λ is. absurd (no_status 4 c left text status o (λ e. cc) (λ e. cc) (λ e. cc) (λ e. cc) is);
  broken = λ is. absurd (no_status 4 c left text status o (λ e. cc) (λ e. cc) (λ e. cc) (λ e. cc) is);
  no_memory = λ is. absurd (no_status 5 c left text status o (λ e. cc) (λ e. cc) (λ e. cc) (λ e. cc) is);
  statuses = has_status c left text status o;
  bounded = bounded;
  stops = stops;
  once = once;
  later = (later, kept);
  complete = λ input is _ _.
      let same : input ≡ o.input = subst (λ (l : Option (List ℕ)). IsTextOf l o.input) is o.whole in
      inl (o.status_is ∙ ap (command_status c) (sym same));
}
