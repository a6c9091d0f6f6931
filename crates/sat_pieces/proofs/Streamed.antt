-- A run under way, and what it comes to.
use Rattle.std.proofs.Common.{◌≡◌, ◌≤◌, ◌+◌, ℕ, zero, suc, false, List, [], ◌∷◌, ◌++◌, length, take, Option, Some, None, refl, sym, ap, subst, ◌∙◌, arith}
use Rattle.std.specs.Prelude.{◌≢◌, Ok, Err, IfSome, IfOk, OnOk, OnErr, IsErrOf}
use Rattle.std.specs.declared.result.Result.{Result}
use Rattle.std.specs.Io.KnownBytes.{Consumes, IsAtEnd}
use Rattle.std.proofs.lemmas.List.{append-nil, append_assoc, length-append}
use Rattle.sat_outside.specs.Streams.{Told, Takes}
use Rattle.sat_act.specs.declared.act.Act.{Act}
use Rattle.sat_act.specs.Deployed.{Deployed}
use Rattle.sat_act.specs.Limits.{IsDeployment}
use Rattle.sat_world.specs.Seen.{WorldSeen}
use Rattle.sat_report.specs.Answers.{answers}
use Rattle.sat_stream.specs.Laws.{IsSound}
use Rattle.sat_script.specs.Grammar.{close_in}
use Rattle.sat_stream.specs.Reading.{reading, script_from}
use Rattle.sat_script.specs.Spelled.{AreActsOf, HaveNames}
use Rattle.sat_script.specs.State.{number_of}
use Rattle.sat_stream.specs.Stream.{Came, will_be, known_fault, bytes_of, behind, drained, LacksOnlyItsEnd}
use Rattle.sat_script.specs.declared.fault.ScriptFault.{ScriptFault}
use Rattle.sat_script.specs.declared.limits.TheConstants.{MOST_ACTS}
use Rattle.sat_stream.specs.declared.stream.Reading.{Reading}
use Rattle.sat_stream.proofs.Drained.{ends_as, few_read}
use Rattle.sat_follow.specs.declared.pieces.Halt.{Halt}
use Rattle.sat_follow.specs.declared.pieces.Halt.TheVariants.{Source, Sink, Memory}
use Rattle.sat_pieces.specs.Good.{EveryReadingIsGood}
use Rattle.sat_runs.specs.Runs.{history, run_text, ending}
use Rattle.sat_follow.specs.declared.pieces.TheConstants.{BUFFER_BYTES}
use Rattle.sat_pieces.specs.Streaming.{answers_under, answers_text, HasAnswered, HasFront, IsReported, WasAnswering, StopsReading, run_status}
use Rattle.sat_follow.specs.Following.{IsTextOf, TakesFront}
use Rattle.sat_runs.proofs.Good.{TheLaws, runs, all_front}
use Rattle.sat_pieces.proofs.Progress.{HasRead, consumes_more, read_start, read_more, read_whole, read_enough, rest_of}
use Rattle.sat_pieces.proofs.Faults.{has_fault}
use Rattle.sat_pieces.proofs.Ran.{at_some, front, ran, zero_fault}
use Rattle.sat_runs.proofs.Running.{answers_front}
use Rattle.sat_pieces.specs.UnderWay.{AtWorld, DoesMore, Ends, EndsBefore, IsKnown, IsWorldOf}

-- what was read so far, and the answers of the acts in it
pub record IsUnder (before now : Option (List ℕ)) (n : ℕ) (r : Came) (w : Option WorldSeen) (count : ℕ) (written : List ℕ) : Type 0 where
  pub done : List Act
  pub read : HasRead false before now (λ more. behind done (will_be r more)) n
  pub number : count ≡ length done
  pub world : AtWorld w written done

-- no act is left that was read
pub record IsDrained (r : Came) (w : Option WorldSeen) : Type 0 where
  pub known : IsWorldOf r.lines.deployment w
  pub empty : r.lines.acts ≡ []
  pub stays : (d : Deployed) (more : List ℕ) → r.lines.deployment ≡ Some d → (will_be r more).deployment ≡ Some d
  pub lacks : LacksOnlyItsEnd (will_be r [])

abbrev pub EverySound : Type 0
EverySound = (text : List ℕ) → IsSound false (reading false text)

world_known : (o : Option Deployed) (w : Option WorldSeen) → IsWorldOf o w → IsKnown o w
world_known None None is = tt
world_known None (Some w) is = absurd is
world_known (Some d) None is = tt
world_known (Some d) (Some w) is = ap (λ (d : Deployed). (let o : Option Deployed = Some d in o)) (sym is)

-- ---- a piece is read

pub fed : (b n m : Option (List ℕ)) (k c : ℕ) (r new : Came) (w : Option WorldSeen) (count : ℕ) (written piece : List ℕ) → IsUnder b n k r w count written → Consumes n m piece → ((more : List ℕ) → will_be new more ≡ will_be r (piece ++ more)) → c ≡ length piece
    → IsUnder b m (k + c) new w count written
fed b n m k c r new w count written piece had took same long = record {
  done = had.done;
  read = read_more b n m (λ more. behind had.done (will_be r more)) (λ more. behind had.done (will_be new more)) piece k c had.read took (λ more. ap (behind had.done) (same more)) long;
  number = had.number;
  world = had.world;
}

pub known_fed : (r new : Came) (w : Option WorldSeen) (piece : List ℕ) → IsDrained r w → ((more : List ℕ) → will_be new more ≡ will_be r (piece ++ more)) → IsKnown new.lines.deployment w
known_fed r new None piece had same = tt
known_fed r new (Some w) piece had same =
    sym (ends_as new).0 ∙ ap (λ (x : Reading). x.deployment) (same []) ∙ had.stays w.deployment (piece ++ []) (world_known r.lines.deployment (Some w) had.known)

pub few_under : (b n : Option (List ℕ)) (k : ℕ) (r : Came) (w : Option WorldSeen) (count : ℕ) (written : List ℕ) → EverySound → IsUnder b n k r w count written → count + length r.lines.acts ≤ MOST_ACTS
few_under b n k r w count written sound had =
    let e : length (had.done ++ (will_be r []).acts) ≡ length (reading false (had.read.taken ++ [])).acts = ap (λ (x : Reading). length x.acts) (had.read.means []) in
    let few : length (reading false (had.read.taken ++ [])).acts ≤ MOST_ACTS = few_read false (reading false (had.read.taken ++ [])) (sound (had.read.taken ++ [])) in
    omega (arith, e, few, length-append had.done (will_be r []).acts, ap (λ (acts : List Act). length acts) (ends_as r).1, had.number)

-- ---- its acts are done

pub answered : (b n : Option (List ℕ)) (k : ℕ) (r new : Came) (w v : Option WorldSeen) (count next : ℕ) (written text : List ℕ) (acts : List Act) → IsUnder b n k r w count written
    → ((more : List ℕ) → will_be r more ≡ behind acts (will_be new more)) → next ≡ count + length acts → DoesMore w count acts v text → IsUnder b n k new v next (written ++ text)
answered b n k r new w v count next written text acts had script more does = record {
  done = had.done ++ acts;
  read = record {
    taken = had.read.taken;
    consumed = had.read.consumed;
    means = λ later. again later ∙ had.read.means later;
    counted = had.read.counted;
  };
  number = omega (arith, more, had.number, length-append had.done acts);
  world = does written had.done had.number had.world;
}
  where
    with_acts : Reading → List Act → Reading
    with_acts x all = record { deployment = x.deployment; acts = all; fault = x.fault }

    again : (later : List ℕ) → behind (had.done ++ acts) (will_be new later) ≡ behind had.done (will_be r later)
    again later = ap (with_acts (will_be new later)) (append_assoc had.done acts (will_be new later).acts) ∙ ap (behind had.done) (sym (script later))

pub drained_after : (before r : Came) (w : Option WorldSeen) → r ≡ drained before → IsWorldOf before.lines.deployment w → ((d : Deployed) (more : List ℕ) → before.lines.deployment ≡ Some d → (will_be r more).deployment ≡ Some d)
    → (known_fault before ≡ None → LacksOnlyItsEnd (will_be r [])) → known_fault before ≡ None → IsDrained r w
drained_after before r w is world stays lacks fresh = record {
  known = subst (λ (x : Came). IsWorldOf x.lines.deployment w) (sym is) world;
  empty = ap (λ (x : Came). x.lines.acts) is;
  stays = λ d more at. stays d more (sym (ap (λ (x : Came). x.lines.deployment) is) ∙ at);
  lacks = lacks fresh;
}

pub fresh_after : (before r : Came) → r ≡ drained before → known_fault before ≡ None → known_fault r ≡ None
fresh_after before r is fresh = ap (λ (x : Came). known_fault x) is ∙ fresh

pub bytes_after : (before r : Came) → r ≡ drained before → bytes_of r ≡ bytes_of before
unfolding bytes_of
bytes_after before r is = ap bytes_of is

-- ---- fronts

front_more : (count : ℕ) (xs ys : List ℕ) → (k : ℕ) × (take k (xs ++ ys) ≡ take count xs)
front_more zero xs ys = (0, refl)
front_more (suc count) [] ys = (0, refl)
front_more (suc count) (x ∷ xs) ys = let k = front_more count xs ys in (suc k.0, ap (λ zs. x ∷ zs) k.1)

all_taken : (xs : List ℕ) → take (length xs) xs ≡ xs
all_taken [] = refl
all_taken (x ∷ xs) = ap (λ zs. x ∷ zs) (all_taken xs)

pub takes_on : (a b c : Told) (xs ys : List ℕ) → Takes a b xs → Takes b c ys → Takes a c (xs ++ ys)
takes_on a b c xs ys h k more = k more ∙ h (ys ++ more) ∙ ap a (sym (append_assoc xs ys more))

take_beyond : (count : ℕ) (xs ys : List ℕ) → take (length xs + count) (xs ++ ys) ≡ xs ++ take count ys
take_beyond count [] ys = let e : 0 + count ≡ count = omega arith in ap (λ n. take n ys) e
take_beyond count (x ∷ xs) ys = let e : length (x ∷ xs) + count ≡ suc (length xs + count) = omega arith in rw e (ap (λ zs. x ∷ zs) (take_beyond count xs ys))

pub front_on : (a b c : Told) (xs ys : List ℕ) → Takes a b xs → TakesFront b c ys → TakesFront a c (xs ++ ys)
front_on a b c xs ys h k = (length xs + k.0, subst (λ (bytes : List ℕ). Takes a c bytes) (sym (take_beyond k.0 xs ys)) (takes_on a b c xs (take k.0 ys) h k.1))

pub front_whole : (a b : Told) (xs : List ℕ) → Takes a b xs → TakesFront a b xs
front_whole a b xs h = (length xs, subst (λ (bytes : List ℕ). Takes a b bytes) (sym (all_taken xs)) h)

front_longer : (a b : Told) (xs ys : List ℕ) → TakesFront a b xs → TakesFront a b (xs ++ ys)
front_longer a b xs ys h = let k = front_more h.0 xs ys in (k.0, subst (λ (bytes : List ℕ). Takes a b bytes) (sym k.1) h.1)

run_some : (r : Reading) (d : Deployed) → r.deployment ≡ Some d → run_text r ≡ answers d (history d r.acts) ++ ending d (history d r.acts) r.fault
unfolding run_text
run_some r d at = rw at refl

-- what was written is a front of what is made of the whole text
tail_of : (w : Option WorldSeen) (written : List ℕ) (done : List Act) (r : Reading) → AtWorld w written done → IsKnown r.deployment w → IfSome r.deployment (λ d. IsDeployment d × HaveNames d × AreActsOf d (done ++ r.acts))
    → (tail : List ℕ) × (run_text (behind done r) ≡ written ++ tail)
tail_of None written done r at known sound = (run_text (behind done r), ap (λ bytes. bytes ++ run_text (behind done r)) (sym at.0))
tail_of (Some w) written done r at known sound =
    let d = w.deployment in
    let acts : AreActsOf d (done ++ r.acts) = (at_some r.deployment d (λ x. IsDeployment x × HaveNames x × AreActsOf x (done ++ r.acts)) sound known).2 in
    let more = answers_front d done r.acts (λ xs ys split. runs d xs (all_front _ xs ys (subst (AreActsOf d) split acts))) in
    let end = ending d (history d (done ++ r.acts)) r.fault in
    (more.0 ++ end, run_some (behind done r) d known ∙ ap (λ bytes. bytes ++ end) (more.1 ∙ ap (λ bytes. bytes ++ more.0) (sym at.answers)) ∙ append_assoc written more.0 end)

pub front_of : (b n : Option (List ℕ)) (k : ℕ) (r : Came) (w : Option WorldSeen) (count : ℕ) (written : List ℕ) (old new : Told) → EverySound → IsUnder b n k r w count written → IsDrained r w → TakesFront old new written → HasFront b old new
front_of b n k r w count written old new sound had now took =
    let rest = rest_of b n had.read.taken had.read.consumed in
    let text = had.read.taken ++ rest.0 in
    let is : behind had.done (will_be r rest.0) ≡ reading false text = had.read.means rest.0 in
    let good = subst (λ (x : Reading). IfSome x.deployment (λ d. IsDeployment d × HaveNames d × AreActsOf d x.acts)) (sym is) (sound text).whole in
    let tail = tail_of w written had.done (will_be r rest.0) had.world (known_then w now) good in
    record {
      text = text;
      whole = rest.1;
      front = subst (λ (bytes : List ℕ). TakesFront old new bytes) (sym tail.1 ∙ ap run_text is) (front_longer old new written tail.0 took);
    }
  where
    known_then : (v : Option WorldSeen) → IsDrained r v → IsKnown (will_be r (rest_of b n had.read.taken had.read.consumed).0).deployment v
    known_then None now = tt
    known_then (Some x) now = now.stays x.deployment _ (world_known r.lines.deployment (Some x) now.known)

-- ---- the source fails

written_is : (o : Option Deployed) (w : Option WorldSeen) (written : List ℕ) (done : List Act) → IsWorldOf o w → AtWorld w written done → answers_under o done ≡ written
written_is None None written done is at = sym at.0
written_is None (Some w) written done is at = absurd is
written_is (Some d) None written done is at = absurd is
written_is (Some d) (Some w) written done is at = ap (λ (x : Deployed). answers x (history x done)) (sym is) ∙ sym at.answers

-- what was written are the answers of all whole lines that were read
pub told_so_far : (b n : Option (List ℕ)) (k : ℕ) (r : Came) (w : Option WorldSeen) (count : ℕ) (written : List ℕ) (had : IsUnder b n k r w count written) → IsDrained r w → written ≡ answers_text (reading false had.read.taken)
told_so_far b n k r w count written had now =
    let is : behind had.done (will_be r []) ≡ reading false had.read.taken = had.read.means [] ∙ ap (reading false) (append-nil had.read.taken) in
    let deploys : r.lines.deployment ≡ (reading false had.read.taken).deployment = sym (ends_as r).0 ∙ ap (λ (x : Reading). x.deployment) is in
    let acts : had.done ≡ (reading false had.read.taken).acts = sym (append-nil had.done) ∙ ap (λ (xs : List Act). had.done ++ xs) (sym now.empty ∙ sym (ends_as r).1) ∙ ap (λ (x : Reading). x.acts) is in
    sym (written_is r.lines.deployment w written had.done now.known had.world) ∙ ap (λ (o : Option Deployed). answers_under o had.done) deploys ∙ ap (λ (xs : List Act). answers_under (reading false had.read.taken).deployment xs) acts

pub has_answered : (b n : Option (List ℕ)) (k : ℕ) (r : Came) (w : Option WorldSeen) (count : ℕ) (written : List ℕ) (old new : Told) → EverySound → TheLaws → IsUnder b n k r w count written → IsDrained r w → Takes old new written → HasAnswered b n old new
has_answered b n k r w count written old new sound laws had now took =
    let is : behind had.done (will_be r []) ≡ reading false had.read.taken = had.read.means [] ∙ ap (reading false) (append-nil had.read.taken) in
    record {
      taken = had.read.taken;
      consumed = had.read.consumed;
      lacks = subst LacksOnlyItsEnd is now.lacks;
      written = subst (λ (bytes : List ℕ). Takes old new bytes) (told_so_far b n k r w count written had now) took;
      good = front had.read.taken (reading false had.read.taken) laws (sound had.read.taken).whole refl;
    }

-- ---- no more is read

pub stops_reading : (b n m : Option (List ℕ)) (k : ℕ) (r : Came) (w : Option WorldSeen) (count : ℕ) (written piece : List ℕ) → IsUnder b n k r w count written → IsDrained r w → Consumes n m piece → length piece ≤ BUFFER_BYTES → StopsReading false b m
stops_reading b n m k r w count written piece had now took few =
    let is : behind had.done (will_be r []) ≡ reading false had.read.taken = had.read.means [] ∙ ap (reading false) (append-nil had.read.taken) in
    record {
      before = had.read.taken;
      piece = piece;
      consumed = consumes_more b n m had.read.taken piece had.read.consumed took;
      one = few;
      lacks = subst LacksOnlyItsEnd is now.lacks;
    }

-- ---- it stops while a piece is done

pub was_answering : (b n m : Option (List ℕ)) (k : ℕ) (r : Came) (w : Option WorldSeen) (count : ℕ) (written piece rest : List ℕ) (old new : Told) → IsUnder b n k r w count written → IsDrained r w → Consumes n m piece → length piece ≤ BUFFER_BYTES → Takes old new (written ++ rest)
    → WasAnswering b m old new
was_answering b n m k r w count written piece rest old new had now took few wrote = record {
  before = had.read.taken;
  piece = piece;
  consumed = consumes_more b n m had.read.taken piece had.read.consumed took;
  one = few;
  rest = rest;
  written = subst (λ (bytes : List ℕ). Takes old new (bytes ++ rest)) (told_so_far b n k r w count written had now) wrote;
}

-- nothing was written of the piece
pub stopped_before : (b n m : Option (List ℕ)) (k : ℕ) (r : Came) (w : Option WorldSeen) (count : ℕ) (written piece : List ℕ) (old new : Told) → IsUnder b n k r w count written → IsDrained r w → Consumes n m piece → length piece ≤ BUFFER_BYTES → Takes old new written
    → WasAnswering b m old new
stopped_before b n m k r w count written piece old new had now took few wrote =
    was_answering b n m k r w count written piece [] old new had now took few (subst (λ (bytes : List ℕ). Takes old new bytes) (sym (append-nil written)) wrote)

-- a front of its answers was
pub stopped_in : (b n m : Option (List ℕ)) (k : ℕ) (r : Came) (w : Option WorldSeen) (count : ℕ) (written piece text : List ℕ) (old mid new : Told) → IsUnder b n k r w count written → IsDrained r w → Consumes n m piece → length piece ≤ BUFFER_BYTES → Takes old mid written
    → TakesFront mid new text → WasAnswering b m old new
stopped_in b n m k r w count written piece text old mid new had now took few wrote more =
    was_answering b n m k r w count written piece (take more.0 text) old new had now took few (takes_on old mid new written (take more.0 text) wrote more.1)

-- a front of what is written at the end was
pub stopped_at_end : (b n m : Option (List ℕ)) (k : ℕ) (r : Came) (w : Option WorldSeen) (count : ℕ) (written piece : List ℕ) (found : Reading) (old mid new : Told) → IsUnder b n k r w count written → IsDrained r w → Consumes n m piece → length piece ≤ BUFFER_BYTES
    → Takes old mid written → EndsBefore w count found mid new → WasAnswering b m old new
stopped_at_end b n m k r w count written piece found old mid new had now took few wrote ends =
    let rest = ends written had.done had.number had.world in
    stopped_in b n m k r w count written piece rest.0 old mid new had now took few wrote rest.1

-- ---- the end

pub record IsAtItsEnd (b : Option (List ℕ)) (found : Reading) (w : Option WorldSeen) (count : ℕ) (written : List ℕ) : Type 0 where
  pub done : List Act
  pub text : List ℕ
  pub whole : IsTextOf b text
  pub is : reading false text ≡ behind done found
  pub number : count ≡ length done
  pub world : AtWorld w written done

pub ends_whole : (b n : Option (List ℕ)) (k : ℕ) (r : Came) (w : Option WorldSeen) (count : ℕ) (written : List ℕ) (found : Reading) → IsUnder b n k r w count written → IsAtEnd n → found ≡ will_be r [] → IsAtItsEnd b found w count written
ends_whole b n k r w count written found had end is =
    let t = read_whole b n (λ more. behind had.done (will_be r more)) (behind had.done found) k had.read end (ap (behind had.done) is) in
    record { done = had.done; text = t.0; whole = t.1; is = t.2; number = had.number; world = had.world }

pub ends_early : (b n : Option (List ℕ)) (k : ℕ) (r : Came) (w : Option WorldSeen) (count : ℕ) (written : List ℕ) (found : Reading) → IsUnder b n k r w count written → ((more : List ℕ) → will_be r more ≡ will_be r []) → found ≡ will_be r [] → IsAtItsEnd b found w count written
ends_early b n k r w count written found had settled is =
    let t = read_enough b n (λ more. behind had.done (will_be r more)) (behind had.done found) k had.read (λ more. ap (behind had.done) (settled more)) (ap (behind had.done) is) in
    record { done = had.done; text = t.0; whole = t.1; is = t.2; number = had.number; world = had.world }

pub ended : (b : Option (List ℕ)) (found : Reading) (w : Option WorldSeen) (count : ℕ) (written : List ℕ) (status : ℕ) (old mid new : Told) → EveryReadingIsGood → EverySound → TheLaws → IsAtItsEnd b found w count written → Takes old mid written → Ends w count found mid new
    → status ≡ run_status found.fault → (text : List ℕ) × IsReported b text status × Takes old new text
ended b found w count written status old mid new law sound laws had took ends means =
    let rest = ends written had.done had.number had.world in
    let good = subst (λ (x : Reading). IfSome x.deployment (λ d. IsDeployment d × HaveNames d × AreActsOf d x.acts)) had.is (sound had.text).whole in
    (written ++ rest.0, ran b (behind had.done found) (written ++ rest.0) status law laws good (had.text, had.whole, had.is) rest.2 means, takes_on old mid new written rest.0 took rest.1)

pub ended_before : (b : Option (List ℕ)) (found : Reading) (w : Option WorldSeen) (count : ℕ) (written : List ℕ) (old mid new : Told) → IsAtItsEnd b found w count written → Takes old mid written → EndsBefore w count found mid new → HasFront b old new
ended_before b found w count written old mid new had took ends =
    let rest = ends written had.done had.number had.world in
    record { text = had.text; whole = had.whole; front = subst (λ (bytes : List ℕ). TakesFront old new bytes) (rest.2 ∙ ap run_text (sym had.is)) (front_on old mid new written rest.0 took rest.1) }

-- ---- what the last call answers

pub still_under : (b n m : Option (List ℕ)) (k : ℕ) (r : Came) (w : Option WorldSeen) (count : ℕ) (written : List ℕ) → IsUnder b n k r w count written → Consumes n m [] → IsUnder b m (k + 0) r w count written
still_under b n m k r w count written had took = fed b n m k 0 r r w count written [] had took (λ more. refl) refl

pub known_at_end : (r : Came) (w : Option WorldSeen) (found : Reading) → IsKnown r.lines.deployment w → found ≡ will_be r [] → IsKnown found.deployment w
known_at_end r w found known is = subst (λ (o : Option Deployed). IsKnown o w) (sym (ends_as r).0 ∙ sym (ap (λ (x : Reading). x.deployment) is)) known

pub few_at_end : (r : Came) (count : ℕ) (found : Reading) → count + length r.lines.acts ≤ MOST_ACTS → found ≡ will_be r [] → count + length found.acts ≤ MOST_ACTS
few_at_end r count found few is = omega (arith, few, ap (λ (acts : List Act). length acts) (ends_as r).1, ap (λ (x : Reading). length x.acts) is)

takes_nothing : (a b c : Told) (xs : List ℕ) → Takes a b xs → Takes b c [] → Takes a c xs
takes_nothing a b c xs h k = subst (λ (bytes : List ℕ). Takes a c bytes) (append-nil xs) (takes_on a b c xs [] h k)

pub ok_ended : (b : Option (List ℕ)) (found : Reading) (w : Option WorldSeen) (count : ℕ) (written : List ℕ) (result : Result ℕ Halt) (old mid new : Told) → EveryReadingIsGood → EverySound → TheLaws → IsAtItsEnd b found w count written → Takes old mid written
    → IfOk result (λ status. status ≡ run_status found.fault) → OnOk result (Ends w count found mid new) → IfOk result (λ status. (text : List ℕ) × IsReported b text status × Takes old new text)
ok_ended b found w count written (Ok status) old mid new law sound laws had took means ends = ended b found w count written status old mid new law sound laws had took ends means
ok_ended b found w count written (Err why) old mid new law sound laws had took means ends = tt

pub err_front : (b n : Option (List ℕ)) (k : ℕ) (r : Came) (found : Reading) (w : Option WorldSeen) (count : ℕ) (written : List ℕ) (result : Result ℕ Halt) (old mid new : Told) → EverySound → IsUnder b n k r w count written → IsDrained r w → IsAtItsEnd b found w count written → Takes old mid written
    → (IsErrOf result Sink → EndsBefore w count found mid new) → (IsErrOf result Memory → Takes mid new []) → result ≢ Err Source → OnErr result (HasFront b old new)
err_front b n k r found w count written (Ok status) old mid new sound had now end took front nothing causes = tt
err_front b n k r found w count written (Err Sink) old mid new sound had now end took front nothing causes = ended_before b found w count written old mid new end took (front refl)
err_front b n k r found w count written (Err Memory) old mid new sound had now end took front nothing causes =
    front_of b n k r w count written old new sound had now (front_whole old new written (takes_nothing old mid new written took (nothing refl)))
err_front b n k r found w count written (Err Source) old mid new sound had now end took front nothing causes = absurd (causes refl)

pub err_stopped : (b n m : Option (List ℕ)) (k : ℕ) (r : Came) (found : Reading) (w : Option WorldSeen) (count : ℕ) (written piece : List ℕ) (result : Result ℕ Halt) (old mid new : Told) → IsUnder b n k r w count written → IsDrained r w → Consumes n m piece → length piece ≤ BUFFER_BYTES → Takes old mid written
    → (IsErrOf result Sink → EndsBefore w count found mid new) → (IsErrOf result Memory → Takes mid new []) → result ≢ Err Source → OnErr result (WasAnswering b m old new)
err_stopped b n m k r found w count written piece (Ok status) old mid new had now read few took front nothing causes = tt
err_stopped b n m k r found w count written piece (Err Sink) old mid new had now read few took front nothing causes = stopped_at_end b n m k r w count written piece found old mid new had now read few took (front refl)
err_stopped b n m k r found w count written piece (Err Memory) old mid new had now read few took front nothing causes =
    stopped_before b n m k r w count written piece old new had now read few (takes_nothing old mid new written took (nothing refl))
err_stopped b n m k r found w count written piece (Err Source) old mid new had now read few took front nothing causes = absurd (causes refl)

pub not_done : (r : Came) (fault : ScriptFault) (found : Reading) (result : Result ℕ Halt) (P : Type 0) → known_fault r ≡ Some fault → found ≡ will_be r [] → IfOk result (λ status. status ≡ run_status found.fault) → IfOk result (λ status. status ≡ 0 → P)
not_done r fault found (Ok status) P known is means = λ done. has_fault r fault found P known is (zero_fault found.fault status means done)
not_done r fault found (Err why) P known is means = tt

-- ---- the start

nothing_read : ((reading false []).deployment ≡ None) × ((reading false []).acts ≡ []) × LacksOnlyItsEnd (reading false [])
unfolding reading script_from close_in number_of
nothing_read = (refl, refl, refl)

pub under_start : (b : Option (List ℕ)) (r : Came) → ((text : List ℕ) → will_be r text ≡ reading false text) → IsUnder b b 0 r None 0 []
under_start b r script = record { done = []; read = read_start b (λ more. behind [] (will_be r more)) script; number = refl; world = (refl, refl) }

pub drained_start : (r : Came) → ((text : List ℕ) → will_be r text ≡ reading false text) → IsDrained r None
drained_start r script =
    let none : r.lines.deployment ≡ None = sym (ends_as r).0 ∙ ap (λ (x : Reading). x.deployment) (script []) ∙ nothing_read.0 in record {
      known = subst (λ (o : Option Deployed). IsWorldOf o None) (sym none) tt;
      empty = sym (ends_as r).1 ∙ ap (λ (x : Reading). x.acts) (script []) ∙ nothing_read.1;
      stays = λ d more e. absurd (let never : None ≡ Some d = sym none ∙ e in cc);
      lacks = subst LacksOnlyItsEnd (sym (script [])) nothing_read.2;
    }
