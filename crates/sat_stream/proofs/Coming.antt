-- What a reader of pieces keeps.
use Rattle.std.proofs.Common.{◌≡◌, ◌≢◌, ℕ, ◌+◌, ◌≤◌, ◌<◌, Bool, true, false, List, [], ◌∷◌, ◌++◌, length, Option, Some, None, Result, Ok, Err, cond, eqb, ltb, ◌&&◌, ◌⊎◌, sym, ap, ◌∙◌, refl, subst, arith, inl, inr, OnOk, OnErr, IfErr, IsTrue, MatchResult}
use Rattle.std.proofs.lemmas.Bool.{eqb-true, ltb-true, ltb-false}
use Rattle.std.specs.Option.{IfSome}
use Rattle.std.proofs.lemmas.List.{append-nil, append_assoc, length-append}
use Rattle.sat_act.specs.declared.act.Act.{Act}
use Rattle.sat_act.specs.Deployed.{Deployed}
use Rattle.sat_script.specs.declared.dialect.Dialect.{Dialect}
use Rattle.sat_script.specs.Grammar.{line_at, after, next_stage, with_parsed, is_ended, told_line}
use Rattle.sat_script.specs.Kept.{IsFit, IsWhole, HasHeader}
use Rattle.sat_stream.specs.Coming.{HasSaid, AreWhole}
use Rattle.sat_stream.specs.Laws.{IsRead}
use Rattle.sat_script.specs.Lines.{running, failed, acts_with}
use Rattle.sat_stream.specs.Reading.{reading, with_line, stopped, bad}
use Rattle.sat_script.specs.Spelled.{AreActsOf, Spells}
use Rattle.sat_script.specs.State.{State, Seen, number_of, fault_at, deployed_at, deployment_of}
use Rattle.sat_stream.specs.Stream.{WholeLines, lines_seen, Came, means, will_be, bytes_until, bytes_before, bytes_of, known_fault, kept, meaning, stopped_at, stuck_with, GoesOn, StopsAt, HasTaken, HasStopped, TakesPiece, goes_on}
use Rattle.sat_script.specs.Words.{HasNo, IsCut}
use Rattle.sat_script.specs.declared.fault.Cause.{Cause}
use Rattle.sat_script.specs.declared.fault.Cause.TheVariants.{Memory, AfterEnd, LongLine}
use Rattle.sat_script.specs.declared.fault.ScriptFault.{ScriptFault}
use Rattle.sat_script.specs.declared.limits.TheConstants.{LONGEST_LINE}
use Rattle.sat_stream.specs.declared.limits.TheConstants.{MOST_BYTES}
use Rattle.sat_script.specs.declared.line.Parsed.{Parsed}
use Rattle.sat_script.specs.declared.line.Parsed.TheVariants as parsed
use Rattle.sat_script.specs.declared.line.Stage.{Stage}
use Rattle.sat_script.specs.declared.line.Stage.TheVariants as stage
use Rattle.sat_stream.specs.declared.stream.Reading.{Reading}
use Rattle.sat_script.proofs.Choices.{tested}
use Rattle.sat_script.proofs.Fits.{line_is, fit_after}
use Rattle.sat_script.proofs.Stands.{Stands}
use Rattle.sat_stream.proofs.Meaning.{IsStuck, stuck_cause, goes_on-stuck}
use Rattle.sat_stream.proofs.Pieces.{fresh, part_keeps, line_fails, line_goes}
use Rattle.sat_stream.proofs.Whole.{read_spells, line_counted, lines_counted, bytes_within, said_after, few_after}

-- ---- a fault that is known

-- after a fault it matters not what has begun
stopped_same : (l : WholeLines) (begun now more later : List ℕ) (told : ScriptFault) → l.seen.fault ≡ Some told → means l begun more ≡ means l now later
stopped_same l begun now more later told e =
    ap (λ (f : Option ScriptFault). meaning f l.seen.state (kept l.deployment l.acts) begun more) e ∙ sym (ap (λ (f : Option ScriptFault). meaning f l.seen.state (kept l.deployment l.acts) now later) e)

pub after_fault : (r : Came) (told : ScriptFault) → known_fault r ≡ Some told → (more : List ℕ) → will_be r more ≡ will_be r []
unfolding will_be
after_fault r told e more = stopped_same r.lines r.begun r.begun more [] told e

pub stopped_whole : (old new : WholeLines) (told : ScriptFault) → AreWhole old → new ≡ stopped_at old told → AreWhole new
stopped_whole old new told whole e = subst AreWhole (sym e) (record { fit = whole.fit; whole = whole.whole; none = whole.none; few = whole.few; said = λ never. absurd (cc) })

-- ---- a whole line

pub bad_stops : (old new : WholeLines) (line : List ℕ) (told : ScriptFault) (cause : Cause) → new ≡ stopped_at old told → told ≡ fault_at old.seen.state cause → old.seen.fault ≡ None
    → (cause ≢ Memory → line_at old.seen.state line ≡ Err cause) → StopsAt old new line told
bad_stops old new line told cause e is none bad = record {
  stays = e;
  line = ap (λ (f : ScriptFault). f.line) is;
  same = λ not_memory more.
      let other : cause ≢ Memory = λ memory. not_memory (ap (λ (f : ScriptFault). f.cause) is ∙ memory) in
      ap (λ (l : WholeLines). means l line more) e
      ∙ ap (stopped (kept old.deployment old.acts)) is
      ∙ sym (line_fails old.seen.state (kept old.deployment old.acts) line cause (bad other) more)
      ∙ sym (fresh old.seen (kept old.deployment old.acts) line (10 ∷ more) none);
}

pub whole_said : (dialect : Dialect) (here : Stage) (d : Deployed) (deployment : Option Deployed) (acts : List Act) → HasHeader here d → HasSaid dialect here d deployment acts → IfSome deployment (λ d. IsWhole d × AreActsOf d acts) × (deployment ≡ None → acts ≡ [])
whole_said dialect stage.Body d deployment acts kept h = (subst (λ (o : Option Deployed). IfSome o (λ d. IsWhole d × AreActsOf d acts)) (sym h.0) (kept, h.1), λ e. absurd (let never : Some d ≡ None = sym h.0 ∙ e in cc))
whole_said dialect stage.Ended d deployment acts kept h = (subst (λ (o : Option Deployed). IfSome o (λ d. IsWhole d × AreActsOf d acts)) (sym h.0) (kept, h.1), λ e. absurd (let never : Some d ≡ None = sym h.0 ∙ e in cc))
whole_said dialect _ d deployment acts kept h = (subst (λ (o : Option Deployed). IfSome o (λ d. IsWhole d × AreActsOf d acts)) (sym h.0) tt, λ _. h.1)

pub good_goes : (old new : WholeLines) (line : List ℕ) (p : Parsed) → AreWhole old → old.seen.fault ≡ None → line_at old.seen.state line ≡ Ok p
    → new.seen ≡ running (after old.seen.state p) → kept new.deployment new.acts ≡ with_line old.seen.state.header (kept old.deployment old.acts) (told_line p) → GoesOn old new line
good_goes old new line p whole none good goes keeps = record {
  fresh = ap (λ (seen : Seen). seen.fault) goes;
  same = λ more.
      ap (λ (seen : Seen). meaning seen.fault seen.state (kept new.deployment new.acts) [] more) goes
      ∙ ap (λ (r : Reading). meaning None (after old.seen.state p) r [] more) keeps
      ∙ sym (line_goes old.seen.state (kept old.deployment old.acts) line p good more)
      ∙ sym (fresh old.seen (kept old.deployment old.acts) line (10 ∷ more) none);
  counted =
      let more = line_counted old.seen.state line p whole.fit good in
      let at : bytes_until new.seen.state ≡ bytes_until (after old.seen.state p) = ap (λ (seen : Seen). bytes_until seen.state) goes in
      omega arith;
}

pub good_whole : (old new : WholeLines) (line : List ℕ) (p : Parsed) → AreWhole old → old.seen.fault ≡ None → line_at old.seen.state line ≡ Ok p
    → new.seen ≡ running (after old.seen.state p) → kept new.deployment new.acts ≡ with_line old.seen.state.header (kept old.deployment old.acts) (told_line p) → AreWhole new
good_whole old new line p whole none good goes keeps =
    let is = line_is old.seen.state line p whole.fit good in
    let r : Reading = kept old.deployment old.acts in
    let fit = fit_after old.seen.state line p whole.fit good in
    let said = said_after old.seen.state.stage old.seen.state p r is.stands (whole.said none) in
    let few = few_after old.seen.state.header old.seen.state.acts p r whole.few in
    let now_said = subst (λ (r : Reading). HasSaid old.seen.state.dialect (after old.seen.state p).stage (after old.seen.state p).header r.deployment r.acts) (sym keeps) said in
    let now_few = subst (λ (r : Reading). length r.acts ≤ (after old.seen.state p).acts) (sym keeps) few in
    let w = whole_said old.seen.state.dialect (after old.seen.state p).stage (after old.seen.state p).header new.deployment new.acts fit.header now_said in
    let here : AreWhole (record { seen = running (after old.seen.state p); deployment = new.deployment; acts = new.acts }) = record { fit = fit; whole = w.0; none = w.1; few = now_few; said = λ _. now_said } in
    subst (λ (seen : Seen). AreWhole (record { seen = seen; deployment = new.deployment; acts = new.acts })) (sym goes) here

-- what comes of a line that says this, where it is kept or memory runs out
pub record KeptLine (old new : WholeLines) (line : List ℕ) (result : Result (Unit {0}) ScriptFault) : Type 0 where
  pub takes : MatchResult result (λ _. GoesOn old new line) (λ fault. StopsAt old new line fault)
  pub whole : AreWhole new

-- what a good line adds to what was said by then
adds : (here : Stage) (s : State) (p : Parsed) (acts : List Act) → Stands here s p
    → kept (deployed_at (next_stage here p) (with_parsed s.header p)) (acts_with acts (told_line p)) ≡ with_line s.header (kept (deployed_at here s.header) acts) (told_line p)
adds stage.Start s (parsed.Format f) acts h = refl
adds stage.Sites s (parsed.Sites n) acts h = refl
adds stage.Gears s (parsed.Gears n) acts h = refl
adds stage.Header s (parsed.Item item) acts h = refl
adds stage.Header s (parsed.Client line) acts h = refl
adds stage.Header s (parsed.Plan p) acts h = refl
adds stage.Header s parsed.Begin acts h = refl
adds stage.Body s (parsed.Act a) acts h = refl
adds stage.Body s parsed.End acts h = refl
adds _ s _ acts h = absurd h

running_on : (f : Option ScriptFault) (s : State) → f ≡ None → (let seen : Seen = record { state = s; fault = f } in seen) ≡ running s
running_on f s e = ap (λ (f : Option ScriptFault). (let seen : Seen = record { state = s; fault = f } in seen)) e

pub kept_line : (old new : Seen) (acts more : List Act) (line : List ℕ) (p : Parsed) (result : Result (Unit {0}) ScriptFault) → AreWhole (lines_seen old acts) → old.fault ≡ None → line_at old.state line ≡ Ok p
    → OnOk result ((new ≡ record { state = after old.state p; fault = old.fault }) × (more ≡ acts_with acts (told_line p)))
    → IfErr result (λ fault. (fault ≡ fault_at old.state Memory) × (new ≡ failed old.state fault) × (more ≡ acts))
    → KeptLine (lines_seen old acts) (lines_seen new more) line result
kept_line old new acts more line p (Ok x) whole none good ok err =
    let goes = ok.0 ∙ running_on old.fault (after old.state p) none in
    let keeps =
    ap (λ (seen : Seen). kept (deployment_of seen.state) more) goes
    ∙ ap (kept (deployment_of (after old.state p))) ok.1
    ∙ adds old.state.stage old.state p acts (line_is old.state line p whole.fit good).stands in
    let before = lines_seen old acts in
    let now = lines_seen new more in
    record { takes = good_goes before now line p whole none good goes keeps; whole = good_whole before now line p whole none good goes keeps }
kept_line old new acts more line p (Err told) whole none good ok err =
    let before = lines_seen old acts in
    let now = lines_seen new more in
    let stays : now ≡ stopped_at before told = ap (λ (seen : Seen). lines_seen seen more) err.1 ∙ ap (lines_seen (failed old.state told)) err.2 in
    record { takes = bad_stops before now line told Memory stays err.0 none (λ other. absurd (other refl)); whole = stopped_whole before now told whole stays }

-- what comes of such a line, where it is kept or all stays
pub record TakenLine (old new : WholeLines) (line : List ℕ) (done : Bool) : Type 0 where
  pub goes : IsTrue done → GoesOn old new line
  pub stays : done ≡ false → new ≡ old
  pub whole : AreWhole new

pub taken_line : (old new : Seen) (acts more : List Act) (line : List ℕ) (p : Parsed) (done : Bool) → AreWhole (lines_seen old acts) → old.fault ≡ None → line_at old.state line ≡ Ok p
    → (IsTrue done → (new ≡ record { state = after old.state p; fault = old.fault }) × (more ≡ acts_with acts (told_line p)))
    → (done ≡ false → (new ≡ old) × (more ≡ acts))
    → TakenLine (lines_seen old acts) (lines_seen new more) line done
taken_line old new acts more line p true whole none good keeps same =
    let k = kept_line old new acts more line p (Ok tt) whole none good (keeps refl) tt in
    record { goes = λ _. k.takes; stays = λ never. absurd (cc); whole = k.whole }
taken_line old new acts more line p false whole none good keeps same =
    let e : lines_seen new more ≡ lines_seen old acts = ap (λ (seen : Seen). lines_seen seen more) (same refl).0 ∙ ap (lines_seen old) (same refl).1 in
    record { goes = λ never. absurd (cc); stays = λ _. e; whole = subst AreWhole (sym e) whole }

-- ---- pieces

-- one piece after another
pub taken_on : (old mid new : Came) (a b : List ℕ) (result : Result (Unit {0}) ScriptFault) → HasTaken old mid a → TakesPiece mid new result b → TakesPiece old new result (a ++ b)
taken_on old mid new a b (Ok x) first then = record {
  fresh = then.fresh;
  same = λ more. then.same more ∙ first.same (b ++ more) ∙ ap (will_be old) (sym (append_assoc a b more));
  counted = omega (arith, first.counted, then.counted, length-append a b);
}
taken_on old mid new a b (Err told) first then = record {
  knows = then.knows;
  line = then.line;
  same = λ other more. then.same other more ∙ first.same (b ++ more) ∙ ap (will_be old) (sym (append_assoc a b more));
}

pub stopped_on : (old new : Came) (a b : List ℕ) (told : ScriptFault) → HasStopped old new a told → HasStopped old new (a ++ b) told
stopped_on old new a b told stops = record {
  knows = stops.knows;
  line = stops.line;
  same = λ other more.
      after_fault new told stops.knows more ∙ sym (after_fault new told stops.knows (b ++ more)) ∙ stops.same other (b ++ more) ∙ ap (will_be old) (sym (append_assoc a b more));
}

part_means : (l : WholeLines) (begun part more : List ℕ) → l.seen.fault ≡ None → HasNo 10 part → means l (begun ++ part) (10 ∷ more) ≡ means l begun ((part ++ 10 ∷ []) ++ more)
part_means l begun part more none other =
    fresh l.seen (kept l.deployment l.acts) (begun ++ part) (10 ∷ more) none
    ∙ sym (part_keeps l.seen.state (kept l.deployment l.acts) begun part (10 ∷ more) other)
    ∙ ap (goes_on l.seen.state (kept l.deployment l.acts) begun) (sym (append_assoc part (10 ∷ []) more))
    ∙ sym (fresh l.seen (kept l.deployment l.acts) begun ((part ++ 10 ∷ []) ++ more) none)

-- the rest of a line and the byte that ends it
line_takes : (old new : Came) (part now : List ℕ) (result : Result (Unit {0}) ScriptFault) → known_fault old ≡ None → HasNo 10 part → now ≡ old.begun ++ part → OnOk result (new.begun ≡ [])
    → MatchResult result (λ _. GoesOn old.lines new.lines now) (λ fault. StopsAt old.lines new.lines now fault) → TakesPiece old new result (part ++ 10 ∷ [])
unfolding will_be bytes_of
line_takes old new part now (Ok x) none other is empty goes = record {
  fresh = goes.fresh;
  same = λ more.
      ap (λ bs. means new.lines bs more) empty ∙ goes.same more ∙ ap (λ bs. means old.lines bs (10 ∷ more)) is ∙ part_means old.lines old.begun part more none other;
  counted = omega (arith, goes.counted, ap length is, ap length empty, length-append old.begun part, length-append part (10 ∷ []));
}
line_takes old new part now (Err told) none other is empty stops =
    let knows : new.lines.seen.fault ≡ Some told = ap (λ (l : WholeLines). l.seen.fault) stops.stays in record {
      knows = knows;
      line = stops.line ∙ sym (ap (λ (l : WholeLines). number_of l.seen.state) stops.stays);
      same = λ not_memory more.
          stopped_same new.lines new.begun now more more told knows ∙ stops.same not_memory more ∙ ap (λ bs. means old.lines bs (10 ∷ more)) is ∙ part_means old.lines old.begun part more none other;
    }

-- where nothing of the line had come before
pub whole_takes : (old new : Came) (part : List ℕ) (result : Result (Unit {0}) ScriptFault) → known_fault old ≡ None → HasNo 10 part → true ≡ eqb (length old.begun) 0 → new.begun ≡ old.begun
    → MatchResult result (λ _. GoesOn old.lines new.lines part) (λ fault. StopsAt old.lines new.lines part fault) → TakesPiece old new result (part ++ 10 ∷ [])
whole_takes old new part result none other empty same takes =
    let nothing : old.begun ≡ [] = nil old.begun empty in
    line_takes old new part part result none other (sym (ap (λ bs. bs ++ part) nothing)) (kept_so result (same ∙ nothing)) takes
  where
    nil : (bs : List ℕ) → true ≡ eqb (length bs) 0 → bs ≡ []
    nil [] e = refl
    nil (b ∷ bs) e = absurd (let some : length (b ∷ bs) ≡ 0 = eqb-true (length (b ∷ bs)) 0 (sym e) in omega arith)

    kept_so : (result : Result (Unit {0}) ScriptFault) → new.begun ≡ [] → OnOk result (new.begun ≡ [])
    kept_so (Ok x) e = e
    kept_so (Err told) e = tt

-- where the line had come but for the byte that ends it
pub begun_takes : (old new : Came) (result : Result (Unit {0}) ScriptFault) → known_fault old ≡ None → OnOk result (new.begun ≡ [])
    → MatchResult result (λ _. GoesOn old.lines new.lines old.begun) (λ fault. StopsAt old.lines new.lines old.begun fault) → TakesPiece old new result (10 ∷ [])
begun_takes old new result none empty takes = line_takes old new [] old.begun result none (λ k d inside. absurd (omega arith)) (sym (append-nil old.begun)) empty takes

-- a line that can't go on
long_at : (n : ℕ) (cause : Cause) → cond (ltb LONGEST_LINE n) (Some LongLine) None ≡ Some cause → (LONGEST_LINE < n) × (LongLine ≡ cause)
long_at n cause h = let t = tested (ltb LONGEST_LINE n) LongLine cause h in (ltb-true LONGEST_LINE n t.0, t.1)

abbrev Stuck : Stage → ℕ → ℕ → Cause → Type 0
Stuck here n m cause = ((LONGEST_LINE < n) ⊎ ((here ≡ stage.Ended) × (0 < m))) × (stuck_cause here ≡ cause)

stuck_long : (here : Stage) (n m : ℕ) (cause : Cause) → LongLine ≡ stuck_cause here → cond (ltb LONGEST_LINE n) (Some LongLine) None ≡ Some cause → Stuck here n m cause
stuck_long here n m cause is h = let l = long_at n cause h in (inl l.0, sym is ∙ l.1)

stuck_at : (here : Stage) (n m : ℕ) (cause : Cause) → n ≤ LONGEST_LINE + m → cond (is_ended here && ltb 0 m) (Some AfterEnd) (cond (ltb LONGEST_LINE n) (Some LongLine) None) ≡ Some cause → Stuck here n m cause
stuck_at stage.Ended n m cause few h = go (ltb 0 m) refl h
  where
    go : (b : Bool) → ltb 0 m ≡ b → cond b (Some AfterEnd) (cond (ltb LONGEST_LINE n) (Some LongLine) None) ≡ Some cause → Stuck stage.Ended n m cause
    go true e h = (inr (refl, ltb-true 0 m e), cc)
    go false e h =
        let long = (long_at n cause h).0 in
        let none : m ≤ 0 = ltb-false 0 m e in
        absurd (omega (arith, long))
stuck_at here n m cause few h = stuck_long here n m cause refl h

-- as long as the line is with the part, it can't go on
grown_stuck : (s : State) (begun part : List ℕ) → (LONGEST_LINE < length begun + length part) ⊎ ((s.stage ≡ stage.Ended) × (0 < length part)) → IsStuck s (begun ++ part)
grown_stuck s begun part (inl long) = inl (omega (arith, length-append begun part))
grown_stuck s begun part (inr (e, some)) = inr (e, omega (arith, length-append begun part))

pub front_stops : (old new : Came) (part : List ℕ) (told : ScriptFault) (cause : Cause) → known_fault old ≡ None → HasNo 10 part → length old.begun ≤ LONGEST_LINE → new.lines ≡ stopped_at old.lines told
    → told ≡ fault_at old.lines.seen.state cause → (cause ≢ Memory → stuck_with old.lines.seen.state (length old.begun + length part) (length part) ≡ Some cause) → HasStopped old new part told
unfolding will_be
front_stops old new part told cause none other short stays is stuck =
    let s = old.lines.seen.state in
    let r : Reading = kept old.lines.deployment old.lines.acts in
    let knows : new.lines.seen.fault ≡ Some told = ap (λ (l : WholeLines). l.seen.fault) stays in record {
      knows = knows;
      line = ap (λ (f : ScriptFault). f.line) is ∙ sym (ap (λ (l : WholeLines). number_of l.seen.state) stays);
      same = λ not_memory more.
          let at = stuck_at s.stage (length old.begun + length part) (length part) cause (omega (arith, short)) (stuck (λ memory. not_memory (ap (λ (f : ScriptFault). f.cause) is ∙ memory))) in
          ap (λ (l : WholeLines). means l new.begun more) stays
          ∙ ap (stopped r) is
          ∙ ap (λ (c : Cause). bad s r c) (sym at.1)
          ∙ sym (goes_on-stuck s r (old.begun ++ part) more (grown_stuck s old.begun part at.0))
          ∙ sym (part_keeps s r old.begun part more other)
          ∙ sym (fresh old.lines.seen r old.begun (part ++ more) none);
    }

-- a piece whose first part has come, and whose next line is bad
pub stopped_within : (first old new : Came) (piece rest line later : List ℕ) (told : ScriptFault) → IsCut 10 rest line later → ((more : List ℕ) → will_be old (rest ++ more) ≡ will_be first (piece ++ more))
    → HasStopped old new (line ++ 10 ∷ []) told → HasStopped first new piece told
stopped_within first old new piece rest line later told c same stops = record {
  knows = stops.knows;
  line = stops.line;
  same = λ not_memory more.
      after_fault new told stops.knows more ∙ sym (after_fault new told stops.knows (later ++ more)) ∙ stops.same not_memory (later ++ more)
      ∙ ap (will_be old) (append_assoc line (10 ∷ []) (later ++ more) ∙ sym (append_assoc line (10 ∷ later) more) ∙ ap (λ bs. bs ++ more) (sym c.whole))
      ∙ same more;
}

-- bytes that are kept make the line longer
pub front_takes : (old new : Came) (part : List ℕ) → known_fault old ≡ None → HasNo 10 part → new.lines ≡ old.lines → new.begun ≡ old.begun ++ part → HasTaken old new part
unfolding will_be bytes_of
front_takes old new part none other same longer = record {
  fresh = ap (λ (l : WholeLines). l.seen.fault) same ∙ none;
  same = λ more.
      ap (λ (l : WholeLines). means l new.begun more) same
      ∙ ap (λ bs. means old.lines bs more) longer
      ∙ fresh old.lines.seen (kept old.lines.deployment old.lines.acts) (old.begun ++ part) more none
      ∙ sym (part_keeps old.lines.seen.state (kept old.lines.deployment old.lines.acts) old.begun part more other)
      ∙ sym (fresh old.lines.seen (kept old.lines.deployment old.lines.acts) old.begun (part ++ more) none);
  counted =
      let at : bytes_before new.lines ≡ bytes_before old.lines = ap (λ (l : WholeLines). bytes_before l) same in
      omega (arith, ap length longer, length-append old.begun part);
}

pub settled_after : (new : Came) (result : Result (Unit {0}) ScriptFault) (old : Came) (piece : List ℕ) → TakesPiece old new result piece → OnErr result ((more : List ℕ) → will_be new more ≡ will_be new [])
settled_after new (Ok x) old piece takes = tt
settled_after new (Err told) old piece takes = after_fault new told takes.knows

-- ---- bounds

pub few_bytes : (r : Came) → IsFit r.lines.seen.state → length r.begun ≤ LONGEST_LINE → bytes_of r ≤ MOST_BYTES
unfolding bytes_of
few_bytes r fit short = omega (arith, lines_counted r.lines.seen.state fit, bytes_within r.lines.seen.state.header.format)

-- ---- a text read at once

pub read_fault : (old new : Came) (live : Bool) (bytes : List ℕ) (told : ScriptFault) → ((text : List ℕ) → will_be old text ≡ reading live text) → ((more : List ℕ) → will_be new more ≡ will_be old (bytes ++ more)) → new.lines.seen.fault ≡ Some told
    → (reading live bytes).fault ≡ Some told
unfolding will_be
read_fault old new live bytes told begins goes known =
    let whole = sym (begins bytes) ∙ ap (will_be old) (sym (append-nil bytes)) ∙ sym (goes []) in
    ap (λ (r : Reading). r.fault) whole ∙ ap (λ (f : Option ScriptFault). (meaning f new.lines.seen.state (kept new.lines.deployment new.lines.acts) new.begun []).fault) known

pub read_whole : (old new : Came) (live : Bool) (bytes : List ℕ) (found : Reading) → ((text : List ℕ) → will_be old text ≡ reading live text) → ((more : List ℕ) → will_be new more ≡ will_be old (bytes ++ more)) → found ≡ will_be new [] → reading live bytes ≡ found
read_whole old new live bytes found begins goes is = sym (begins bytes) ∙ ap (will_be old) (sym (append-nil bytes)) ∙ sym (goes []) ∙ sym is

no_fault : (live : Bool) (bytes : List ℕ) (found : Reading) → reading live bytes ≡ found → found.fault ≡ None → IsRead live found bytes
no_fault live bytes found is none = subst (λ (r : Reading). IsRead live r bytes) is (read_spells live bytes (ap (λ (r : Reading). r.fault) is ∙ none))

-- no fault, and so a deployment
pub some_deployment : (live : Bool) (bytes : List ℕ) (found : Reading) → reading live bytes ≡ found → found.fault ≡ None → found.deployment ≡ None → ⊥
some_deployment live bytes found is none missing =
    let r = no_fault live bytes found is none in
    let never : None ≡ Some r.0 = sym missing ∙ r.1 in cc

pub found_spells : (live : Bool) (bytes : List ℕ) (found : Reading) (d : Deployed) → reading live bytes ≡ found → found.fault ≡ None → found.deployment ≡ Some d → Spells bytes d found.acts
found_spells live bytes found d is none has =
    let r = no_fault live bytes found is none in
    let same : r.0 ≡ d = (let e : Some r.0 ≡ Some d = sym r.1 ∙ has in cc) in
    subst (λ (d : Deployed). Spells bytes d found.acts) same r.2
