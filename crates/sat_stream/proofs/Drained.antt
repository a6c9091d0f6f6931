-- Acts that are handed out before the end, and what is read of any text.
use Rattle.std.proofs.Common.{◌≡◌, ℕ, ◌≤◌, Bool, true, false, ltb, List, [], ◌∷◌, length, Option, Some, None, Result, Ok, Err, sym, ap, ◌∙◌, refl, subst, arith}
use Rattle.std.specs.Option.{IfSome}
use Rattle.std.specs.List.{slice_split}
use Rattle.std.proofs.lemmas.List.{append-nil, append_assoc}
use Rattle.std.proofs.lemmas.Bool.Decides.{nat_tests}
use Rattle.sat_act.specs.declared.act.Act.{Act}
use Rattle.sat_act.specs.Deployed.{Deployed}
use Rattle.sat_act.specs.Limits.{IsDeployment}
use Rattle.sat_script.specs.Dialect.{dialect_of, limits_of}
use Rattle.sat_script.specs.Grammar.{line_at, close_at, close_in, after, is_ended, told_line}
use Rattle.sat_script.specs.Kept.{IsFit, IsWhole}
use Rattle.sat_stream.specs.Coming.{HasSaid, AreWhole}
use Rattle.sat_stream.specs.Laws.{IsSound}
use Rattle.sat_stream.specs.Reading.{reading, nothing, script_from, with_line, closed, after_line, good}
use Rattle.sat_script.specs.Spelled.{AreActsOf, HaveNames}
use Rattle.sat_script.specs.State.{State, start}
use Rattle.sat_stream.specs.Stream.{WholeLines, Came, means, will_be, known_fault, kept, meaning, goes_on, onto_front, behind, without_acts, drained, LacksOnlyItsEnd}
use Rattle.sat_script.specs.Words.{is_newline}
use Rattle.sat_script.specs.declared.dialect.Dialect.{Dialect}
use Rattle.sat_script.specs.declared.fault.Cause.{Cause}
use Rattle.sat_script.specs.declared.fault.Cause.TheVariants.{NoEnd}
use Rattle.sat_script.specs.declared.fault.ScriptFault.{ScriptFault}
use Rattle.sat_script.specs.declared.limits.TheConstants.{LONGEST_LINE, MOST_ACTS}
use Rattle.sat_script.specs.declared.line.Line.{Line}
use Rattle.sat_script.specs.declared.line.Line.TheVariants as line
use Rattle.sat_script.specs.declared.line.Parsed.{Parsed}
use Rattle.sat_script.specs.declared.line.Parsed.TheVariants as parsed
use Rattle.sat_script.specs.declared.line.Stage.{Stage}
use Rattle.sat_script.specs.declared.line.Stage.TheVariants as stage
use Rattle.sat_stream.specs.declared.stream.Reading.{Reading}
use Rattle.sat_stream.proofs.Coming.{whole_said}
use Rattle.sat_script.proofs.Fits.{line_is, fit_after, fit_start}
use Rattle.sat_stream.proofs.Meaning.{goes_on-end}
use Rattle.sat_script.proofs.Stands.{Stands, limits_few}
use Rattle.sat_stream.proofs.Whole.{said_after, few_after}

-- ---- acts before the others

line_behind : (d : Deployed) (done : List Act) (r : Reading) (l : Line) → with_line d (behind done r) l ≡ behind done (with_line d r l)
line_behind d done r line.Header = refl
line_behind d done r line.Begin = refl
line_behind d done r (line.Act a) = ap (λ (acts : List Act). (let found : Reading = record { deployment = r.deployment; acts = acts; fault = r.fault } in found)) (append_assoc done r.acts (a ∷ []))
line_behind d done r line.End = refl

closed_behind : (s : State) (done : List Act) (r : Reading) (o : Option Cause) → closed s (behind done r) o ≡ behind done (closed s r o)
closed_behind s done r None = refl
closed_behind s done r (Some cause) = refl

after_behind : (s : State) (done : List Act) (r : Reading) (go_on : State → Reading → Reading) → ((later : State) (more : Reading) → go_on later (behind done more) ≡ behind done (go_on later more)) → (said : Result Parsed Cause)
    → after_line s (behind done r) go_on said ≡ behind done (after_line s r go_on said)
after_behind s done r go_on same (Ok p) = ap (go_on (after s p)) (line_behind s.header done r (told_line p)) ∙ same (after s p) (with_line s.header r (told_line p))
after_behind s done r go_on same (Err cause) = refl

from_behind : (s : State) (done : List Act) (r : Reading) (parts : List (List ℕ)) → script_from s (behind done r) parts ≡ behind done (script_from s r parts)
unfolding script_from
from_behind s done r [] = closed_behind s done r (close_at s [])
from_behind s done r (rest ∷ []) = closed_behind s done r (close_at s rest)
from_behind s done r (line ∷ part ∷ parts) =
    after_behind s done r (λ later more. script_from later more (part ∷ parts)) (λ later more. from_behind later done more (part ∷ parts)) (line_at s line)

meaning_behind : (o : Option ScriptFault) (s : State) (done : List Act) (r : Reading) (begun more : List ℕ) → meaning o s (behind done r) begun more ≡ behind done (meaning o s r begun more)
unfolding goes_on
meaning_behind None s done r begun more = from_behind s done r (onto_front begun (slice_split is_newline more))
meaning_behind (Some fault) s done r begun more = refl

pub drained_means : (l : WholeLines) (begun more : List ℕ) → means l begun more ≡ behind l.acts (means (without_acts l) begun more)
drained_means l begun more =
    ap (λ (acts : List Act). meaning l.seen.fault l.seen.state (kept l.deployment acts) begun more) (sym (append-nil l.acts))
    ∙ meaning_behind l.seen.fault l.seen.state l.acts (kept l.deployment []) begun more

pub drained_will_be : (r : Came) (more : List ℕ) → will_be r more ≡ behind r.lines.acts (will_be (drained r) more)
unfolding will_be
drained_will_be r more = drained_means r.lines r.begun more

-- ---- what is read of any text

record IsSo (s : State) (r : Reading) : Type 0 where
  fit : IsFit s
  said : HasSaid s.dialect s.stage s.header r.deployment r.acts
  few : length r.acts ≤ s.acts

-- and a deployment that is known stays
record IsSoundIn (dialect : Dialect) (old r : Reading) : Type 0 where
  whole : IfSome r.deployment (λ d. IsWhole d × AreActsOf d r.acts)
  none : r.deployment ≡ None → r.acts ≡ []
  few : IfSome r.deployment (λ d. length r.acts ≤ (limits_of dialect d.format).acts)
  stays : (d : Deployed) → old.deployment ≡ Some d → r.deployment ≡ Some d

few_said : (dialect : Dialect) (here : Stage) (d : Deployed) (said : Option Deployed) (acts : List Act) → HasSaid dialect here d said acts → length acts ≤ (limits_of dialect d.format).acts
    → IfSome said (λ d. length acts ≤ (limits_of dialect d.format).acts)
few_said dialect stage.Body d said acts h few = subst (λ (o : Option Deployed). IfSome o (λ d. length acts ≤ (limits_of dialect d.format).acts)) (sym h.0) few
few_said dialect stage.Ended d said acts h few = subst (λ (o : Option Deployed). IfSome o (λ d. length acts ≤ (limits_of dialect d.format).acts)) (sym h.0) few
few_said dialect _ d said acts h few = subst (λ (o : Option Deployed). IfSome o (λ d. length acts ≤ (limits_of dialect d.format).acts)) (sym h.0) tt

so_sound : (s : State) (r : Reading) → IsSo s r → IsSoundIn s.dialect r r
so_sound s r so =
    let w = whole_said s.dialect s.stage s.header r.deployment r.acts so.fit.header so.said in
    record { whole = w.0; none = w.1; few = few_said s.dialect s.stage s.header r.deployment r.acts so.said (omega (arith, so.few, so.fit.acts)); stays = λ d e. e }

so_after : (s : State) (r : Reading) (line : List ℕ) (p : Parsed) → IsSo s r → line_at s line ≡ Ok p → IsSo (after s p) (with_line s.header r (told_line p))
so_after s r line p so good = record {
  fit = fit_after s line p so.fit good;
  said = said_after s.stage s p r (line_is s line p so.fit good).stands so.said;
  few = few_after s.header s.acts p r so.few;
}

closed_sound : (s : State) (r : Reading) (o : Option Cause) → IsSo s r → IsSoundIn s.dialect r (closed s r o)
closed_sound s r None so = so_sound s r so
closed_sound s r (Some cause) so = let is = so_sound s r so in record { whole = is.whole; none = is.none; few = is.few; stays = λ d e. e }

line_deploys : (here : Stage) (s : State) (d : Deployed) (p : Parsed) (r : Reading) → Stands here s p → HasSaid s.dialect here s.header r.deployment r.acts → r.deployment ≡ Some d → (with_line s.header r (told_line p)).deployment ≡ Some d
line_deploys stage.Header s d parsed.Begin r h said e = absurd (let never : None ≡ Some d = sym said.0 ∙ e in cc)
line_deploys _ s d parsed.Begin r h said e = absurd h
line_deploys _ s d _ r h said e = e

after_sound : (s : State) (r : Reading) (line : List ℕ) (go_on : State → Reading → Reading) → IsSo s r
    → ((p : Parsed) → IsSo (after s p) (with_line s.header r (told_line p)) → IsSoundIn s.dialect (with_line s.header r (told_line p)) (go_on (after s p) (with_line s.header r (told_line p))))
    → (said : Result Parsed Cause) → line_at s line ≡ said → IsSoundIn s.dialect r (after_line s r go_on said)
after_sound s r line go_on so on (Ok p) e =
    let next = on p (so_after s r line p so e) in
    record { whole = next.whole; none = next.none; few = next.few; stays = λ d has. next.stays d (line_deploys s.stage s d p r (line_is s line p so.fit e).stands so.said has) }
after_sound s r line go_on so on (Err cause) e = closed_sound s r (Some cause) so

from_sound : (s : State) (r : Reading) (parts : List (List ℕ)) → IsSo s r → IsSoundIn s.dialect r (script_from s r parts)
unfolding script_from
from_sound s r [] so = closed_sound s r (close_at s []) so
from_sound s r (rest ∷ []) so = closed_sound s r (close_at s rest) so
from_sound s r (line ∷ part ∷ parts) so =
    after_sound s r line (λ later more. script_from later more (part ∷ parts)) so (λ p next. from_sound (after s p) (with_line s.header r (told_line p)) (part ∷ parts) next) (line_at s line) refl

-- whatever comes behind the line `begin`
pub begun_stays : (dialect : Dialect) (d : Deployed) (parts : List (List ℕ)) → IsFit (record { dialect = dialect; stage = stage.Body; header = d; acts = 0; settles = 0 })
    → (script_from (record { dialect = dialect; stage = stage.Body; header = d; acts = 0; settles = 0 }) (good d []) parts).deployment ≡ Some d
begun_stays dialect d parts fit =
    (from_sound (record { dialect = dialect; stage = stage.Body; header = d; acts = 0; settles = 0 }) (good d []) parts (record { fit = fit; said = (refl, tt, tt); few = omega arith })).stays d refl

whole_deployment : (o : Option Deployed) (acts : List Act) → IfSome o (λ d. IsWhole d × AreActsOf d acts) → IfSome o (λ d. IsDeployment d × HaveNames d × AreActsOf d acts)
whole_deployment None acts w = tt
whole_deployment (Some d) acts w = (w.0.deployment, w.0.names, w.1)

pub reading_sound : (live : Bool) (text : List ℕ) → IsSound live (reading live text)
unfolding reading
reading_sound live text =
    let so : IsSo (start (dialect_of live)) nothing = record { fit = fit_start (dialect_of live); said = (refl, refl); few = omega arith } in
    let is = from_sound (start (dialect_of live)) nothing (slice_split is_newline text) so in
    record { whole = whole_deployment _ _ is.whole; none = is.none; few = is.few }

-- and so no more than a script of any format has
pub few_read : (live : Bool) (found : Reading) → IsSound live found → length found.acts ≤ MOST_ACTS
few_read live found sound = go found.deployment refl sound.few
  where
    go : (o : Option Deployed) → found.deployment ≡ o → IfSome o (λ d. length found.acts ≤ (limits_of (dialect_of live) d.format).acts) → length found.acts ≤ MOST_ACTS
    go None e few = omega (arith, ap (λ (acts : List Act). length acts) (sound.none e))
    go (Some d) e few = let most = (limits_few (dialect_of live) d.format).acts in omega (arith, few, most)

meaning_deploys : (o : Option ScriptFault) (s : State) (d : Deployed) (r : Reading) (begun more : List ℕ) → r.deployment ≡ Some d → (o ≡ None → IsSo s r) → (meaning o s r begun more).deployment ≡ Some d
unfolding goes_on
meaning_deploys None s d r begun more e so = (from_sound s r (onto_front begun (slice_split is_newline more)) (so refl)).stays d e
meaning_deploys (Some fault) s d r begun more e so = e

pub means_deploys : (l : WholeLines) (d : Deployed) (begun more : List ℕ) → AreWhole l → l.deployment ≡ Some d → (means l begun more).deployment ≡ Some d
means_deploys l d begun more whole e = meaning_deploys l.seen.fault l.seen.state d (kept l.deployment l.acts) begun more e (λ none. record { fit = whole.fit; said = whole.said none; few = whole.few })

-- ---- at the end of what has come

end_deployment : (o : Option ScriptFault) (s : State) (r : Reading) (begun : List ℕ) → ((meaning o s r begun []).deployment ≡ r.deployment) × ((meaning o s r begun []).acts ≡ r.acts)
end_deployment None s r begun = rw (goes_on-end s r begun) (go (close_at s begun)) where
  go : (o : Option Cause) → ((closed s r o).deployment ≡ r.deployment) × ((closed s r o).acts ≡ r.acts)
  go None = (refl, refl)
  go (Some cause) = (refl, refl)
end_deployment (Some fault) s r begun = (refl, refl)

pub ends_as : (r : Came) → ((will_be r []).deployment ≡ r.lines.deployment) × ((will_be r []).acts ≡ r.lines.acts)
unfolding will_be
ends_as r = end_deployment r.lines.seen.fault r.lines.seen.state (kept r.lines.deployment r.lines.acts) r.begun

-- a line that has begun, isn't too long and doesn't stand behind the end
close_lacks : (here : Stage) (rest : List ℕ) → length rest ≤ LONGEST_LINE → (is_ended here ≡ true → rest ≡ []) → IfSome (close_in here rest) (λ cause. cause ≡ NoEnd)
unfolding close_in
close_lacks stage.Ended rest few ended = rw (ended refl) tt
close_lacks _ rest few ended = let test : ltb LONGEST_LINE (length rest) ≡ false = grind (arith, nat_tests) in rw test refl

closed_lacks : (s : State) (r : Reading) (o : Option Cause) → r.fault ≡ None → IfSome o (λ cause. cause ≡ NoEnd) → LacksOnlyItsEnd (closed s r o)
closed_lacks s r None none is = subst (λ (o : Option ScriptFault). IfSome o (λ fault. fault.cause ≡ NoEnd)) (sym none) tt
closed_lacks s r (Some cause) none is = is

meaning_lacks : (o : Option ScriptFault) (s : State) (r : Reading) (begun : List ℕ) → o ≡ None → r.fault ≡ None → length begun ≤ LONGEST_LINE → (is_ended s.stage ≡ true → begun ≡ []) → LacksOnlyItsEnd (meaning o s r begun [])
meaning_lacks None s r begun e none few ended = rw (goes_on-end s r begun) (closed_lacks s r (close_at s begun) none (close_lacks s.stage begun few ended))
meaning_lacks (Some fault) s r begun e none few ended = absurd (cc)

pub lacks_its_end : (r : Came) → known_fault r ≡ None → length r.begun ≤ LONGEST_LINE → (is_ended r.lines.seen.state.stage ≡ true → r.begun ≡ []) → LacksOnlyItsEnd (will_be r [])
unfolding will_be
lacks_its_end r none few ended = meaning_lacks r.lines.seen.fault r.lines.seen.state (kept r.lines.deployment r.lines.acts) r.begun none refl few ended

-- ---- as the calls have it

drained_said : (dialect : Dialect) (here : Stage) (d : Deployed) (said : Option Deployed) (acts : List Act) → HasSaid dialect here d said acts → HasSaid dialect here d said []
drained_said dialect stage.Body d said acts h = (h.0, tt, tt)
drained_said dialect stage.Ended d said acts h = (h.0, tt, tt)
drained_said dialect _ d said acts h = (h.0, refl)

drained_whole : (l : WholeLines) → AreWhole l → AreWhole (without_acts l)
drained_whole l whole =
    let said : l.seen.fault ≡ None → HasSaid l.seen.state.dialect l.seen.state.stage l.seen.state.header l.deployment [] =
    λ none. drained_said l.seen.state.dialect l.seen.state.stage l.seen.state.header l.deployment l.acts (whole.said none) in
    record { fit = whole.fit; whole = go l.deployment whole.whole; none = λ _. refl; few = omega arith; said = said }
  where
    go : (o : Option Deployed) → IfSome o (λ d. IsWhole d × AreActsOf d l.acts) → IfSome o (λ d. IsWhole d × AreActsOf d [])
    go None w = tt
    go (Some d) w = (w.0, tt)

pub drained_deploys : (l new : WholeLines) → AreWhole l → new ≡ without_acts l → (d : Deployed) (begun more : List ℕ) → l.deployment ≡ Some d → (means new begun more).deployment ≡ Some d
drained_deploys l new whole is d begun more e = rw is (means_deploys (without_acts l) d begun more (drained_whole l whole) e)

pub drained_script : (old new : Came) (acts : List Act) → new ≡ drained old → acts ≡ old.lines.acts → (more : List ℕ) → will_be old more ≡ behind acts (will_be new more)
drained_script old new acts is handed more = rw (is, handed) (drained_will_be old more)

pub drained_stays : (old new : Came) → new ≡ drained old → ((d : Deployed) (begun more : List ℕ) → old.lines.deployment ≡ Some d → (means (without_acts old.lines) begun more).deployment ≡ Some d)
    → (d : Deployed) (more : List ℕ) → old.lines.deployment ≡ Some d → (will_be new more).deployment ≡ Some d
unfolding will_be
drained_stays old new is stays d more e = rw is (stays d old.begun more e)

pub drained_lacks : (old new : Came) → new ≡ drained old → length old.begun ≤ LONGEST_LINE → (is_ended old.lines.seen.state.stage ≡ true → old.begun ≡ []) → known_fault old ≡ None → LacksOnlyItsEnd (will_be new [])
drained_lacks old new is few ended none = rw is (lacks_its_end (drained old) none few ended)
