-- A follower of scripts with chains, line by line, and the states that it stands for.
use Rattle.std.proofs.Common.{◌≡◌, inl, inr, ℕ, ◌<◌, ◌≤◌, false, ltb, List, [], ◌++◌, length, Option, Some, None, Result, Ok, Err, append-nil, refl, sym, ap, subst, ◌∙◌, arith}
use Rattle.sat_chain.specs.Stands.{ChainsSeen}
use Rattle.sat_chain_laws.specs.declared.chain_act.ChainAct.{ChainAct}
use Rattle.sat_chain_laws.specs.declared.chain_act.ChainAct.TheVariants as chain
use Rattle.sat_chain_rules.specs.Steps.{ChainState, act_in, entries_with, told_with, state_after, outcome, chain_rules}
use Rattle.sat_chain_rules.proofs.Bounds.{chain_counted, bytes_few, open_none, open_at, stuck_ended, stuck_long}
use Rattle.sat_chain_script.specs.Forms.{step_words}
use Rattle.sat_chain_script.specs.ChainLines.{chain_line, chain_after, saying, form_at, words_after, line_as, of_step}
use Rattle.sat_chain_script.specs.declared.form.ChainForm.{ChainForm}
use Rattle.sat_chain_script.specs.declared.line.ChainParsed.{ChainParsed}
use Rattle.sat_chain_script.specs.declared.line.ChainParsed.TheVariants as says
use Rattle.sat_chain_script.proofs.Sound.{chain_line_is, chain_fit, script_said}
use Rattle.sat_follow.specs.ByLines.{Begins, GoodLine, IsStuck, IsOpen}
use Rattle.sat_follow.specs.Rules.{goes}
use Rattle.sat_script.specs.Grammar.{line_at, after, is_ended}
use Rattle.sat_script.specs.Kept.{IsFit}
use Rattle.sat_script.specs.Lines.{Takes, running}
use Rattle.sat_script.specs.State.{State, Seen, start, deployment_of, with_one_act}
use Rattle.sat_script.specs.Words.{is_text, words_of}
use Rattle.sat_script.specs.declared.dialect.Dialect.TheVariants as dialect
use Rattle.sat_script.specs.declared.fault.Cause.{Cause}
use Rattle.sat_script.specs.declared.fault.ScriptFault.{ScriptFault}
use Rattle.sat_script.specs.declared.limits.TheConstants.{LONGEST_LINE}
use Rattle.sat_script.specs.declared.line.Line.{Line}
use Rattle.sat_script.specs.declared.line.Parsed.{Parsed}
use Rattle.sat_script.specs.declared.line.Stage.TheVariants as stage
use Rattle.sat_script.proofs.Choices.{passed, skipped}
use Rattle.sat_script.proofs.Fits.{fit_start, line_is, stands_after}
use Rattle.sat_script.proofs.Stands.{Stands}
use Rattle.sat_chain_runs.specs.ChainTexts.{texts_of}
use Rattle.sat_chain_runs.specs.Held.{HeldSeen, AreChainsOf, StandFor, IsHeld, StandsAt, KeepsLine, GoesBy}
use Rattle.sat_chain_runs.proofs.Reading.{not_ended, deployed_is, deployed_after, IsActLine, act_line_is, reader_moves}

-- ---- what holds of each state that it stands for

pub state_is : (v : HeldSeen) (s : ChainState) → StandsAt v s → v.reader.state ≡ s.script
state_is v s st = ap (λ (x : Seen). x.state) st.reader

pub fit_at : (v : HeldSeen) (s : ChainState) → IsHeld v → StandsAt v s → IsFit s.script
fit_at v s held st = subst IsFit (state_is v s st) held.fit

dialect_at : (v : HeldSeen) (s : ChainState) → IsHeld v → StandsAt v s → s.script.dialect ≡ dialect.Chain
dialect_at v s held st = ap (λ (x : State). x.dialect) (sym (state_is v s st)) ∙ held.dialect_is

-- its chains are of the deployment that the header says, and of so many replicas
pub chains_of : (v : HeldSeen) (x : ChainsSeen) → IsHeld v → v.chains ≡ Some x → AreChainsOf (deployment_of v.reader.state) (Some x) v.replicas
chains_of v x held is = subst (λ (o : Option ChainsSeen). AreChainsOf (deployment_of v.reader.state) o v.replicas) is held.chains_are

pub header_at : (v : HeldSeen) (s : ChainState) (x : ChainsSeen) → IsHeld v → StandsAt v s → v.chains ≡ Some x → s.script.header ≡ x.world.deployment
header_at v s x held st is = ap (λ (t : State). t.header) (sym (state_is v s st)) ∙ deployed_is v.reader.state.stage v.reader.state.header x.world.deployment (chains_of v x held is).0

-- ---- before the first line

pub begins : (r : ℕ) (v : HeldSeen) → v.reader ≡ running (start dialect.Chain) → v.chains ≡ None → v.number ≡ Some 0 → Begins (chain_rules (texts_of r) r) (StandsAt v)
begins r v reader chains number = record {
  stands_for = record { reader = reader; number = number; counted = omega arith; chains = subst (λ (o : Option ChainsSeen). StandFor o []) (sym chains) refl };
  few = bytes_few (start dialect.Chain) (fit_start dialect.Chain) refl;
  may_go_on = open_none (texts_of r) (record { script = start dialect.Chain; entries = [] });
  bounded = omega arith;
}

-- ---- a good line

same_dialect : (s : State) (p : ChainParsed) → (chain_after s p).dialect ≡ s.dialect
same_dialect s (says.Plain q) = refl
same_dialect s (says.Step a) = refl

line_here : (v : HeldSeen) (s : ChainState) (line : List ℕ) (p : ChainParsed) → StandsAt v s → chain_line v.replicas v.reader.state line ≡ Ok p → chain_line v.replicas s.script line ≡ Ok p
line_here v s line p st is = ap (λ (x : State). chain_line v.replicas x line) (sym (state_is v s st)) ∙ is

good_line : (old new : HeldSeen) (line : List ℕ) (p : ChainParsed) (added text longer : List ℕ) → IsHeld old → chain_line old.replicas old.reader.state line ≡ Ok p → longer ≡ text ++ added
    → ((s : ChainState) → StandsAt old s → told_with (texts_of old.replicas) s.script.header old.replicas s.entries (act_in p) ≡ added)
    → ((s : ChainState) → StandsAt old s → StandsAt new (state_after old.replicas s p))
    → GoodLine (chain_rules (texts_of old.replicas) old.replicas) (StandsAt old) (StandsAt new) line text longer
good_line old new line p added text longer held is by told stands = record {
  added = added;
  longer_by = by;
  each = λ s st.
      let r = old.replicas in
      let here = line_here old s line p st is in
      let fit = fit_at old s held st in
      let next = chain_fit r s.script p fit (chain_line_is r s.script line p fit here) in
      record {
        after = state_after r s p;
        says = ap (outcome (texts_of r) r s) here ∙ ap (goes (state_after r s p)) (told s st);
        stands = stands s st;
        counted = chain_counted r s.script line p fit here;
        few = bytes_few (chain_after s.script p) next (same_dialect s.script p ∙ dialect_at old s held st);
        may_go_on = open_none (texts_of r) (state_after r s p);
      };
}

-- a line that says an act, which was done and answered
pub good_act : (old new : HeldSeen) (line : List ℕ) (p : ChainParsed) (a : ChainAct) (text longer : List ℕ) → IsHeld old → chain_line old.replicas old.reader.state line ≡ Ok p → act_in p ≡ Some a
    → GoesBy old a new text longer → GoodLine (chain_rules (texts_of old.replicas) old.replicas) (StandsAt old) (StandsAt new) line text longer
good_act old new line p a text longer held is act goes_by =
    let r = old.replicas in
    good_line old new line p goes_by.added text longer held is goes_by.longer_by
    (λ s st. ap (told_with (texts_of r) s.script.header r s.entries) act ∙ sym (goes_by.each s st))
    (λ s st.
    let fit = fit_at old s held st in
    let there = act_line_is r s.script p a (dialect_at old s held st) (chain_line_is r s.script line p fit (line_here old s line p st is)) act in
    subst (λ (x : State). StandsAt new (record { script = x; entries = entries_with s.script.header r s.entries (act_in p) })) (sym there.counted)
    (subst (λ (o : Option ChainAct). StandsAt new (record { script = with_one_act s.script; entries = entries_with s.script.header r s.entries o })) (sym act) (goes_by.stands s st)))

-- the act of a line that says this act
pub act_saying : (a : ChainAct) → act_in (saying a) ≡ Some a
act_saying (chain.Plain a) = refl
act_saying (chain.Enter e u z) = refl
act_saying (chain.Pass e z k) = refl
act_saying (chain.Apply e z) = refl
act_saying (chain.Crash e z k) = refl

-- what the act of such a line asks
pub act_there : (v : HeldSeen) (line : List ℕ) (p : ChainParsed) (a : ChainAct) → IsHeld v → chain_line v.replicas v.reader.state line ≡ Ok p → act_in p ≡ Some a → IsActLine v.replicas v.reader.state p a
act_there v line p a held is act = act_line_is v.replicas v.reader.state p a held.dialect_is (chain_line_is v.replicas v.reader.state line p held.fit is) act

-- a line that says none is one of any script
no_step : (said : Result ChainAct Cause) (p : ChainParsed) → of_step said ≡ Ok p → act_in p ≡ None → ⊥
no_step (Ok a) p h none = let is : says.Step a ≡ p = cc in let never : Some a ≡ None = ap act_in is ∙ none in cc
no_step (Err cause) p h none = cc

plain_as : (r : ℕ) (s : State) (line : List ℕ) (f : Option ChainForm) (p : ChainParsed) → line_as r s line f ≡ Ok p → act_in p ≡ None → (q : Parsed) × (line_at s line ≡ Ok q) × (says.Plain q ≡ p)
plain_as r s line None p h none = script_said (line_at s line) p h
plain_as r s line (Some f) p h none =
    let short = skipped (ltb LONGEST_LINE (length line)) _ _ _ h in
    let text = passed (is_text line) _ _ _ short.1 in
    absurd (no_step (step_words r s f (words_after (words_of line))) p text.1 none)

plain_at : (r : ℕ) (s : State) (line : List ℕ) (p : ChainParsed) → chain_line r s line ≡ Ok p → act_in p ≡ None → (q : Parsed) × (line_at s line ≡ Ok q) × (says.Plain q ≡ p)
unfolding chain_line
plain_at r s line p h none = plain_as r s line (form_at s.stage (words_of line)) p h none

pub good_keep : (old new : HeldSeen) (line : List ℕ) (p : ChainParsed) (text : List ℕ) → IsHeld old → chain_line old.replicas old.reader.state line ≡ Ok p → act_in p ≡ None
    → KeepsLine old line new → GoodLine (chain_rules (texts_of old.replicas) old.replicas) (StandsAt old) (StandsAt new) line text text
good_keep old new line p text held is none keeps =
    let r = old.replicas in
    let plain = plain_at r old.reader.state line p is none in
    good_line old new line p [] text text held is (sym (append-nil text))
    (λ s st. ap (told_with (texts_of r) s.script.header r s.entries) none)
    (λ s st.
    subst (λ (o : Option ChainAct). StandsAt new (record { script = chain_after s.script p; entries = entries_with s.script.header r s.entries o })) (sym none)
    (subst (λ (q : ChainParsed). StandsAt new (record { script = chain_after s.script q; entries = s.entries })) plain.2 (keeps plain.0 plain.1 s st)))

-- ---- what the reader takes

chains_moved : (o p : Option ChainsSeen) (s t : State) (r q : ℕ) → p ≡ o → t ≡ s → q ≡ r → AreChainsOf (deployment_of s) o r → AreChainsOf (deployment_of t) p q
chains_moved o p s t r q chains state replicas had =
    subst (λ (x : Option ChainsSeen). AreChainsOf (deployment_of t) x q) (sym chains)
    (subst (λ (x : State). AreChainsOf (deployment_of x) o q) (sym state)
    (subst (λ (n : ℕ). AreChainsOf (deployment_of s) o n) (sym replicas) had))

pub held_same : (old new : HeldSeen) → IsHeld old → new.reader.state ≡ old.reader.state → new.chains ≡ old.chains → new.replicas ≡ old.replicas → IsHeld new
held_same old new held state chains replicas = record {
  fit = subst IsFit (sym state) held.fit;
  dialect_is = ap (λ (x : State). x.dialect) state ∙ held.dialect_is;
  chains_are = chains_moved old.chains new.chains old.reader.state new.reader.state old.replicas new.replicas chains state replicas held.chains_are;
  known = (held.known.0, subst (λ (o : Option ChainsSeen). StandFor o held.known.0) (sym chains) held.known.1);
  some = subst (λ (n : ℕ). 1 ≤ n) (sym replicas) held.some;
  few = subst (λ (n : ℕ). n ≤ 5) (sym replicas) held.few;
}

chains_after : (o : Option ChainsSeen) (s : State) (p : Parsed) (r : ℕ) → Stands s.stage s p → AreChainsOf (deployment_of s) o r → AreChainsOf (deployment_of (after s p)) o r
chains_after None s p r h had = tt
chains_after (Some x) s p r h had = (deployed_after s.stage s.header x.world.deployment s p h had.0, had.1)

held_after : (old new : HeldSeen) (line : List ℕ) (p : Parsed) → IsHeld old → line_at old.reader.state line ≡ Ok p → new.reader.state ≡ after old.reader.state p → new.chains ≡ old.chains → new.replicas ≡ old.replicas → IsHeld new
held_after old new line p held is state chains replicas =
    let stands = (line_is old.reader.state line p held.fit is).stands in
    let here : AreChainsOf (deployment_of (after old.reader.state p)) old.chains old.replicas = chains_after old.chains old.reader.state p old.replicas stands held.chains_are in
    record {
      fit = subst IsFit (sym state) (stands_after old.reader.state p held.fit stands);
      dialect_is = ap (λ (x : State). x.dialect) state ∙ held.dialect_is;
      chains_are = chains_moved old.chains new.chains (after old.reader.state p) new.reader.state old.replicas new.replicas chains state replicas here;
      known = (held.known.0, subst (λ (o : Option ChainsSeen). StandFor o held.known.0) (sym chains) held.known.1);
      some = subst (λ (n : ℕ). 1 ≤ n) (sym replicas) held.some;
      few = subst (λ (n : ℕ). n ≤ 5) (sym replicas) held.few;
    }

pub held_line : (old new : HeldSeen) (line : List ℕ) (result : Result Line ScriptFault) → IsHeld old → Takes old.reader.fault old.reader.state new.reader result line → new.chains ≡ old.chains → new.replicas ≡ old.replicas → IsHeld new
held_line old new line result held takes chains replicas = elim (reader_moves old.reader.fault old.reader.state new.reader result line takes) [
  | inl same ↦ held_same old new held same chains replicas
  | inr moved ↦ held_after old new line moved.0 held moved.1 moved.2 chains replicas
]

-- ---- a line that has begun

pub ended_stuck : (v : HeldSeen) (count : ℕ) (s : ChainState) → v.reader.state.stage ≡ stage.Ended → 0 < count → StandsAt v s → IsStuck (chain_rules (texts_of v.replicas) v.replicas) s count
ended_stuck v count s ended some st = stuck_ended (texts_of v.replicas) v.replicas s count (ap (λ (x : State). x.stage) (sym (state_is v s st)) ∙ ended) some

goes_on_at : (v : HeldSeen) (s : ChainState) → (v.reader.state.stage ≡ stage.Ended → ⊥) → StandsAt v s → is_ended s.script.stage ≡ false
goes_on_at v s other st = not_ended s.script.stage (λ ended. other (ap (λ (x : State). x.stage) (state_is v s st) ∙ ended))

pub long_stuck : (v : HeldSeen) (count : ℕ) (s : ChainState) → (v.reader.state.stage ≡ stage.Ended → ⊥) → LONGEST_LINE < count → StandsAt v s → IsStuck (chain_rules (texts_of v.replicas) v.replicas) s count
long_stuck v count s other long st = stuck_long (texts_of v.replicas) v.replicas s count (goes_on_at v s other st) long

pub still_open : (v : HeldSeen) (count : ℕ) (s : ChainState) → (v.reader.state.stage ≡ stage.Ended → ⊥) → count ≤ LONGEST_LINE → StandsAt v s → IsOpen (chain_rules (texts_of v.replicas) v.replicas) s count
still_open v count s other short st = open_at (texts_of v.replicas) v.replicas s count (goes_on_at v s other st) short
