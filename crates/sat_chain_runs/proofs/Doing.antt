-- What an act with chains, done and answered, makes of a follower.
use Rattle.std.proofs.Common.{◌≡◌, ℕ, ◌+◌, ◌≤◌, List, [], ◌∷◌, length, Option, Some, None, Result, Ok, Err, OnOk, sym, ap, subst, ◌∙◌, arith}
use Rattle.sat_act.specs.Deployed.{Deployed}
use Rattle.sat_chain.specs.Applies.{ChainApplies}
use Rattle.sat_chain.specs.Stands.{ChainsSeen, ChainsFor}
use Rattle.sat_chain_laws.specs.ChainAnswers.{chain_answer}
use Rattle.sat_chain_laws.specs.ChainRuns.{IsChainRun}
use Rattle.sat_chain_laws.specs.Chains.{ChainEntry}
use Rattle.sat_chain_laws.specs.Ranges.{IsChainActOf}
use Rattle.sat_chain_laws.specs.declared.chain_act.ChainAct.{ChainAct}
use Rattle.sat_chain_laws.specs.declared.chain_answer.ChainAnswer.{ChainAnswer}
use Rattle.sat_chain_rules.specs.Steps.{ChainState, entries_with}
use Rattle.sat_chain_rules.specs.Texts.{numbered}
use Rattle.sat_chain_script.specs.declared.line.ChainParsed.TheVariants as says
use Rattle.sat_chain_script.proofs.Sound.{chain_fit}
use Rattle.sat_chain_texts.specs.Texts.{chain_answer_text}
use Rattle.sat_report.specs.Frames.{framed, next_front}
use Rattle.sat_report.proofs.Frames.{as_line}
use Rattle.sat_report.proofs.NextDigit.{goes_on}
use Rattle.sat_script.specs.Causes.{full}
use Rattle.sat_script.specs.Kept.{IsFit}
use Rattle.sat_script.specs.State.{Seen, deployment_of, with_one_act}
use Rattle.sat_script.specs.declared.line.Stage.TheVariants as stage
use Rattle.sat_script.proofs.Stands.{limits_few}
use Rattle.sat_chain_runs.specs.Held.{HeldSeen, AreChainsOf, StandFor, IsHeld, StandsAt, StaysKnown, KeepsHistories, HasAnswer, GoesBy}
use Rattle.sat_chain_runs.proofs.Going.{fit_at, chains_of, header_at}

-- ---- chains to which nothing has happened

stands_new : (x : ChainsSeen) → ChainsFor x [] → StandFor (Some x) []
unfolding IsChainRun
stands_new x fresh = (tt, fresh)

pub made_keeps : (old : Option ChainsSeen) (x : ChainsSeen) → old ≡ None → ChainsFor x [] → KeepsHistories old (Some x)
made_keeps old x is fresh = λ c had.
    let none : c ≡ [] = subst (λ (o : Option ChainsSeen). StandFor o c) is had in
    subst (λ (k : List ChainEntry). StandFor (Some x) k) (sym none) (stands_new x fresh)

pub made_held : (old new : HeldSeen) (x : ChainsSeen) → IsHeld old → new.reader ≡ old.reader → new.chains ≡ Some x → new.replicas ≡ old.replicas
    → deployment_of old.reader.state ≡ Some x.world.deployment → x.replicas ≡ old.replicas → ChainsFor x [] → IsHeld new
made_held old new x held reader chains replicas deployment size fresh = record {
  fit = subst (λ (s : Seen). IsFit s.state) (sym reader) held.fit;
  dialect_is = ap (λ (s : Seen). s.state.dialect) reader ∙ held.dialect_is;
  chains_are = subst (λ (o : Option ChainsSeen). AreChainsOf (deployment_of new.reader.state) o new.replicas) (sym chains) (ap (λ (s : Seen). deployment_of s.state) reader ∙ deployment, size ∙ sym replicas);
  known = ([], subst (λ (o : Option ChainsSeen). StandFor o []) (sym chains) (stands_new x fresh));
  some = subst (λ (n : ℕ). 1 ≤ n) (sym replicas) held.some;
  few = subst (λ (n : ℕ). n ≤ 5) (sym replicas) held.few;
}

-- ---- an act

-- the chains of a follower that stands for a state
has_stood : (mid : HeldSeen) (x : ChainsSeen) (c : List ChainEntry) → mid.chains ≡ Some x → StandFor mid.chains c → StandFor (Some x) c
has_stood mid x c is had = subst (λ (o : Option ChainsSeen). StandFor o c) is had

pub stands_mid : (old mid : HeldSeen) (s : ChainState) → mid.reader ≡ old.reader → mid.number ≡ old.number → KeepsHistories old.chains mid.chains → StandsAt old s → StandsAt mid s
stands_mid old mid s reader number keeps st = record { reader = reader ∙ st.reader; number = number ∙ st.number; counted = st.counted; chains = keeps s.entries st.chains }

-- the act's entry in the history of such a state
answer_is : (mid : HeldSeen) (x y : ChainsSeen) (a : ChainAct) (r : ChainAnswer) (s : ChainState) → IsHeld mid → mid.chains ≡ Some x → ChainApplies x a r y → StandsAt mid s → r ≡ chain_answer s.script.header mid.replicas s.entries a
answer_is mid x y a r s held is does st =
    let had = has_stood mid x s.entries is st.chains in
    does.answer s.entries had.0 had.1
    ∙ ap (λ (d : Deployed). chain_answer d x.replicas s.entries a) (sym (header_at mid s x held st is))
    ∙ ap (λ (k : ℕ). chain_answer s.script.header k s.entries a) (chains_of mid x held is).1

number_is : (mid : HeldSeen) (now : Option ℕ) (s : ChainState) → IsHeld mid → StandsAt mid s → now ≡ next_front mid.number → now ≡ Some (length s.entries + 1)
number_is mid now s held st is =
    let few = (limits_few s.script.dialect s.script.header.format).acts in
    let fit = fit_at mid s held st in
    is ∙ sym (goes_on (length s.entries) mid.number st.number (omega (arith, st.counted, fit.acts, few)))

-- a follower that did it goes on, in each state that it stood for
pub goes_by : (old mid new : HeldSeen) (x y : ChainsSeen) (a : ChainAct) (text longer : List ℕ) → IsHeld mid → mid.reader ≡ old.reader → mid.replicas ≡ old.replicas → mid.number ≡ old.number → KeepsHistories old.chains mid.chains
    → mid.chains ≡ Some x → HasAnswer x mid.number a y new.number text longer → new.reader ≡ record { state = with_one_act mid.reader.state; fault = mid.reader.fault } → new.chains ≡ Some y → GoesBy old a new text longer
goes_by old mid new x y a text longer held reader replicas number keeps is has counted chains = record {
  added = framed new.number (chain_answer_text y.world.deployment a has.answer);
  longer_by = has.longer_by;
  each = λ s st.
      let now = stands_mid old mid s reader number keeps st in
      let header = header_at mid s x held now is in
      let answer : has.answer ≡ chain_answer s.script.header old.replicas s.entries a = answer_is mid x y a has.answer s held is has.applies now ∙ ap (λ (k : ℕ). chain_answer s.script.header k s.entries a) replicas in
      ap (λ (n : Option ℕ). framed n (chain_answer_text y.world.deployment a has.answer)) (number_is mid new.number s held now has.number)
      ∙ as_line (length s.entries + 1) (chain_answer_text y.world.deployment a has.answer)
      ∙ ap (numbered (length s.entries + 1)) (ap (λ (d : Deployed). chain_answer_text d a has.answer) (has.applies.deployment ∙ sym header) ∙ ap (chain_answer_text s.script.header a) answer);
  stands = λ s st.
      let now = stands_mid old mid s reader number keeps st in
      let had = has_stood mid x s.entries is now.chains in
      let answer : has.answer ≡ chain_answer s.script.header old.replicas s.entries a = answer_is mid x y a has.answer s held is has.applies now ∙ ap (λ (k : ℕ). chain_answer s.script.header k s.entries a) replicas in
      record {
        reader = counted ∙ ap (λ (t : Seen). record { state = with_one_act t.state; fault = t.fault }) now.reader;
        number = number_is mid new.number s held now has.number ∙ ap (λ (n : ℕ). Some n) (let more : length s.entries + 1 ≡ length (entries_with s.script.header old.replicas s.entries (Some a)) = omega arith in more);
        counted = omega (arith, st.counted);
        chains = subst (λ (o : Option ChainsSeen). StandFor o (entries_with s.script.header old.replicas s.entries (Some a))) (sym chains)
            (subst (λ (r : ChainAnswer). StandFor (Some y) (record { act = a; answer = r } ∷ s.entries)) answer (has.applies.run s.entries had.0 had.1, has.applies.stands s.entries had.0 had.1));
      };
}

-- and what holds of it holds again, also where its answer was not written
pub held_act : (mid new : HeldSeen) (x y : ChainsSeen) (a : ChainAct) → IsHeld mid → mid.reader.state.stage ≡ stage.Body → full mid.reader.state ≡ None → IsChainActOf mid.reader.state.header mid.replicas a → mid.chains ≡ Some x
    → new.reader ≡ record { state = with_one_act mid.reader.state; fault = mid.reader.fault } → new.chains ≡ Some y → new.replicas ≡ mid.replicas
    → y.world.deployment ≡ x.world.deployment → y.replicas ≡ x.replicas → StaysKnown (Some x) (Some y) → IsHeld new
held_act mid new x y a held body room fits is counted chains replicas deployment size known =
    let had = has_stood mid x held.known.0 is held.known.1 in
    let now = known held.known.0 had in
    let of = chains_of mid x held is in
    record {
      fit = subst (λ (s : Seen). IsFit s.state) (sym counted) (chain_fit mid.replicas mid.reader.state (says.Step a) held.fit (body, room, fits));
      dialect_is = ap (λ (s : Seen). s.state.dialect) counted ∙ held.dialect_is;
      chains_are = subst (λ (o : Option ChainsSeen). AreChainsOf (deployment_of new.reader.state) o new.replicas) (sym chains)
          (ap (λ (s : Seen). deployment_of s.state) counted ∙ of.0 ∙ ap (λ (d : Deployed). Some d) (sym deployment), size ∙ of.1 ∙ sym replicas);
      known = (now.0, subst (λ (o : Option ChainsSeen). StandFor o now.0) (sym chains) now.1);
      some = subst (λ (n : ℕ). 1 ≤ n) (sym replicas) held.some;
      few = subst (λ (n : ℕ). n ≤ 5) (sym replicas) held.few;
    }

-- the same of a follower whose chains were made
pub fits_mid : (old mid : HeldSeen) (a : ChainAct) → mid.reader ≡ old.reader → mid.replicas ≡ old.replicas → IsChainActOf old.reader.state.header old.replicas a → IsChainActOf mid.reader.state.header mid.replicas a
fits_mid old mid a reader replicas fits =
    subst (λ (s : Seen). IsChainActOf s.state.header mid.replicas a) (sym reader) (subst (λ (k : ℕ). IsChainActOf old.reader.state.header k a) (sym replicas) fits)

-- a clause of a call that is handed on as it is
pub when_ok : {T E P Q : Type 0} (result : Result T E) → OnOk result P → (P → Q) → OnOk result Q
when_ok (Ok t) p gives = gives p
when_ok (Err e) p gives = tt
