-- What an act, done and answered, makes of a follower, and what the end of a text does.
use Rattle.std.proofs.Common.{◌≡◌, ℕ, suc, ◌+◌, List, [], ◌∷◌, ◌++◌, length, Option, Some, None, Result, Ok, Err, IsSome, refl, sym, ap, subst, ◌∙◌, arith}
use Rattle.std.specs.Prelude.{IfSome}
use Rattle.std.proofs.lemmas.List.{append_cancel_left}
use Rattle.sat_act.specs.Deployed.{Deployed}
use Rattle.sat_own_acts.specs.OwnActs.{OwnActs}
use Rattle.sat_own_acts.specs.Texts.{Telling, numbered}
use Rattle.sat_own_acts.specs.Steps.{OwnState, closing, own_rules}
use Rattle.sat_own_acts.specs.Held.{HeldSeen, IsMachineOf, StandFor, IsHeld, StandsAt, IsReady, HasEntered, GoesBy}
use Rattle.sat_own_acts.specs.declared.line.OwnParsed.TheVariants as says
use Rattle.sat_own_acts.proofs.Sound.{own_fit, close_ends}
use Rattle.sat_own_acts.proofs.Reading.{deployed_is, begun_at}
use Rattle.sat_own_acts.proofs.Going.{state_is}
use Rattle.sat_follow.specs.ByLines.{EndsText}
use Rattle.sat_script.specs.Causes.{full}
use Rattle.sat_script.specs.Grammar.{close_at}
use Rattle.sat_script.specs.Kept.{IsFit}
use Rattle.sat_script.specs.Lines.{Closes, running}
use Rattle.sat_script.specs.State.{State, Seen, deployment_of, number_of, with_one_act}
use Rattle.sat_script.specs.declared.fault.Cause.{Cause}
use Rattle.sat_script.specs.declared.fault.ScriptFault.{ScriptFault}
use Rattle.sat_script.specs.declared.line.Stage.TheVariants as stage

-- ---- a machine that is ready

-- the header of each state is its deployment
header_ready : {M E : Type 0} (of : M → Deployed) (Fits : ℕ → M → Type 0) (For : M → List E → Type 0) (v : HeldSeen M) (m : M) (s : OwnState E) → IsReady of Fits For v m → StandsAt For v s → s.script.header ≡ of m
header_ready of Fits For v m s ready st =
    ap (λ (t : State). t.header) (sym (state_is For v s st)) ∙ deployed_is v.reader.state.stage v.reader.state.header (of m) ready.deployment

-- one that is there already
pub ready_held : {A M E : Type 0} (these : OwnActs A) (of : M → Deployed) (Fits : ℕ → M → Type 0) (For : M → List E → Type 0) (v : HeldSeen M) (m : M) → IsHeld these of Fits For v → v.machine ≡ Some m → IsReady of Fits For v m
ready_held {A} {M} {E} these of Fits For v m held is = record {
  deployment = subst (λ (o : Option M). IsMachineOf of (deployment_of v.reader.state) o) is held.machine_of;
  fits = subst (λ (o : Option M). IfSome o (λ m. Fits v.answered m)) is held.fits;
  keeps = λ c had. subst (λ (o : Option M). StandFor For o c) is had;
}

-- one that was made, to which nothing has happened
pub ready_made : {M E : Type 0} (of : M → Deployed) (Fits : ℕ → M → Type 0) (For : M → List E → Type 0) (v : HeldSeen M) (m : M) → v.machine ≡ None → deployment_of v.reader.state ≡ Some (of m) → Fits v.answered m → For m [] → IsReady of Fits For v m
ready_made {M} {E} of Fits For v m none deployment fits fresh = record {
  deployment = deployment;
  fits = fits;
  keeps = λ c had. subst (λ (k : List E). For m k) (sym (let e : c ≡ [] = subst (λ (o : Option M). StandFor For o c) none had in e)) fresh;
}

-- ---- an act

one_more : (n m : ℕ) → n ≡ m + 1 → n ≡ suc m
one_more n m is = omega (arith, is)

module _ {A M E : Type 0} (these : OwnActs A) (P : Deployed → A → Type 0) (of : M → Deployed) (Fits : ℕ → M → Type 0) (For : M → List E → Type 0) (old new : HeldSeen M) (a : A) (held : IsHeld these of Fits For old)
    (body : old.reader.state.stage ≡ stage.Body) (room : full old.reader.state ≡ None) (fits : P old.reader.state.header a) (counted : new.reader ≡ record { state = with_one_act old.reader.state; fault = old.reader.fault }) where
  fit_next : IsFit new.reader.state
  fit_next = subst (λ (s : Seen). IsFit s.state) (sym counted) (own_fit P old.reader.state (says.Own a) held.fit (body, room, fits))

  dialect_next : new.reader.state.dialect ≡ these.dialect
  dialect_next = ap (λ (s : Seen). s.state.dialect) counted ∙ held.dialect_is

  acts_next : new.reader.state.acts ≡ old.reader.state.acts + 1
  acts_next = ap (λ (s : Seen). s.state.acts) counted

  -- whose answer could not be made or written: the machine is given up
  pub held_failed : new.machine ≡ None → new.answered ≡ old.answered → IsHeld these of Fits For new
  held_failed none answered = record {
    fit = fit_next;
    dialect_is = dialect_next;
    machine_of = subst (λ (o : Option M). IsMachineOf of (deployment_of new.reader.state) o) (sym none) tt;
    fits = subst (λ (o : Option M). IfSome o (λ m. Fits new.answered m)) (sym none) tt;
    counted = omega (arith, answered, acts_next, held.counted);
    known = ([], subst (λ (o : Option M). StandFor For o []) (sym none) refl);
  }

  -- that was done and answered
  pub held_done : (tell : Telling A E) (x y : M) (text longer : List ℕ) → IsReady of Fits For old x → HasEntered tell of For x a y new.answered text longer → new.machine ≡ Some y → new.answered ≡ old.answered + 1 → Fits new.answered y
      → IsHeld these of Fits For new
  held_done tell x y text longer ready done machine answered fitting = record {
    fit = fit_next;
    dialect_is = dialect_next;
    machine_of = subst (λ (o : Option M). IsMachineOf of (deployment_of new.reader.state) o) (sym machine)
        (ap (λ (s : Seen). deployment_of s.state) counted ∙ ready.deployment ∙ ap (λ (d : Deployed). Some d) (sym done.deployment));
    fits = subst (λ (o : Option M). IfSome o (λ m. Fits new.answered m)) (sym machine) fitting;
    counted = omega (arith, answered, acts_next, held.counted);
    known = (done.entry ∷ held.known.0, subst (λ (o : Option M). StandFor For o (done.entry ∷ held.known.0)) (sym machine) (done.stands held.known.0 (ready.keeps held.known.0 held.known.1)));
  }

  -- a follower that did it goes on, in each state that it stood for
  pub goes_by : (tell : Telling A E) (x y : M) (text longer : List ℕ) → IsReady of Fits For old x → HasEntered tell of For x a y new.answered text longer → new.machine ≡ Some y → new.answered ≡ old.answered + 1 → GoesBy tell For old a new text longer
  goes_by tell x y text longer ready done machine answered = record {
    added = numbered new.answered (tell.answer (of x) done.entry);
    longer_by = done.longer_by;
    each = λ s st.
        let header : of x ≡ s.script.header = sym (header_ready of Fits For old x s ready st) in
        let entry : done.entry ≡ tell.entry s.script.header s.entries a = done.entered s.entries (ready.keeps s.entries st.machine) ∙ ap (λ (d : Deployed). tell.entry d s.entries a) header in
        let number : new.answered ≡ length s.entries + 1 = answered ∙ ap (λ (n : ℕ). n + 1) st.answered in
        ap (λ (n : ℕ). numbered n (tell.answer (of x) done.entry)) number
        ∙ ap (λ (d : Deployed). numbered (length s.entries + 1) (tell.answer d done.entry)) header
        ∙ ap (λ (e : E). numbered (length s.entries + 1) (tell.answer s.script.header e)) entry;
    stands = λ s st.
        let header : of x ≡ s.script.header = sym (header_ready of Fits For old x s ready st) in
        let had = ready.keeps s.entries st.machine in
        let entry : done.entry ≡ tell.entry s.script.header s.entries a = done.entered s.entries had ∙ ap (λ (d : Deployed). tell.entry d s.entries a) header in
        record {
          reader = counted ∙ ap (λ (t : Seen). record { state = with_one_act t.state; fault = t.fault }) st.reader;
          answered = one_more new.answered (length s.entries) (answered ∙ ap (λ (n : ℕ). n + 1) st.answered);
          machine = subst (λ (o : Option M). StandFor For o (tell.entry s.script.header s.entries a ∷ s.entries)) (sym machine)
              (subst (λ (e : E). For y (e ∷ s.entries)) entry (done.stands s.entries had));
        };
  }

-- ---- the end

-- it ends well
closed_well : (o : Option ScriptFault) (s : State) (new : Seen) (result : Result (Unit {0}) ScriptFault) (rest : List ℕ) (u : Unit {0}) → result ≡ Ok u → Closes o s new result rest → (close_at s rest ≡ None) × (new ≡ running s)
closed_well None s new (Ok t) rest u is closes = (closes.0, closes.1)
closed_well None s new (Err f) rest u is closes = absurd (cc)
closed_well (Some f) s new result rest u is closes = absurd (let never : Ok u ≡ Err f = sym is ∙ closes.0 in cc)

pub has_begun : (o : Option ScriptFault) (s : State) (new : Seen) (result : Result (Unit {0}) ScriptFault) (rest : List ℕ) (u : Unit {0}) → result ≡ Ok u → Closes o s new result rest → IsSome (deployment_of new.state)
has_begun o s new result rest u is closes =
    let well = closed_well o s new result rest u is closes in
    begun_at new.state stage.Ended (ap (λ (x : Seen). x.state.stage) well.1 ∙ close_ends s.stage rest well.0) refl

-- mid is the follower behind the call that closed its reader
pub well_ends : {A M E : Type 0} (these : OwnActs A) (tell : Telling A E) (of : M → Deployed) (Fits : ℕ → M → Type 0) (For : M → List E → Type 0) (old mid : HeldSeen M) (x : M) (rest text longer : List ℕ) (result : Result (Unit {0}) ScriptFault) (u : Unit {0})
    → IsHeld these of Fits For old → result ≡ Ok u → Closes old.reader.fault old.reader.state mid.reader result rest → mid.machine ≡ old.machine → mid.answered ≡ old.answered → IsReady of Fits For mid x
    → ((c : List E) → For x c → longer ≡ text ++ tell.holdings (of x) c) → EndsText (own_rules these tell) (StandsAt For old) rest text longer 0
well_ends {A} {M} {E} these tell of Fits For old mid x rest text longer result u held is closes machine answered ready wrote =
    let well = closed_well old.reader.fault old.reader.state mid.reader result rest u is closes in
    let keeps : (c : List E) → StandFor For old.machine c → For x c = λ c had. ready.keeps c (subst (λ (o : Option M). StandFor For o c) (sym machine) had) in
    let first = wrote held.known.0 (keeps held.known.0 held.known.1) in
    record {
      added = tell.holdings (of x) held.known.0;
      longer_by = first;
      text_is = λ s st.
          let state : mid.reader.state ≡ s.script = ap (λ (t : Seen). t.state) well.1 ∙ state_is For old s st in
          let header : s.script.header ≡ of x = ap (λ (t : State). t.header) (sym state) ∙ deployed_is mid.reader.state.stage mid.reader.state.header (of x) ready.deployment in
          let close : close_at s.script rest ≡ None = ap (λ (t : State). close_at t rest) (sym (state_is For old s st)) ∙ well.0 in
          ap (λ (o : Option Cause). (closing tell s o).text) close
          ∙ ap (λ (d : Deployed). tell.holdings d s.entries) header
          ∙ append_cancel_left text (tell.holdings (of x) s.entries) (tell.holdings (of x) held.known.0) (sym (wrote s.entries (keeps s.entries st.machine)) ∙ first);
      status_is = λ s st.
          let close : close_at s.script rest ≡ None = ap (λ (t : State). close_at t rest) (sym (state_is For old s st)) ∙ well.0 in
          ap (λ (o : Option Cause). (closing tell s o).status) close;
    }
