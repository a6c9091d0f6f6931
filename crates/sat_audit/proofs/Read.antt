-- The lines of a text, one after another.
use Rattle.std.proofs.Common.{◌≡◌, ◌≢◌, ℕ, ◌<◌, List, [], ◌∷◌, length, Option, Some, None, Result, Ok, Err, subst, sym, ap, ◌∙◌, refl, arith}
use Rattle.std.specs.List.{slice_split}
use Rattle.sat_act.specs.Deployed.{Deployed}
use Rattle.sat_script.specs.Grammar.{close_at}
use Rattle.sat_script.specs.Lines.{running, Closes, ClosesFresh}
use Rattle.sat_script.specs.State.{Seen, State, deployed_at, deployment_of, number_of, start}
use Rattle.sat_script.specs.Words.{HasNo, IsCut, is_newline}
use Rattle.sat_script.specs.declared.dialect.Dialect.TheVariants as dialect
use Rattle.sat_script.specs.declared.fault.Cause.TheVariants.{Memory}
use Rattle.sat_script.specs.declared.fault.ScriptFault.{ScriptFault}
use Rattle.sat_script.specs.declared.line.Stage.{Stage}
use Rattle.sat_script.proofs.Cuts.{split_cut, split_uncut}
use Rattle.sat_audit.specs.Histories.{IsHistory}
use Rattle.sat_audit.specs.Lines.{Hearing, history_line}
use Rattle.sat_audit.specs.Steps.{hearing, IsRefused, IsTaken}
use Rattle.sat_audit.specs.Texts.{after_line, closed, history_from, history_of}
use Rattle.sat_audit.specs.declared.heard.Heard.{Heard}
use Rattle.sat_audit.specs.declared.heard.History.{History}
use Rattle.sat_audit.proofs.Fronts.{some_parts}
use Rattle.sat_audit.proofs.Sound.{ended_at, text_sound}

-- ---- a reader that has told no fault

pub closes_fresh : (o : Option ScriptFault) (s : State) (new : Seen) (r : Result (Unit {0}) ScriptFault) (rest : List ℕ) → o ≡ None → Closes o s new r rest → ClosesFresh s new r rest
closes_fresh None s new r rest e h = h
closes_fresh (Some fault) s new r rest e h = absurd (cc)

-- ---- a line

step : (h : Hearing) (line : List ℕ) (parts : List (List ℕ)) → 0 < length parts → history_from h (line ∷ parts) ≡ after_line h (λ later. history_from later parts) (history_line h line)
unfolding history_from
step h line [] some = absurd (omega (arith, some))
step h line (part ∷ parts) some = refl

-- so much of a text is left, after good lines
pub record IsOn (text : List ℕ) (s : Seen) (heard : List Heard) (rest : List ℕ) : Type 0 where
  pub fresh : s.fault ≡ None
  pub same : history_from (hearing s.state heard) (slice_split is_newline rest) ≡ history_of text

pub on_start : (text : List ℕ) → IsOn text (running (start dialect.Audit)) [] text
unfolding history_of
on_start text = record { fresh = refl; same = refl }

by_line : (text : List ℕ) (s : Seen) (heard : List Heard) (rest line more : List ℕ) → IsOn text s heard rest → IsCut 10 rest line more
    → after_line (hearing s.state heard) (λ later. history_from later (slice_split is_newline more)) (history_line (hearing s.state heard) line) ≡ history_of text
by_line text s heard rest line more on cut =
    sym (step (hearing s.state heard) line (slice_split is_newline more) (some_parts is_newline more)) ∙ ap (history_from (hearing s.state heard)) (sym (split_cut 10 rest line more cut)) ∙ on.same

pub on_taken : (text : List ℕ) (s new : Seen) (heard later : List Heard) (rest line more : List ℕ) → IsOn text s heard rest → IsCut 10 rest line more → IsTaken (hearing s.state heard) line new later → IsOn text new later more
on_taken text s new heard later rest line more on cut taken = record {
  fresh = taken.fresh;
  same = sym (ap (after_line (hearing s.state heard) (λ later. history_from later (slice_split is_newline more))) taken.says) ∙ by_line text s heard rest line more on cut;
}

pub on_refused : (text : List ℕ) (s : Seen) (heard : List Heard) (rest line more : List ℕ) (fault : ScriptFault) → IsOn text s heard rest → IsCut 10 rest line more → IsRefused (hearing s.state heard) line fault
    → fault.cause ≢ Memory → history_of text ≡ Err fault
on_refused text s heard rest line more fault on cut refused other =
    let bad = refused.bad other in
    sym (by_line text s heard rest line more on cut) ∙ ap (after_line (hearing s.state heard) (λ later. history_from later (slice_split is_newline more))) bad.1
    ∙ ap (λ (f : ScriptFault). Err f) (sym bad.0)

-- ---- the end

by_end : (text : List ℕ) (s : Seen) (heard : List Heard) (rest : List ℕ) → IsOn text s heard rest → HasNo 10 rest → closed (hearing s.state heard) (close_at s.state rest) ≡ history_of text
unfolding history_from
by_end text s heard rest on none = sym (ap (history_from (hearing s.state heard)) (split_uncut 10 rest none)) ∙ on.same

ended-deploys : (s : State) (d : Deployed) (rest : List ℕ) → close_at s rest ≡ None → deployment_of s ≡ Some d → s.header ≡ d
ended-deploys s d rest end is = let known : deployment_of s ≡ Some s.header = ap (λ (here : Stage). deployed_at here s.header) (ended_at s.stage rest end) in let e : Some s.header ≡ Some d = sym known ∙ is in cc

pub end_is : (text : List ℕ) (s new : Seen) (heard : List Heard) (rest : List ℕ) (d : Deployed) → IsOn text s heard rest → HasNo 10 rest → (close_at s.state rest ≡ None) × (new ≡ running s.state)
    → deployment_of new.state ≡ Some d → history_of text ≡ Ok (record { deployment = d; heard = heard })
end_is text s new heard rest d on none end is =
    let known : deployment_of s.state ≡ Some d = sym (ap (λ (n : Seen). deployment_of n.state) end.1) ∙ is in
    sym (by_end text s heard rest on none) ∙ ap (closed (hearing s.state heard)) end.0
    ∙ ap (λ (e : Deployed). (let r : Result History ScriptFault = Ok (record { deployment = e; heard = heard }) in r)) (ended-deploys s.state d rest end.0 known)

pub end_sound : (text : List ℕ) (s new : Seen) (heard : List Heard) (rest : List ℕ) (d : Deployed) → IsOn text s heard rest → HasNo 10 rest → (close_at s.state rest ≡ None) × (new ≡ running s.state)
    → deployment_of new.state ≡ Some d → (later : List Heard) → later ≡ heard → IsHistory (record { deployment = d; heard = later })
end_sound text s new heard rest d on none end is later e =
    subst (λ (es : List Heard). IsHistory (record { deployment = d; heard = es })) (sym e) (text_sound text (record { deployment = d; heard = heard }) (end_is text s new heard rest d on none end is))

pub end_some : (s new : Seen) (rest : List ℕ) → (close_at s.state rest ≡ None) × (new ≡ running s.state) → deployment_of new.state ≡ None → ⊥
end_some s new rest end is =
    let known : deployment_of s.state ≡ None = sym (ap (λ (n : Seen). deployment_of n.state) end.1) ∙ is in
    let had : deployment_of s.state ≡ Some s.state.header = ap (λ (here : Stage). deployed_at here s.state.header) (ended_at s.state.stage rest end.0) in
    absurd (cc)

pub end_bad : (text : List ℕ) (s : Seen) (heard : List Heard) (rest : List ℕ) (fault : ScriptFault) → IsOn text s heard rest → HasNo 10 rest → fault.line ≡ number_of s.state → close_at s.state rest ≡ Some fault.cause → history_of text ≡ Err fault
end_bad text s heard rest fault on none line cause =
    sym (by_end text s heard rest on none) ∙ ap (closed (hearing s.state heard)) cause
    ∙ ap (λ (n : ℕ). (let r : Result History ScriptFault = Err (record { line = n; cause = fault.cause }) in r)) (sym line)
