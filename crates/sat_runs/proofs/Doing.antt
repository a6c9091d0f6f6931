-- What one act does to a world, be it a settle or not.
use Rattle.std.proofs.Common.{◌≡◌, true, false, List, [], ◌∷◌, Result, Ok, Err, IfOk, OnErr, refl, sym, ap, subst, ◌∙◌}
use Rattle.sat_act.specs.declared.act.Act.{Act}
use Rattle.sat_act.specs.declared.act.Act.TheVariants as act
use Rattle.sat_act.specs.declared.answer.Answer.{Answer}
use Rattle.sat_act.specs.declared.entry.Entry.{Entry}
use Rattle.sat_act.specs.Deployed.{Deployed}
use Rattle.sat_act.specs.Answers.{answer}
use Rattle.sat_act.specs.Runs.{IsRun, is_settle}
use Rattle.sat_act.specs.Settling.{answer_of, settle, with_inner}
use Rattle.sat_world.specs.Seen.{WorldSeen}
use Rattle.sat_world.specs.Stands.{StandsFor}
use Rattle.sat_world.specs.Applies.{Applies}
use Rattle.sat_settle.specs.Going.{StopsBefore}
use Rattle.sat_runs.specs.Running.{entry, Does, StopsIn}

pub is_plain : (a : Act) → (a ≡ act.Settle → ⊥) → is_settle a ≡ false
is_plain act.Settle other = absurd (other refl)
is_plain _ other = refl

plain-answer : (d : Deployed) (h : List Entry) (a : Act) → is_settle a ≡ false → answer_of d h a ≡ answer d h a
unfolding answer_of
plain-answer d h act.Settle plain = absurd (cc)
plain-answer d h a plain = refl

plain-inner : (d : Deployed) (h : List Entry) (a : Act) → is_settle a ≡ false → with_inner d h a ≡ h
unfolding with_inner
plain-inner d h act.Settle plain = absurd (cc)
plain-inner d h a plain = refl

-- what a settle answers and leaves
abbrev SaysSettled : WorldSeen → Answer → Type 0
SaysSettled old r = (h : List Entry) → IsRun old.deployment h → StandsFor old h → r ≡ answer_of old.deployment h act.Settle

abbrev StandsSettled : WorldSeen → Answer → WorldSeen → Type 0
StandsSettled old r new = (h : List Entry) → IsRun old.deployment h → StandsFor old h → StandsFor new (entry act.Settle r ∷ (settle old.deployment h).1)

pub settled : (old new : WorldSeen) (a : Act) (r : Answer) → a ≡ act.Settle → SaysSettled old r → StandsSettled old r new → Does old a r new
unfolding with_inner
settled old new a r is says stands h run now = rw is (record { answer = says h run now; stands = stands h run now })

pub did : (old new : WorldSeen) (a : Act) (r : Answer) → (a ≡ act.Settle → ⊥)
    → ((h : List Entry) → IsRun old.deployment h → StandsFor old h → r ≡ answer old.deployment h a)
    → ((h : List Entry) → IsRun old.deployment h → StandsFor old h → StandsFor new (entry a r ∷ h))
    → Does old a r new
did old new a r other says stands h run now =
    let plain = is_plain a other in record {
      answer = says h run now ∙ sym (plain-answer old.deployment h a plain);
      stands = rw (plain-inner old.deployment h a plain) (stands h run now);
    }

-- what a step of the world does
pub stepped : {E : Type 0} (x : Result Answer E) (old new : WorldSeen) (a : Act) → (a ≡ act.Settle → ⊥) → IfOk x (λ r. Applies old a r new) → IfOk x (λ r. Does old a r new)
stepped (Ok r) old new a other applies = did old new a r other applies.answer applies.stands
stepped (Err e) old new a other applies = tt

pub stays : {E : Type 0} (x : Result Answer E) (old new : WorldSeen) (a : Act) → IfOk x (λ r. Applies old a r new) → OnErr x (new ≡ old) → new.deployment ≡ old.deployment
stays (Ok r) old new a applies err = applies.deployment
stays (Err e) old new a applies err = ap (λ (w : WorldSeen). w.deployment) err

-- two clauses on a result that is handed on as it is
pub both_of : {E : Type 0} (P Q R : Answer → Type 0) (result : Result Answer E) → ((r : Answer) → P r → Q r → R r) → IfOk result P → IfOk result Q → IfOk result R
both_of P Q R (Ok r) gives p q = gives r p q
both_of P Q R (Err e) gives p q = tt

-- ---- memory runs out

pub stayed : {E : Type 0} (x : Result Answer E) (old new : WorldSeen) (a : Act) → (a ≡ act.Settle → ⊥) → OnErr x (new ≡ old) → OnErr x (StopsIn old a new)
stayed (Ok r) old new a other err = tt
stayed (Err e) old new a other err = record {
  plain = λ _. err;
  front = λ h run now. record { now = h; stands = subst (λ (w : WorldSeen). StandsFor w h) (sym err) now; run = run; from = ([], refl); to = ([], plain-inner old.deployment h a (is_plain a other)) };
}

abbrev StopsSettling : WorldSeen → WorldSeen → Type 0
StopsSettling old new = (h : List Entry) → IsRun old.deployment h → StandsFor old h → StopsBefore old.deployment h (settle old.deployment h).1 new

pub stopped : {E : Type 0} (x : Result Answer E) (old new : WorldSeen) (a : Act) → a ≡ act.Settle → OnErr x (StopsSettling old new) → OnErr x (StopsIn old a new)
unfolding with_inner
stopped (Ok r) old new a is err = tt
stopped (Err e) old new a is err = record {
  plain = λ plain. absurd (let never : true ≡ false = sym (ap is_settle is) ∙ plain in cc);
  front = λ h run now. rw is (err h run now);
}
