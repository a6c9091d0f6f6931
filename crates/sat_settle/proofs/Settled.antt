-- A whole settle.
use Rattle.std.specs.Prelude.{◌≡◌, ◌+◌, ◌-◌, ◌^◌, ℕ, min, false, List, ◌∷◌, refl}
use Rattle.std.proofs.Common.{sym, subst, ap, ◌∙◌, inr}
use Rattle.sat_act.specs.declared.act.Act.TheVariants as act
use Rattle.sat_act.specs.declared.answer.Answer.TheVariants as ans
use Rattle.sat_act.specs.declared.entry.Entry.{Entry}
use Rattle.sat_act.specs.Deployed.{Deployed}
use Rattle.sat_act.specs.Limits.{IsDeployment}
use Rattle.sat_act.specs.Runs.{IsRun}
use Rattle.sat_act.specs.Headline.{IsGood}
use Rattle.sat_act.specs.Settling.{capped, opening, settle, answer_of}
use Rattle.sat_act.proofs.Valid.{is_valid, has_trees}
use Rattle.sat_laws.proofs.Headlines.{good}
use Rattle.sat_rest.specs.Rest.{CanEnd, IsAtRest}
use Rattle.sat_rest.proofs.Rest.{rests}
use Rattle.sat_rest.proofs.SettleEnds.{settles}
use Rattle.sat_world.specs.Seen.{WorldSeen}
use Rattle.sat_world.specs.Stands.{StandsFor}
use Rattle.sat_world.proofs.Counting.{undone-keeps}
use Rattle.sat_settle.specs.Bounds.{IsWithinBound}
use Rattle.sat_settle.specs.Going.{Extends, Reaches, StopsBefore, Makes, Stops, MakesRounds, StopsInRounds, EndsRounds, rounds_from}
use Rattle.sat_settle.proofs.Extending.{extends-self, extends-trans, rounds-extends}
use Rattle.sat_settle.proofs.Going.{reaches-on}
use Rattle.sat_settle.proofs.Opened.{opening-extends}
use Rattle.sat_settle.proofs.Ranges.{within}

pub settle-is : (d : Deployed) (h : List Entry) → rounds_from d (opening d h) ≡ settle d h
unfolding settle
settle-is d h = refl

-- the world stands for what a settle makes of h, and its rounds and acts were counted
pub record EndsSettle (d : Deployed) (h : List Entry) (m n : ℕ) (w : WorldSeen) : Type 0 where
  pub reaches : Reaches d h (settle d h).1 n w
  pub rounds : m ≡ capped (settle d h).0

pub ends-by : (v w u : WorldSeen) (n m k t : ℕ) → w.deployment ≡ v.deployment → Makes v (opening v.deployment) n w → MakesRounds w m k u → t ≡ min (n + k) (2 ^ 64 - 1) →
    (h : List Entry) → IsRun v.deployment h → StandsFor v h → EndsSettle v.deployment h m t u
ends-by v w u n m k t same p q e h run st =
    let a : Reaches v.deployment h (opening v.deployment h) n w = p h run st in
    let b : EndsRounds v.deployment (opening v.deployment h) m k u =
    subst (λ (d : Deployed). EndsRounds d (opening v.deployment h) m k u) same (q (opening v.deployment h) (subst (λ (d : Deployed). IsRun d (opening v.deployment h)) (sym same) a.run) a.stands) in
    let c : Reaches v.deployment h (rounds_from v.deployment (opening v.deployment h)).1 t u = reaches-on v.deployment h (opening v.deployment h) (rounds_from v.deployment (opening v.deployment h)).1 n k t w u a b.reaches e in
    record {
      reaches = subst (λ (x : ℕ × List Entry). Reaches v.deployment h x.1 t u) (settle-is v.deployment h) c;
      rounds = b.rounds ∙ ap (λ (x : ℕ × List Entry). capped x.0) (settle-is v.deployment h);
    }

abbrev settled_entry : ℕ → ℕ → Entry
settled_entry m n = record { act = act.Settle; answer = ans.Settled m n; inner = false }

pub settled-answer : (d : Deployed) (h : List Entry) (m n : ℕ) (w : WorldSeen) → EndsSettle d h m n w → ans.Settled m n ≡ answer_of d h act.Settle
unfolding answer_of
settled-answer d h m n w k = ap (λ (x : ℕ). ans.Settled x n) k.rounds ∙ ap (λ (x : ℕ). ans.Settled (capped (settle d h).0) x) k.reaches.count

pub settled-stands : (d : Deployed) (h : List Entry) (m n : ℕ) (w : WorldSeen) → EndsSettle d h m n w → StandsFor w (settled_entry m n ∷ (settle d h).1)
settled-stands d h m n w k = (undone-keeps w (settle d h).1 (settled_entry m n) refl).there k.reaches.stands

pub settled-run : (d : Deployed) (h : List Entry) (m n : ℕ) (w : WorldSeen) → EndsSettle d h m n w → IsRun d (settled_entry m n ∷ (settle d h).1)
unfolding IsRun
settled-run d h m n w k = (k.reaches.run, tt, inr (h, refl, refl, settled-answer d h m n w k))

pub settled-good : (d : Deployed) (h : List Entry) (m n : ℕ) (w : WorldSeen) → IsDeployment d → EndsSettle d h m n w → IsGood d (settled_entry m n ∷ (settle d h).1)
settled-good d h m n w is k = good d (settled_entry m n ∷ (settle d h).1) (is_valid d is) (has_trees d is) (settled-run d h m n w k)

pub settled-bound : (d : Deployed) (h : List Entry) (m n : ℕ) (w : WorldSeen) → IsDeployment d → IsRun d h → EndsSettle d h m n w → IsWithinBound d h (ans.Settled m n)
settled-bound d h m n w is run k = record { rounds = k.rounds; bound = (settles d h (within d is) run).bound }

pub settled-rests : (d : Deployed) (h : List Entry) → IsDeployment d → IsRun d h → (end : CanEnd d (settle d h).1) → IsAtRest d (settle d h).1 end.epoch
settled-rests d h is run end = rests d h (within d is) run end

-- ---- want of memory

settle-extends : (d : Deployed) (h : List Entry) → Extends (opening d h) (settle d h).1
settle-extends d h = subst (λ (x : ℕ × List Entry). Extends (opening d h) x.1) (settle-is d h) (rounds-extends d _ (opening d h))

-- before the first act
pub stops-at-first : (v : WorldSeen) (h : List Entry) → IsRun v.deployment h → StandsFor v h → StopsBefore v.deployment h (settle v.deployment h).1 v
stops-at-first v h run st = record { now = h; stands = st; run = run; from = extends-self h; to = extends-trans h (opening v.deployment h) (settle v.deployment h).1 (opening-extends v.deployment h) (settle-extends v.deployment h) }

-- in the opening
pub stops-in-opening : (v w : WorldSeen) → Stops v (opening v.deployment) w → (h : List Entry) → IsRun v.deployment h → StandsFor v h → StopsBefore v.deployment h (settle v.deployment h).1 w
stops-in-opening v w p h run st =
    let s : StopsBefore v.deployment h (opening v.deployment h) w = p h run st in
    record { now = s.now; stands = s.stands; run = s.run; from = s.from; to = extends-trans s.now (opening v.deployment h) (settle v.deployment h).1 s.to (settle-extends v.deployment h) }

-- in the rounds
pub stops-in-rounds : (v w u : WorldSeen) (n : ℕ) → w.deployment ≡ v.deployment → Makes v (opening v.deployment) n w → StopsInRounds w u → (h : List Entry) → IsRun v.deployment h → StandsFor v h → StopsBefore v.deployment h (settle v.deployment h).1 u
stops-in-rounds v w u n same p q h run st =
    let a : Reaches v.deployment h (opening v.deployment h) n w = p h run st in
    let s : StopsBefore v.deployment (opening v.deployment h) (rounds_from v.deployment (opening v.deployment h)).1 u =
    subst (λ (d : Deployed). StopsBefore d (opening v.deployment h) (rounds_from d (opening v.deployment h)).1 u) same
    (q (opening v.deployment h) (subst (λ (d : Deployed). IsRun d (opening v.deployment h)) (sym same) a.run) a.stands) in
    record {
      now = s.now;
      stands = s.stands;
      run = s.run;
      from = extends-trans h (opening v.deployment h) s.now a.from s.from;
      to = subst (λ (x : ℕ × List Entry). Extends s.now x.1) (settle-is v.deployment h) s.to;
    }
