-- What the code does in an act is the step of the machine, and so the answer and the entry of the history.
use Rattle.std.specs.Prelude.{◌≡◌, false, List, ◌∷◌}
use Rattle.std.proofs.Common.{sym, subst, ap, ◌∙◌, inl}
use Rattle.sat_act.specs.declared.act.Act.{Act}
use Rattle.sat_act.specs.declared.answer.Answer.{Answer}
use Rattle.sat_act.specs.declared.entry.Entry.{Entry}
use Rattle.sat_act.specs.Deployed.{Deployed}
use Rattle.sat_act.specs.Ranges.{IsActOf}
use Rattle.sat_act.specs.Answers.{answer}
use Rattle.sat_act.specs.Runs.{IsRun, is_settle}
use Rattle.sat_act.specs.Headline.{IsGood}
use Rattle.sat_act.specs.Limits.{IsDeployment}
use Rattle.sat_act.proofs.Valid.{is_valid, has_trees}
use Rattle.sat_laws.proofs.Headlines.{good}
use Rattle.sat_model.specs.World.{WorldState, world_answer, world_next, world_step, world_state}
use Rattle.sat_model.proofs.Runs.{step-on}
use Rattle.sat_world.specs.Counts.{counted}
use Rattle.sat_world.specs.Seen.{WorldSeen}
use Rattle.sat_world.specs.Stands.{Stands, StandsFor}
use Rattle.sat_world.specs.Steps.{Goes}
use Rattle.sat_world.specs.Worlds.{IsWorld}
use Rattle.sat_world.proofs.Counting.{now-counted}
use Rattle.sat_world.proofs.Meets.{in-range}

abbrev entry_of : Act → Answer → Entry
entry_of a r = record { act = a; answer = r; inner = false }

step-parts : (d : Deployed) (h : List Entry) (a : Act) → IsDeployment d → IsActOf d a → IsRun d h → is_settle a ≡ false →
    (world_answer d (world_state d h) a ≡ answer d h a) × (world_next d (world_state d h) a (world_answer d (world_state d h) a) ≡ world_state d (entry_of a (answer d h a) ∷ h))
unfolding world_step
step-parts d h a k b run p =
    let e : world_step d (world_state d h) a ≡ (answer d h a, world_state d (entry_of a (answer d h a) ∷ h)) = step-on d h a (is_valid d k) run (in-range d a b) p in
    (ap (λ (p : Answer × WorldState). p.0) e, ap (λ (p : Answer × WorldState). p.1) e)

goes-on : (d : Deployed) (h : List Entry) (a : Act) (r : Answer) → IsActOf d a → IsRun d h → is_settle a ≡ false → r ≡ answer d h a → IsRun d (entry_of a r ∷ h)
unfolding IsRun
goes-on d h a r b run p e = (run, in-range d a b, inl (p, e))

-- by the machine's law, the answer is the history's, and the parts of the world are then those of the history with the entry, which
-- is a run
pub record Runs (w v : WorldSeen) (h : List Entry) (a : Act) (r : Answer) : Type 0 where
  pub answer : r ≡ answer w.deployment h a
  pub run : IsRun w.deployment (record { act = a; answer = r; inner = false } ∷ h)
  pub stands : Stands v (world_state v.deployment (record { act = a; answer = r; inner = false } ∷ h))
  pub good : IsGood w.deployment (record { act = a; answer = r; inner = false } ∷ h)

pub runs : (w v : WorldSeen) (h : List Entry) (a : Act) (r : Answer) → IsDeployment w.deployment → IsActOf w.deployment a → is_settle a ≡ false → IsRun w.deployment h → Stands w (world_state w.deployment h) → Goes w a r v → Runs w v h a r
runs w v h a r k b p run st g = record {
  answer = told;
  run = next-run;
  stands = subst (λ (d : Deployed). Stands v (world_state d (entry_of a r ∷ h))) (sym g.deployment) (subst (Stands v) next (g.stands (world_state d h) st));
  good = good d (entry_of a r ∷ h) (is_valid d k) (has_trees d k) next-run;
}
  where
    d : Deployed
    d = w.deployment

    machine : r ≡ world_answer d (world_state d h) a
    machine = g.answer (world_state d h) st

    told : r ≡ answer d h a
    told = machine ∙ (step-parts d h a k b run p).0

    next-run : IsRun d (entry_of a r ∷ h)
    next-run = goes-on d h a r b run p told

    next : world_next d (world_state d h) a r ≡ world_state d (entry_of a r ∷ h)
    next = ap (world_next d (world_state d h) a) machine ∙ ((step-parts d h a k b run p).1 ∙ ap (λ (x : Answer). world_state d (entry_of a x ∷ h)) (sym told))

-- what holds of a world holds of it after an act: it stands for the history with the entry
pub stays : (w v u : WorldSeen) (a : Act) (r : Answer) → w ≡ v → IsWorld w → IsActOf v.deployment a → is_settle a ≡ false → Goes w a r u → IsWorld u
stays w v u a r e k b p g =
    let q : Runs w u k.history a r = runs w u k.history a r k.frame.deployment (subst (λ (v : WorldSeen). IsActOf v.deployment a) (sym e) b) p k.run k.stands g in
    record { frame = g.frame; history = entry_of a r ∷ k.history; run = subst (λ (d : Deployed). IsRun d (entry_of a r ∷ k.history)) (sym g.deployment) q.run; stands = q.stands }

-- what an act does to w it does to the same world v
pub seen-as : (w v u : WorldSeen) (a : Act) (r : Answer) → w ≡ v → Goes w a r u → Goes v a r u
seen-as w v u a r e g = subst (λ (v : WorldSeen). Goes v a r u) e g

-- the same of a world that stands for the history, once it has counted the answer
pub runs-counted : (w v : WorldSeen) (h : List Entry) (a : Act) (r : Answer) → IsDeployment w.deployment → IsActOf w.deployment a → is_settle a ≡ false → IsRun w.deployment h → StandsFor w h → Goes w a r v →
    StandsFor (record v { shown = counted r v.shown }) (entry_of a r ∷ h)
runs-counted w v h a r k b p run st g = now-counted v h a r (g.shown ∙ st.shown) (runs w v h a r k b p run st.parts g).stands
