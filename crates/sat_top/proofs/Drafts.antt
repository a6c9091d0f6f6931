-- What the world's call of a kind of act does, as a clause says it of the act that was drawn.
use Rattle.std.proofs.Common.{◌≡◌, true, false, List, ◌∷◌, Result, Ok, Err, IfOk, sym, ap, ◌∙◌}
use Rattle.std.specs.declared.alloc.AllocError.{AllocError}
use Rattle.sat_act.specs.declared.act.Act.{Act}
use Rattle.sat_act.specs.declared.act.Act.TheVariants as act
use Rattle.sat_act.specs.declared.answer.Answer.{Answer}
use Rattle.sat_act.specs.declared.entry.Entry.{Entry}
use Rattle.sat_act.specs.Runs.{IsRun, is_settle}
use Rattle.sat_act.specs.Settling.{answer_of, settle}
use Rattle.sat_world.specs.Applies.{Applies}
use Rattle.sat_world.specs.Seen.{WorldSeen}
use Rattle.sat_world.specs.Stands.{StandsFor}
use Rattle.sat_runs.specs.Running.{entry}
use Rattle.sat_runs.proofs.Doing.{did, settled}
use Rattle.sat_top.specs.UnderWay.{DoesHere}

no_settle : (a : Act) → is_settle a ≡ false → a ≡ act.Settle → ⊥
no_settle a plain is = let e : true ≡ false = sym (ap is_settle is) ∙ plain in cc

module _ (old new : WorldSeen) (a : Act) where
  -- any act but a settle
  pub applied : (b : Act) (x : Result Answer AllocError) → a ≡ b → is_settle b ≡ false → IfOk x (λ r. Applies old b r new) → IfOk x (λ r. DoesHere old a r new)
  applied b (Ok r) is plain s = rw is (did old new b r (no_settle b plain) s.answer s.stands, s.deployment)
  applied b (Err e) is plain s = tt

  pub settled_here : (x : Result Answer AllocError) → a ≡ act.Settle
      → IfOk x (λ r. (h : List Entry) → IsRun old.deployment h → StandsFor old h → r ≡ answer_of old.deployment h act.Settle)
      → IfOk x (λ r. (h : List Entry) → IsRun old.deployment h → StandsFor old h → StandsFor new (entry act.Settle r ∷ (settle old.deployment h).1))
      → new.deployment ≡ old.deployment → IfOk x (λ r. DoesHere old a r new)
  settled_here (Ok r) is says stands same = (settled old new a r is says stands, same)
  settled_here (Err e) is says stands same = tt
