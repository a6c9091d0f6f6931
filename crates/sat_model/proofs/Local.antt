-- Locality: what a node does is a function of its journal, and what it is handed fits.
use Rattle.std.specs.Prelude.{◌≡◌, ℕ, List, Some}
use Rattle.std.proofs.Common.{sym, ap, ◌∙◌}
use Rattle.sat_act.specs.declared.act.Act.{Act}
use Rattle.sat_act.specs.declared.entry.Entry.{Entry}
use Rattle.sat_act.specs.Deployed.{Deployed}
use Rattle.sat_act.specs.Answers.{answer}
use Rattle.sat_act.specs.Runs.{IsRun}
use Rattle.sat_act.specs.Goals.{IsValid}
use Rattle.sat_model.specs.State.{SiteState}
use Rattle.sat_model.specs.Input.{SiteInput}
use Rattle.sat_model.specs.Reply.{site_answer}
use Rattle.sat_model.specs.Replay.{handed, site_state}
use Rattle.sat_model.specs.Journal.{journal, replay}
pub use Rattle.sat_model.proofs.Fits.{given-fits}
use Rattle.sat_model.proofs.SiteSteps.{replays, site-replies}

-- two histories with one journal at a site have one state there
pub same-state : (d : Deployed) (h k : List Entry) (i : ℕ) → journal d h i ≡ journal d k i → site_state d h i ≡ site_state d k i
same-state d h k i e = sym (replays d h i) ∙ (ap (replay d i) e ∙ replays d k i)

-- and an act there that is handed the same has the same answer
pub same-answer : (d : Deployed) (h k : List Entry) (i : ℕ) (a b : Act) (input : SiteInput) → IsValid d → IsRun d h → IsRun d k → journal d h i ≡ journal d k i → handed d h a i ≡ Some input → handed d k b i ≡ Some input → answer d h a ≡ answer d k b
same-answer d h k i a b input v r s e x y =
    sym (site-replies d h a i input v r x) ∙ (ap (λ (s : SiteState). site_answer d i s input) (same-state d h k i e) ∙ site-replies d k b i input v s y)
