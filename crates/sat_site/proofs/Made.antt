-- How many payloads a site made for the others.
use Rattle.std.specs.Prelude.{◌≡◌, ◌<◌, ℕ, List, [], length, Option, Some, None}
use Rattle.std.proofs.Common.{ap, subst, sym, ◌∙◌}
use Rattle.sat_bulk.specs.Payloads.{Payload}
use Rattle.sat_gear.specs.Gear.{GearSeen, lane_to}
use Rattle.sat_act.specs.Deployed.{Deployed}
use Rattle.sat_model.specs.State.{SiteState}
use Rattle.sat_site.specs.Seen.{SiteSeen}
use Rattle.sat_site.specs.Lanes.{lane_of}
use Rattle.sat_site.specs.Stands.{StandsSite}
use Rattle.sat_site.specs.Changes.{HasGear}
use Rattle.sat_site.proofs.Parts.{sites-are}

-- as many as the machine
pub lane-made : (x : SiteSeen) (g to n : ℕ) (gear : GearSeen) → HasGear x g gear → to < x.shape.sites → n ≡ length (lane_to gear to) → (d : Deployed) (i : ℕ) (s : SiteState) → StandsSite d i x s → n ≡ length ((s.gears g).lanes to)
lane-made x g to n gear at lt e d i s st = e ∙ ap (λ (ps : List Payload). length ps) ((st.gears.each g gear at).lanes to (subst (λ (m : ℕ). to < m) (sites-are d i x s st) lt))

pub lane-seen : (x : SiteSeen) (g to n : ℕ) (gear : GearSeen) → HasGear x g gear → n ≡ length (lane_to gear to) → n ≡ length (lane_of x g to)
lane-seen x g to n gear at e = e ∙ sym (ap (λ (o : Option GearSeen). length {A = Payload} (elim o [ None ↦ [] | Some gear ↦ lane_to gear to ])) at)
