-- What the calls of a site promise.
use Rattle.std.specs.Prelude.{ℕ, ◌≡◌, ◌≤◌, true, List, length, map, slice_get, Some}
use Rattle.sat_label.specs.declared.items.Items.{Items}
use Rattle.sat_label.specs.declared.label.Kind.TheVariants.{Update}
use Rattle.sat_label.specs.Grouped.{list_of}
use Rattle.sat_bulk.specs.Payloads.{Payload}
use Rattle.sat_sites.specs.Interested.{is_for, AreBelow}
use Rattle.sat_sites.specs.declared.shape.Shape.{Shape}
use Rattle.sat_gear.specs.Gear.{GearSeen}
use Rattle.sat_act.specs.declared.answer.Answer.{Answer}
use Rattle.sat_act.specs.Deployed.{Deployed}
use Rattle.sat_act.specs.Limits.{IsDeployment}
use Rattle.sat_act.specs.Parts.{items_of}
use Rattle.sat_model.specs.Input.{SiteInput}
use Rattle.sat_model.specs.State.{SiteState}
use Rattle.sat_model.specs.Reply.{site_answer}
use Rattle.sat_model.specs.Next.{site_next}
pub use Rattle.sat_hub.specs.Gives.{HasTarget, IsLeaving, label_sent, IsSent, IsSentOf}
use Rattle.sat_site.specs.Seen.{SiteSeen}
use Rattle.sat_site.specs.Stands.{StandsSite}

-- the answer is the machine's, at each state that the site stands for
abbrev pub AnswersBy : SiteSeen → SiteInput → Answer → Type 0
AnswersBy x input answer =
    (d : Deployed) (i : ℕ) (s : SiteState) → IsDeployment d → StandsSite d i x s → answer ≡ site_answer d i s input

-- the site then stands for what the answer makes of that state
abbrev pub StandsBy : SiteSeen → SiteInput → Answer → SiteSeen → Type 0
StandsBy x input answer y = (d : Deployed) (i : ℕ) (s : SiteState) → IsDeployment d → StandsSite d i x s
    → StandsSite d i y (site_next d i s input answer)

abbrev pub PromisesUpTo : SiteSeen → ℕ → Type 0
PromisesUpTo x ts = (g : ℕ) (gear : GearSeen) → slice_get x.gears g ≡ Some gear → gear.promise ≤ ts

-- a payload that gear `gear` made for site `to`, with a value for each of its items
pub record IsOfLane (shape : Shape) (gear to : ℕ) (p : Payload) : Type 0 where
  pub made_at : p.label.point.site ≡ shape.site
  pub made_by : p.label.point.gear ≡ gear
  pub items : (items : Items) × (p.label.kind ≡ Update items)
      × AreBelow (length shape.interest.replicas) (list_of items)
  pub values : (values : List (List ℕ)) × (p.values ≡ map Some values)
      × (length values ≡ length (items_of p.label.kind))
  pub target : is_for shape.interest p.label to ≡ true
