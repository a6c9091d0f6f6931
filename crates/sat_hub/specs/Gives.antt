-- What the calls of a hub promise of the labels that they send.
use Rattle.std.specs.Prelude.{ℕ, ◌≡◌, ◌<◌, true, false, Option, Some, None}
use Rattle.sat_label.specs.declared.label.Kind.TheVariants.{Close}
use Rattle.sat_label.specs.declared.label.Label.{Label}
use Rattle.sat_epoch.specs.Epochs.{Epochs, is_stamp}
use Rattle.sat_sites.specs.Interested.{is_for, IsLabelOf}
use Rattle.sat_sites.specs.declared.shape.Shape.{Shape}
use Rattle.sat_act.specs.declared.answer.Answer.{Answer}
use Rattle.sat_act.specs.declared.answer.Answer.TheVariants as ans

-- some other site is a target of the label
abbrev pub HasTarget : Shape → Label → Type 0
HasTarget shape l = (k : ℕ) × (k < shape.sites) × (is_for shape.interest l k ≡ true)

-- a label of the site that enters the tree
pub record IsLeaving (shape : Shape) (l : Label) : Type 0 where
  pub label : IsLabelOf shape.interest l
  pub own : l.point.site ≡ shape.site
  pub target : HasTarget shape l

-- the label that an answer says was sent
abbrev pub label_sent : Answer → Option Label
label_sent (ans.Emitted l) = Some l
label_sent (ans.Pulsed l) = Some l
label_sent (ans.Closed epoch cut) = Some (record { point = cut; kind = Close epoch })
label_sent answer = None

-- the label of an answer is sent exactly where the plan of the emission epoch is a tree and the label has a target
abbrev pub IsSentOf : Shape → Epochs → Option Label → Option Label → Type 0
IsSentOf shape views None o = o ≡ None
IsSentOf shape views (Some l) None = is_stamp views views.emission ≡ false → HasTarget shape l → ⊥
IsSentOf shape views (Some l) (Some m) = (m ≡ l) × (is_stamp views views.emission ≡ false) × IsLeaving shape l

-- the label that a site hands on beside an answer is the one that the answer says was sent, and to whom it may
-- concern
abbrev pub IsSent : Shape → Epochs → Answer → Option Label → Type 0
IsSent shape views answer o = IsSentOf shape views (label_sent answer) o
