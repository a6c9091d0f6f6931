-- A site is its hub and its gears: what an entry does at the site is what it does at its nodes there. A site is
-- compared in all but versions of items that it doesn't keep.
use Rattle.std.specs.Prelude.{◌≡◌, ◌<◌, ℕ, Bool, true, false, ◌==◌, nat_lt, Some}
use Rattle.sat_label.specs.Words.{has}
use Rattle.sat_label.specs.declared.label.Label.{Label}
use Rattle.sat_act.specs.declared.act.Act.{Act}
use Rattle.sat_act.specs.declared.answer.Answer.{Answer}
use Rattle.sat_act.specs.declared.answer.Answer.TheVariants as ans
use Rattle.sat_act.specs.Deployed.{Deployed}
use Rattle.sat_model.specs.Input.{SiteInput}
use Rattle.sat_model.specs.Next.{site_next}
use Rattle.sat_model.specs.Reply.{site_answer}
use Rattle.sat_stitch.specs.Kept.{Given}
use Rattle.sat_stitch.specs.Nodes.{input_of}
use Rattle.sat_joint.specs.Pieces.{Handed, given_of}
use Rattle.sat_joint.specs.Table.{AtHub, AtGear, same_node, nodes, is_first}
use Rattle.sat_joint.specs.Machines.{HubState, GearNode, fresh_gear, kept_site, whole, hub_by, gear_by, IsHubAnswer}
use Rattle.sat_joint.specs.Machines.{IsGearAnswer}
use Rattle.sat_joint.specs.Joint.{Hands, Passes}

abbrev pub is_beat : Answer → Bool
is_beat (ans.Beat n) = true
is_beat _ = false

-- what an entry does at its site, whose hub and gears are then these
pub record SiteSteps (d : Deployed) (i : ℕ) (a : Act) (x : Given) (r : Answer) (h k : HubState) (gs ns : ℕ →
    GearNode) : Type 0 where
  pub input : SiteInput
  pub handed : input_of a x ≡ Some input
  pub answer : r ≡ site_answer d i (whole d i h gs) input
  pub state : kept_site d i (site_next d i (whole d i h gs) input r) ≡ whole d i k ns
  pub wrote : (l : Label) → r ≡ ans.Wrote l → is_first (AtGear i l.point.gear) (nodes d a x r) ≡ true
  pub beat : has same_node (nodes d a x r) (AtHub i) ≡ false → is_beat r ≡ false

abbrev pub at_gear : Deployed → ℕ → Act → Given → Answer → ℕ → Bool
at_gear d i a x r g = has same_node (nodes d a x r) (AtGear i g)

-- what becomes of the gears of a site, of which those at which the act stands were handed this
pub record GearsMove (d : Deployed) (i : ℕ) (a : Act) (x : Given) (r : Answer) (c : ℕ → Handed) (gs ns : ℕ →
    GearNode) : Type 0 where
  pub same : (g : ℕ) → at_gear d i a x r g ≡ false → ns g ≡ gs g
  pub new : (g : ℕ) → at_gear d i a x r g ≡ true → ns g ≡ gear_by d g (gs g) a (c g) r
  pub range : (g : ℕ) → at_gear d i a x r g ≡ true → g < d.gears
  pub far : (g : ℕ) → nat_lt g d.gears ≡ false → gs g ≡ fresh_gear

-- an act whose home is a hub: from the hub's answer, and from what the hub and its gears handed to each other
abbrev pub HubsStep : Type 0
HubsStep = (d : Deployed) (i : ℕ) (a : Act) (r : Answer) (h : HubState) (gs ns : ℕ → GearNode) (c : ℕ →
    Handed) (y : Handed) →
    is_first (AtHub i) (nodes d a (given_of y) r) ≡ true → GearsMove d i a (given_of y) r c gs ns → ((g : ℕ) →
    at_gear d i a (given_of y) r g ≡ true → Hands h (gs g) g y r (c g)) → IsHubAnswer d i h a y r →
    SiteSteps d i a (given_of y) r h (hub_by d i h a y r) gs ns

-- an act whose home is a gear: from the gear's answer, and from what it hands to other gears
abbrev pub GearsStep : Type 0
GearsStep = (d : Deployed) (i : ℕ) (a : Act) (r : Answer) (h : HubState) (gs ns : ℕ → GearNode) (c : ℕ →
    Handed) (g : ℕ) (y : Handed) →
    is_first (AtGear i g) (nodes d a (given_of y) r) ≡ true → GearsMove d i a (given_of y) r c gs ns → c g ≡ y →
    ((n : ℕ) → at_gear d i a (given_of y) r n ≡ true → (g == n) ≡ false → Passes a y r (c n)) →
    IsGearAnswer d i (gs g) a y r →
    SiteSteps d i a (given_of y) r h h gs ns
