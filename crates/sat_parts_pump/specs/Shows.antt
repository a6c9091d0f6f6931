-- What a hub and the gears that it needs keep of what is next.
use Rattle.std.specs.Prelude.{◌≡◌, ℕ, ◌+◌, ◌&&◌, Bool, true, false, List, Some, None}
use Rattle.sat_act.specs.Deployed.{Deployed}
use Rattle.sat_node.specs.declared.kept.CallFault.{CallFault}
use Rattle.sat_node.specs.Together.{Keeps}
use Rattle.sat_machines.specs.Layout.{label_link}
use Rattle.sat_passes.specs.Sendings.{FailsAlone}
use Rattle.sat_parts.specs.declared.gear_input.ShownBy.TheVariants as act
use Rattle.sat_parts.specs.declared.hub_answer.HubAnswer.{HubAnswer}
use Rattle.sat_parts.specs.declared.hub_input.HubInput.TheVariants as hub
use Rattle.sat_parts.specs.Hubs.{hub_meaning}
use Rattle.sat_parts.specs.HubSteps.{hub_answers}
use Rattle.sat_parts_passes.specs.Gathers.{GearHeld}
use Rattle.sat_parts_passes.specs.Sendings.{HubHeld, of_hub}
use Rattle.sat_parts_passes.specs.Shows.{FailsShown, IsShown, turn_of, would_show}
use Rattle.sat_parts_pump.specs.declared.coming.Next.{Next}
use Rattle.sat_parts_pump.specs.declared.coming.Next.TheVariants as next
use Rattle.sat_parts_pump.specs.Lent.{are_lent}
use Rattle.sat_parts_pump.specs.Next.{lent_for, next_of}

-- the number of the end for the tree of a hub's view
abbrev pub view_link : Deployed → HubHeld → ℕ
view_link d h = label_link d h.node.machine.views.view

-- whether these gears may be handed what the hub shows, where this is next
abbrev pub would_next : Deployed → Next → HubHeld → List GearHeld → Bool
would_next d next.Nothing h gears = false
would_next d (next.Turn shown) h gears = would_show act.Turn (turn_of h (view_link d h)) h.node.machine gears
would_next d (next.Stamp shown) h gears = would_show act.Stamp hub.Stamp h.node.machine gears
would_next d next.Advance h gears = true

-- and whether they are the gears that this needs
abbrev pub may_by : Deployed → Next → HubHeld → List GearHeld → Bool
may_by d todo h gears = are_lent h.node.machine.shape (lent_for todo) gears && would_next d todo h gears

-- whether the hub does what is next with these gears
abbrev pub may_show : Deployed → HubHeld → List GearHeld → Bool
may_show d h gears = may_by d (next_of d h) h gears

-- the hub keeps one entry more, an advance, with what its machine answers
pub record IsAdvanced (d : Deployed) (old new : HubHeld) : Type 0 where
  pub answer : HubAnswer
  pub told : answer.answer ≡ hub_answers old.node.machine hub.Advance
  pub kept : Keeps (hub_meaning d) (old.node.number + 1) None (of_hub hub.Advance) answer old new

-- what they keep of what is next: of a turn and of a stamp each its part, under one number; an advance is the hub's
-- alone
abbrev pub HasShown : Deployed → Next → HubHeld → List GearHeld → HubHeld → List GearHeld → Type 0
HasShown d next.Nothing h gears h_then gears_then = ⊥
HasShown d (next.Turn shown) h gears h_then gears_then =
    IsShown d (Some (view_link d h)) act.Turn (turn_of h (view_link d h)) h gears h_then gears_then
HasShown d (next.Stamp shown) h gears h_then gears_then =
    IsShown d None act.Stamp hub.Stamp h gears h_then gears_then
HasShown d next.Advance h gears h_then gears_then = IsAdvanced d h h_then × (gears_then ≡ gears)

-- memory ran out, or the greatest number is that of the front that the hub takes or of one of the nodes
abbrev pub FailsNext : Deployed → Next → HubHeld → List GearHeld → CallFault → Type 0
FailsNext d next.Nothing h gears f = ⊥
FailsNext d (next.Turn shown) h gears f = FailsShown (Some (view_link d h)) h gears f
FailsNext d (next.Stamp shown) h gears f = FailsShown None h gears f
FailsNext d next.Advance h gears f = FailsAlone h f
