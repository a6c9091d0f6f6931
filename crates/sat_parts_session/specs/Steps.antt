-- The steps of a write of several items. Only the contracts of private functions speak of these.
use Rattle.std.specs.Prelude.{ℕ, ◌≡◌, Bool, true, false, List, Result, Ok, Err}
use Rattle.sat_label.specs.declared.label.Label.{Label}
use Rattle.sat_act.specs.declared.answer.Answer.{Answer}
use Rattle.sat_act.specs.declared.answer.Answer.TheVariants as ans
use Rattle.sat_act.specs.Deployed.{Deployed}
use Rattle.sat_gear.specs.Gear.{GearSeen}
use Rattle.sat_node.specs.declared.joint.Part.{Part}
use Rattle.sat_node.specs.declared.kept.CallFault.{CallFault}
use Rattle.sat_node.specs.Links.{Each, HeldSeen}
use Rattle.sat_node.specs.Meanings.{replay}
use Rattle.sat_node.specs.Seen.{NodeSeen}
use Rattle.sat_node.specs.Together.{AllKeep, AllSame, AreSure}
use Rattle.sat_parts.specs.declared.gear_answer.GearAnswer.{GearAnswer}
use Rattle.sat_parts.specs.Acts.{GearActSeen}
use Rattle.sat_parts.specs.GearSteps.{gear_may_fail, gear_takes}
use Rattle.sat_parts.specs.Gears.{gear_meaning}
use Rattle.sat_parts_session.specs.Groups.{shown_under}

-- a gear with its link ends
abbrev pub GearHeld : Type 0
GearHeld = HeldSeen GearSeen GearActSeen GearAnswer

-- these parts are taken for sure by these gears
abbrev pub AreParts : Deployed → List GearHeld → List (Part GearActSeen) → Type 0
AreParts d gears parts =
    AreSure (gear_meaning d) (λ x act. gear_takes x act.input) (λ x act. gear_may_fail act.input) gears parts

-- whatever label a gear answers to this input, these parts show the values under it
abbrev pub ShowItsLabel : Deployed → NodeSeen GearSeen GearActSeen GearAnswer → GearActSeen → ℕ → List (List ℕ)
    → List (Part GearActSeen) → Type 0
ShowItsLabel d node input c values parts =
    (a : GearAnswer) (l : Label)
    → (gear_meaning d).answers node.name (replay (gear_meaning d) node.name node.entries) input a
    → a.answer ≡ ans.Wrote l → Each parts (λ _ p. p.input ≡ shown_under c values l)

-- whether a write was done
abbrev pub did_write : Answer → Bool
did_write (ans.Wrote l) = true
did_write _ = false

abbrev pub is_wrote : Result Answer CallFault → Bool
is_wrote (Ok r) = did_write r
is_wrote (Err f) = false

-- where it was, each of these gears keeps its part under this number
abbrev pub KeepIf : Deployed → Bool → ℕ → List (Part GearActSeen) → List GearHeld → List GearHeld → Type 0
KeepIf d true number parts old new = AllKeep (gear_meaning d) number parts old new
KeepIf d false number parts old new = AllSame old new
