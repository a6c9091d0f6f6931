-- What a gear keeps that promises a timestamp.
use Rattle.std.specs.Prelude.{◌≡◌, ℕ, ◌+◌, None}
use Rattle.sat_act.specs.declared.answer.Answer.TheVariants as ans
use Rattle.sat_act.specs.Deployed.{Deployed}
use Rattle.sat_node.specs.Together.{Keeps}
use Rattle.sat_parts.specs.declared.gear_answer.GearAnswer.{GearAnswer}
use Rattle.sat_parts.specs.declared.gear_input.GearInput.TheVariants as gear
use Rattle.sat_parts.specs.Acts.{GearActSeen}
use Rattle.sat_parts.specs.Gears.{gear_meaning}
use Rattle.sat_parts_passes.specs.Gathers.{GearHeld}

-- a tick to this timestamp, which is no client's act
abbrev pub tick_act : ℕ → GearActSeen
tick_act ts = record { by = None; input = gear.Tick ts }

-- the gear keeps one entry more, a tick to this timestamp, which it then has promised
pub record IsTicked (d : Deployed) (ts : ℕ) (old new : GearHeld) : Type 0 where
  pub answer : GearAnswer
  pub told : answer.answer ≡ ans.Ticked ts
  pub kept : Keeps (gear_meaning d) (old.node.number + 1) None (tick_act ts) answer old new
