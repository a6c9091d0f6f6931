-- A world without the past gives the answers of the run, and ends as the world that stands for it.
use Rattle.std.specs.Prelude.{◌≡◌, false, List, ◌∷◌}
use Rattle.sat_act.specs.declared.act.Act.{Act}
use Rattle.sat_act.specs.declared.entry.Entry.{Entry}
use Rattle.sat_act.specs.Deployed.{Deployed}
use Rattle.sat_act.specs.Answers.{answer, InRange}
use Rattle.sat_act.specs.Runs.{IsRun, is_settle}
use Rattle.sat_act.specs.Goals.{IsValid}
use Rattle.sat_laws.proofs.Runs.{entry, run-on}
use Rattle.sat_model.specs.World.{world_step, world_state}
use Rattle.sat_model.proofs.Worlds.{world-steps}

pub step-on : (d : Deployed) (h : List Entry) (a : Act) → IsValid d → IsRun d h → InRange d a → is_settle a ≡ false → world_step d (world_state d h) a ≡ (answer d h a, world_state d (entry a (answer d h a) false ∷ h))
step-on d h a v run range plain = world-steps d h a v (run-on d h a false plain run range)
