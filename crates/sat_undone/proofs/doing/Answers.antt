use Rattle.sat_undone.proofs.Fronts.{fronts_are_done}
use Rattle.sat_undone.proofs.doing.Goals as goal

pub returns : goal.returns
returns c = record { done = fronts_are_done }
