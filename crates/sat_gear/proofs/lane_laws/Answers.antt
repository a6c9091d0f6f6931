use Rattle.sat_gear.proofs.Gears.{each-lane}
use Rattle.sat_gear.proofs.lane_laws.Goals as goal

pub returns : goal.returns
returns c = each-lane
