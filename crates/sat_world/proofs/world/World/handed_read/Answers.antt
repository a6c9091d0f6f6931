use Rattle.sat_world.proofs.Reaching.{reach-no-read, reach-read}
use Rattle.sat_world.proofs.world.World.handed_read.Goals as goal

pub returns-in_default : goal.returns-in_default
returns-in_default c = reach-no-read _ _ _ _ c.self.view_is c.self.invariant c.index-known.ensures _ c.requires c.in_default.is

pub returns : goal.returns
returns c = reach-read _ _ _ _ c.self.view_is c.self.invariant c.index-known.ensures _ c.requires _ c.in-Some.is
