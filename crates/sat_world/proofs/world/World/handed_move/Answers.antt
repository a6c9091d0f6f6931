use Rattle.sat_world.proofs.Reaching.{reach-move, reach-no-move}
use Rattle.sat_world.proofs.world.World.handed_move.Goals as goal

pub returns-in_default : goal.returns-in_default
returns-in_default c = reach-no-move _ _ _ _ c.self.view_is c.self.invariant c.index-known.ensures _ c.requires c.in_default.is

pub returns : goal.returns
returns c = reach-move _ _ _ _ c.self.view_is c.self.invariant c.index-known.ensures _ _ c.requires c.in-Some.is
