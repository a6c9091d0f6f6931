use Rattle.sat_world.proofs.Reaching.{reach-attach, reach-no-attach}
use Rattle.sat_world.proofs.world.World.handed_attach.Goals as goal

pub returns-in_default : goal.returns-in_default
returns-in_default c = reach-no-attach _ _ _ _ c.self.view_is c.self.invariant c.index-known.ensures _ _ c.requires c.in_default.is

pub returns : goal.returns
returns c = reach-attach _ _ _ _ c.self.view_is c.self.invariant c.index-known.ensures _ c.requires c.in-None.is
