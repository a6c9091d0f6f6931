use Rattle.sat_world.proofs.Reaching.{reach-no-write, reach-write}
use Rattle.sat_world.proofs.world.World.handed_write.Goals as goal

pub returns-in_default : goal.returns-in_default
returns-in_default c = λ a b. reach-no-write _ _ _ _ c.self.view_is c.self.invariant c.index-known.ensures _ _ a b c.in_default.is

pub returns : goal.returns
returns c = λ a b. reach-write _ _ _ _ c.self.view_is c.self.invariant c.index-known.ensures _ _ a b _ c.in-Some.is
