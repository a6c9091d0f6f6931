use Rattle.sat_world.proofs.Deeds.{seen-client}
use Rattle.sat_world.proofs.Shown.{shows-moving, shows-point, shows-seat}
use Rattle.sat_world.proofs.world.World.client.Goals as goal

pub returns-clause-point : goal.returns-clause-point
returns-clause-point c = λ h run st. shows-point _ h _ _ st (seen-client _ _ _ _ c.self.view_is c.self.invariant c.requires c.index.ensures)

pub returns-clause-moving : goal.returns-clause-moving
returns-clause-moving c = λ h run st. shows-moving _ h _ _ st (seen-client _ _ _ _ c.self.view_is c.self.invariant c.requires c.index.ensures)

pub returns-clause-seat : goal.returns-clause-seat
returns-clause-seat c = λ h run st. shows-seat _ h _ _ st (seen-client _ _ _ _ c.self.view_is c.self.invariant c.requires c.index.ensures)
