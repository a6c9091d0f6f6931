use Rattle.std.proofs.Common.{refl}
use Rattle.sat_world.proofs.Counted.{plainly}
use Rattle.sat_world.proofs.Runs.{seen-as, stays}
use Rattle.sat_world.proofs.Seats.{did-leave, did-not-leave}
use Rattle.sat_world.proofs.world.World.leave.Goals as goal

pub returns-in_default-clause-applies : goal.returns-in_default-clause-applies
returns-in_default-clause-applies c = plainly _ _ _ _ _ c.self.view_is c.self.invariant c.requires refl refl
    (did-not-leave _ _ _ _ c.self.view_is c.self.invariant c.requires c.index-known.ensures c.in_default.is)

pub invariant_of-self : goal.invariant_of-self
invariant_of-self c = stays _ _ _ _ _ c.self.view_is c.self.invariant c.requires refl (did-leave _ _ _ _ c.self.view_is c.self.invariant c.requires c.index-known.ensures _ _ c.in-Some.is c.leave_at.ensures)

pub returns-clause-applies : goal.returns-clause-applies
returns-clause-applies c = plainly _ _ _ _ _ c.self.view_is c.self.invariant c.requires refl refl
    (seen-as _ _ _ _ _ c.self.view_is (did-leave _ _ _ _ c.self.view_is c.self.invariant c.requires c.index-known.ensures _ _ c.in-Some.is c.leave_at.ensures))
