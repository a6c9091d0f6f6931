use Rattle.std.proofs.Common.{refl}
use Rattle.sat_world.proofs.Counted.{plainly}
use Rattle.sat_world.proofs.Deeds.{did-kill, kill-placed, kill-serializer, kill-there}
use Rattle.sat_world.proofs.Runs.{seen-as, stays}
use Rattle.sat_world.proofs.world.World.kill.Goals as goal

pub kill_at-requires-clause-within : goal.kill_at-requires-clause-within
kill_at-requires-clause-within c = (kill-placed _ _ _ _ c.self.view_is c.self.invariant c.requires).within

pub kill_at-requires-clause-there : goal.kill_at-requires-clause-there
kill_at-requires-clause-there c = λ o at. kill-there _ _ _ _ o c.self.view_is c.self.invariant c.requires at

pub kill_at-requires-clause-serializer : goal.kill_at-requires-clause-serializer
kill_at-requires-clause-serializer c = λ n at. kill-serializer _ _ _ _ n c.self.view_is c.self.invariant c.requires at

pub invariant_of-self : goal.invariant_of-self
invariant_of-self c = stays _ _ _ _ _ c.self.view_is c.self.invariant c.requires refl (did-kill _ _ _ _ _ _ c.self.view_is c.self.invariant c.requires c.kill_at.ensures)

pub returns-clause-applies : goal.returns-clause-applies
returns-clause-applies c = plainly _ _ _ _ _ c.self.view_is c.self.invariant c.requires refl refl
    (seen-as _ _ _ _ _ c.self.view_is (did-kill _ _ _ _ _ _ c.self.view_is c.self.invariant c.requires c.kill_at.ensures))
