use Rattle.std.proofs.Common.{refl}
use Rattle.sat_world.proofs.Counted.{plainly}
use Rattle.sat_world.proofs.Hands.{fit-here}
use Rattle.sat_world.proofs.Runs.{seen-as, stays}
use Rattle.sat_world.proofs.Seats.{attach-handed, did-attach, did-not-attach}
use Rattle.sat_world.proofs.world.World.attach.Goals as goal

pub returns-in_default-clause-applies : goal.returns-in_default-clause-applies
returns-in_default-clause-applies c = plainly _ _ _ _ _ c.self.view_is c.self.invariant c.requires refl refl
    (did-not-attach _ _ _ _ c.self.view_is c.self.invariant c.requires.0 c.index-known.ensures _ _ c.in_default.is)

pub step_at-requires-clause-fits : goal.step_at-requires-clause-fits
step_at-requires-clause-fits c = fit-here _ _ _ _ _ c.self.view_is c.self.invariant c.requires (attach-handed _ _ _ _ c.self.view_is c.self.invariant c.requires.0 c.index-known.ensures _ c.in-None.is)

pub invariant_of-self-2 : goal.invariant_of-self-2
invariant_of-self-2 c = stays _ _ _ _ _ c.self.view_is c.self.invariant c.requires refl (did-attach _ _ _ _ c.self.view_is c.self.invariant c.requires.0 c.index-known.ensures _ _ _ _ c.in-None.is c.in_ok-answer.ensures.ok c.join_at.ensures)

pub returns-clause-applies : goal.returns-clause-applies
returns-clause-applies c = plainly _ _ _ _ _ c.self.view_is c.self.invariant c.requires refl refl
    (seen-as _ _ _ _ _ c.self.view_is (did-attach _ _ _ _ c.self.view_is c.self.invariant c.requires.0 c.index-known.ensures _ _ _ _ c.in-None.is c.in_ok-answer.ensures.ok c.join_at.ensures))
