use Rattle.std.proofs.Common.{refl}
use Rattle.sat_world.proofs.Counted.{plainly}
use Rattle.sat_world.proofs.Hands.{client-at, fit-here, seat-within}
use Rattle.sat_world.proofs.Runs.{seen-as, stays}
use Rattle.sat_world.proofs.Seats.{did-move, did-not-move, may-tell-move, move-handed}
use Rattle.sat_world.proofs.world.World.migrate.Goals as goal

pub returns-in_default-clause-applies : goal.returns-in_default-clause-applies
returns-in_default-clause-applies c = plainly _ _ _ _ _ c.self.view_is c.self.invariant c.requires refl refl
    (did-not-move _ _ _ _ c.self.view_is c.self.invariant c.requires.0 c.index-known.ensures _ c.in_default.is)

pub step_at-requires-clause-within : goal.step_at-requires-clause-within
step_at-requires-clause-within c = seat-within _ _ _ _ c.self.invariant (client-at _ _ _ _ c.self.view_is c.self.invariant c.requires.0 c.index-known.ensures) c.in-Some.is

pub step_at-requires-clause-fits : goal.step_at-requires-clause-fits
step_at-requires-clause-fits c = fit-here _ _ _ _ _ c.self.view_is c.self.invariant c.requires (move-handed _ _ _ _ c.self.view_is c.self.invariant c.requires.0 c.index-known.ensures _ _ c.in-Some.is)

pub tell_at-requires-clause-may : goal.tell_at-requires-clause-may
tell_at-requires-clause-may c = may-tell-move _ _ _ _ c.self.view_is c.self.invariant c.requires.0 c.index-known.ensures _ _ _ _ c.in_ok-answer.ensures.ok

pub invariant_of-self-2 : goal.invariant_of-self-2
invariant_of-self-2 c = stays _ _ _ _ _ c.self.view_is c.self.invariant c.requires refl (did-move _ _ _ _ c.self.view_is c.self.invariant c.requires.0 c.index-known.ensures _ _ _ _ _ c.in-Some.is c.in_ok-answer.ensures.ok c.tell_at.ensures)

pub returns-clause-applies : goal.returns-clause-applies
returns-clause-applies c = plainly _ _ _ _ _ c.self.view_is c.self.invariant c.requires refl refl
    (seen-as _ _ _ _ _ c.self.view_is (did-move _ _ _ _ c.self.view_is c.self.invariant c.requires.0 c.index-known.ensures _ _ _ _ _ c.in-Some.is c.in_ok-answer.ensures.ok c.tell_at.ensures))
