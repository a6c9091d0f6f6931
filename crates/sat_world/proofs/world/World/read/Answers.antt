use Rattle.std.proofs.Common.{refl}
use Rattle.sat_world.proofs.Counted.{plainly}
use Rattle.sat_world.proofs.Deeds.{did-read, did-not-read}
use Rattle.sat_world.proofs.Hands.{client-at, fit-here, read-hands, seat-within, read-told}
use Rattle.sat_world.proofs.Seats.{other-may}
use Rattle.sat_world.proofs.Runs.{seen-as, stays}
use Rattle.sat_world.proofs.world.World.read.Goals as goal

pub returns-in_default-clause-applies : goal.returns-in_default-clause-applies
returns-in_default-clause-applies c = plainly _ _ _ _ _ c.self.view_is c.self.invariant c.requires refl refl
    (did-not-read _ _ _ _ _ c.self.view_is c.self.invariant c.requires.0 c.index-known.ensures c.in_default.is)

pub step_at-requires-clause-within : goal.step_at-requires-clause-within
step_at-requires-clause-within c = seat-within _ _ _ _ c.self.invariant (client-at _ _ _ _ c.self.view_is c.self.invariant c.requires.0 c.index-known.ensures) c.in-Some.is

pub step_at-requires-clause-fits : goal.step_at-requires-clause-fits
step_at-requires-clause-fits c = fit-here _ _ _ _ _ c.self.view_is c.self.invariant c.requires (read-hands _ _ _ _ (client-at _ _ _ _ c.self.view_is c.self.invariant c.requires.0 c.index-known.ensures) c.in-Some.is _)

pub tell_at-requires-clause-may : goal.tell_at-requires-clause-may
tell_at-requires-clause-may c = λ x at. other-may x _ (read-told _ _ _ _ _ _ c.in_ok-answer.ensures.ok)

pub invariant_of-self-2 : goal.invariant_of-self-2
invariant_of-self-2 c = stays _ _ _ _ _ c.self.view_is c.self.invariant c.requires refl
    (did-read _ _ _ _ _ _ _ _ _ c.self.view_is c.self.invariant c.requires.0 c.index-known.ensures c.in-Some.is c.in_ok-answer.ensures.ok c.tell_at.ensures)

pub returns-clause-applies : goal.returns-clause-applies
returns-clause-applies c = plainly _ _ _ _ _ c.self.view_is c.self.invariant c.requires refl refl
    (seen-as _ _ _ _ _ c.self.view_is
    (did-read _ _ _ _ _ _ _ _ _ c.self.view_is c.self.invariant c.requires.0 c.index-known.ensures c.in-Some.is c.in_ok-answer.ensures.ok c.tell_at.ensures))
