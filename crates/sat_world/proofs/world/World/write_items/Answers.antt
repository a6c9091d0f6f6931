use Rattle.sat_world.proofs.Hands.{write-told}
use Rattle.sat_world.proofs.Seats.{other-may}
use Rattle.sat_world.proofs.Writing.{seat-there, write-applies, write-fits, write-stays, writes-nowhere}
use Rattle.sat_world.proofs.world.World.write_items.Goals as goal

pub returns-in_default-clause-applies : goal.returns-in_default-clause-applies
returns-in_default-clause-applies c = λ a b. writes-nowhere _ _ _ _ _ a _ c.self.view_is c.self.invariant b c.index-known.ensures c.in_default.is

pub write_at-requires-clause-within : goal.write_at-requires-clause-within
write_at-requires-clause-within c = seat-there _ _ _ _ _ c.requires.0 _ c.self.view_is c.self.invariant c.requires.1 c.index-known.ensures _ c.in-Some.is

pub write_at-requires-clause-fits : goal.write_at-requires-clause-fits
write_at-requires-clause-fits c = write-fits _ _ _ _ _ c.requires.0 _ c.self.view_is c.self.invariant c.requires.1 c.index-known.ensures _ c.in-Some.is

pub tell_at-requires-clause-may : goal.tell_at-requires-clause-may
tell_at-requires-clause-may c = λ x at. other-may x _ (write-told _ _ _ _ _ _ _ c.in_ok-answer.ensures.ok)

pub invariant_of-self-2 : goal.invariant_of-self-2
invariant_of-self-2 c = write-stays _ _ _ _ _ c.requires.0 _ c.self.view_is c.self.invariant c.requires.1 c.index-known.ensures _ c.in-Some.is _ _ _ c.in_ok-answer.ensures.ok c.tell_at.ensures

pub returns-clause-applies : goal.returns-clause-applies
returns-clause-applies c = λ a b. write-applies _ _ _ _ _ a _ c.self.view_is c.self.invariant b c.index-known.ensures _ c.in-Some.is _ _ _ c.in_ok-answer.ensures.ok c.tell_at.ensures
