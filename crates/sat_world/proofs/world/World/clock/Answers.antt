use Rattle.std.proofs.Common.{◌∙◌, refl, sym}
use Rattle.sat_world.proofs.Counted.{plainly}
use Rattle.sat_world.proofs.Deeds.{gears-are, did-clock}
use Rattle.sat_world.proofs.Runs.{seen-as, stays}
use Rattle.sat_world.proofs.world.World.clock.Goals as goal

pub greatest-ts-requires-clause-gears : goal.greatest-ts-requires-clause-gears
greatest-ts-requires-clause-gears c = gears-are _ _ _ c.self.invariant c.gears-gears.ensures.gears c.deref.ensures.value

pub invariant_of-self : goal.invariant_of-self
invariant_of-self c = stays _ _ _ _ _ c.self.view_is c.self.invariant (tt {0}) refl
    (did-clock _ _ _ _ _ _ _ c.self.invariant c.deref.ensures.value c.deref_mut.ensures.value c.gears-gears.ensures.gears (sym c.deref_mut.ensures.len ∙ sym c.raise.ensures.count) c.greatest-ts.ensures.greatest c.greatest-ts.ensures.above c.raise.ensures)

pub returns-clause-applies : goal.returns-clause-applies
returns-clause-applies c = plainly _ _ _ _ _ c.self.view_is c.self.invariant (tt {0}) refl refl
    (seen-as _ _ _ _ _ c.self.view_is
    (did-clock _ _ _ _ _ _ _ c.self.invariant c.deref.ensures.value c.deref_mut.ensures.value c.gears-gears.ensures.gears (sym c.deref_mut.ensures.len ∙ sym c.raise.ensures.count) c.greatest-ts.ensures.greatest c.greatest-ts.ensures.above c.raise.ensures))
