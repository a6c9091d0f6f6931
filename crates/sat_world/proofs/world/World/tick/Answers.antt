use Rattle.std.proofs.Common.{refl}
use Rattle.sat_site.specs.declared.input.SiteInput.TheVariants as input
use Rattle.sat_world.proofs.Counted.{plainly}
use Rattle.sat_world.proofs.Goes.{local-goes}
use Rattle.sat_world.proofs.Hands.{fit-here, hands-at}
use Rattle.sat_world.proofs.Runs.{seen-as, stays}
use Rattle.sat_world.proofs.world.World.tick.Goals as goal

pub tick_at-requires-clause-fits : goal.tick_at-requires-clause-fits
tick_at-requires-clause-fits c = fit-here _ _ _ _ _ c.self.view_is c.self.invariant c.requires (hands-at _ _ (input.Tick _ _) refl)

pub invariant_of-self : goal.invariant_of-self
invariant_of-self c = stays _ _ _ _ _ c.self.view_is c.self.invariant c.requires refl (local-goes _ _ _ _ _ _ c.self.invariant.frame refl (hands-at _ _ (input.Tick _ _) refl) c.tick_at.ensures)

pub returns-clause-applies : goal.returns-clause-applies
returns-clause-applies c = plainly _ _ _ _ _ c.self.view_is c.self.invariant c.requires refl refl
    (seen-as _ _ _ _ _ c.self.view_is (local-goes _ _ _ _ _ _ c.self.invariant.frame refl (hands-at _ _ (input.Tick _ _) refl) c.tick_at.ensures))
