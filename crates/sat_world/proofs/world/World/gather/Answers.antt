use Rattle.std.proofs.Common.{refl}
use Rattle.sat_site.specs.declared.input.SiteInput.TheVariants as input
use Rattle.sat_world.proofs.Counted.{plainly}
use Rattle.sat_world.proofs.Goes.{local-goes}
use Rattle.sat_world.proofs.Hands.{fit-here, hands-at, site-within}
use Rattle.sat_world.proofs.Runs.{seen-as, stays}
use Rattle.sat_world.proofs.world.World.gather.Goals as goal

pub gather_at-requires-clause-within : goal.gather_at-requires-clause-within
gather_at-requires-clause-within c = site-within _ _ _ c.self.view_is c.self.invariant c.requires

pub gather_at-requires-clause-fits : goal.gather_at-requires-clause-fits
gather_at-requires-clause-fits c = fit-here _ _ _ _ _ c.self.view_is c.self.invariant c.requires (hands-at _ _ input.Gather refl)

pub invariant_of-self-2 : goal.invariant_of-self-2
invariant_of-self-2 c = stays _ _ _ _ _ c.self.view_is c.self.invariant c.requires refl (local-goes _ _ _ _ _ _ c.self.invariant.frame refl (hands-at _ _ input.Gather refl) c.in_ok-answer.ensures.ok)

pub returns-clause-applies : goal.returns-clause-applies
returns-clause-applies c = plainly _ _ _ _ _ c.self.view_is c.self.invariant c.requires refl refl
    (seen-as _ _ _ _ _ c.self.view_is (local-goes _ _ _ _ _ _ c.self.invariant.frame refl (hands-at _ _ input.Gather refl) c.in_ok-answer.ensures.ok))
