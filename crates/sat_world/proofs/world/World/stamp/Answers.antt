use Rattle.std.proofs.Common.{refl}
use Rattle.sat_site.specs.declared.input.SiteInput.TheVariants as input
use Rattle.sat_world.proofs.Counted.{applies, counted-so, counts-as}
use Rattle.sat_world.proofs.Counting.{recounted}
use Rattle.sat_world.proofs.Goes.{local-goes}
use Rattle.sat_world.proofs.Hands.{fit-here, hands-at, site-within}
use Rattle.sat_world.proofs.Runs.{stays}
use Rattle.sat_world.proofs.world.World.stamp.Goals as goal

pub step_at-requires-clause-within : goal.step_at-requires-clause-within
step_at-requires-clause-within c = site-within _ _ _ c.self.view_is c.self.invariant c.requires

pub step_at-requires-clause-fits : goal.step_at-requires-clause-fits
step_at-requires-clause-fits c = fit-here _ _ _ _ _ c.self.view_is c.self.invariant c.requires (hands-at _ _ input.Stamp refl)

pub invariant_of-self-2 : goal.invariant_of-self-2
invariant_of-self-2 c = recounted _ _ (stays _ _ _ _ _ c.self.view_is c.self.invariant c.requires refl (local-goes _ _ _ _ _ _ c.self.invariant.frame refl (hands-at _ _ input.Stamp refl) c.in_ok-answer.ensures.ok))

pub returns-clause-applies : goal.returns-clause-applies
returns-clause-applies c = applies _ _ _ _ _ c.self.view_is c.self.invariant c.requires refl
    (counts-as _ _ _ _ _ c.self.view_is (counted-so _ _ _ _ _ _ refl (local-goes _ _ _ _ _ _ c.self.invariant.frame refl (hands-at _ _ input.Stamp refl) c.in_ok-answer.ensures.ok) c.more_shown-self-inside.ensures))
