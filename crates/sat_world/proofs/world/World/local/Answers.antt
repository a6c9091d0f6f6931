use Rattle.sat_world.proofs.Counted.{plainly, quiet-local, quiet-shows}
use Rattle.sat_world.proofs.Goes.{local-goes}
use Rattle.sat_world.proofs.Hands.{fit-here, hands-at, local-plain, local-site, site-within}
use Rattle.sat_world.proofs.Runs.{seen-as, stays}
use Rattle.sat_world.proofs.world.World.local.Goals as goal

pub step_at-requires-clause-within : goal.step_at-requires-clause-within
step_at-requires-clause-within c = site-within _ _ _ c.self.view_is c.self.invariant (local-site _ _ _ (quiet-local _ c.requires.quiet) c.requires.act)

pub step_at-requires-clause-fits : goal.step_at-requires-clause-fits
step_at-requires-clause-fits c = fit-here _ _ _ _ _ c.self.view_is c.self.invariant c.requires.act (hands-at _ _ _ (local-plain _ (quiet-local _ c.requires.quiet)))

pub invariant_of-self-2 : goal.invariant_of-self-2
invariant_of-self-2 c = stays _ _ _ _ _ c.self.view_is c.self.invariant c.requires.act (local-plain _ (quiet-local _ c.requires.quiet)) (local-goes _ _ _ _ _ _ c.self.invariant.frame (quiet-local _ c.requires.quiet) (hands-at _ _ _ (local-plain _ (quiet-local _ c.requires.quiet))) c.in_ok-answer.ensures.ok)

pub returns-clause-applies : goal.returns-clause-applies
returns-clause-applies c = plainly _ _ _ _ _ c.self.view_is c.self.invariant c.requires.act (local-plain _ (quiet-local _ c.requires.quiet)) (quiet-shows _ c.requires.quiet)
    (seen-as _ _ _ _ _ c.self.view_is (local-goes _ _ _ _ _ _ c.self.invariant.frame (quiet-local _ c.requires.quiet) (hands-at _ _ _ (local-plain _ (quiet-local _ c.requires.quiet))) c.in_ok-answer.ensures.ok))
