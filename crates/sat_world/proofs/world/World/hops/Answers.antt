use Rattle.sat_world.proofs.Again.{did-all-hops, did-hops, hop-may-all, on-err, out-on, some-hops}
use Rattle.sat_world.proofs.Deeds.{hop-placed, hop-there}
use Rattle.sat_world.proofs.world.World.hops.Goals as goal

pub hops_at-requires-clause-within : goal.hops_at-requires-clause-within
hops_at-requires-clause-within c = (hop-placed _ _ _ _ _ c.self.view_is c.self.invariant c.requires).within

pub hops_at-requires-clause-there : goal.hops_at-requires-clause-there
hops_at-requires-clause-there c = λ o at. hop-there _ _ _ _ _ o c.self.view_is c.self.invariant c.requires at

pub hops_at-requires-clause-hops : goal.hops_at-requires-clause-hops
hops_at-requires-clause-hops c = λ n at. hop-may-all _ _ _ _ _ n c.self.view_is c.self.invariant c.requires at

pub invariant_of-self : goal.invariant_of-self
invariant_of-self c = (did-hops _ _ _ _ _ _ _ c.self.view_is c.self.invariant c.requires c.in_err-done.ensures.err.1).world

pub returns-in_err-done-clause-err : goal.returns-in_err-done-clause-err
returns-in_err-done-clause-err c =
    on-err _ _ (some-hops _ _ _ _ _ _ c.self.view_is c.self.invariant c.requires c.in_err-done.ensures.err)

pub invariant_of-self-2 : goal.invariant_of-self-2
invariant_of-self-2 c = (did-hops _ _ _ _ _ _ _ c.self.view_is c.self.invariant c.requires (out-on _ _ _ _ _ _ _ c.in_ok-done.ensures.ok)).world

pub returns-clause-ok : goal.returns-clause-ok
returns-clause-ok c = did-all-hops _ _ _ _ _ _ _ c.self.view_is c.self.invariant c.requires c.in_ok-done.ensures.ok
