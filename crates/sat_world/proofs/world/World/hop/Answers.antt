use Rattle.std.proofs.Common.{refl}
use Rattle.sat_world.proofs.Counted.{plainly}
use Rattle.sat_world.proofs.Deeds.{hop-placed, hop-there, hop-may, did-hop}
use Rattle.sat_world.proofs.Runs.{seen-as, stays}
use Rattle.sat_world.proofs.world.World.hop.Goals as goal

pub hop_at-requires-clause-within : goal.hop_at-requires-clause-within
hop_at-requires-clause-within c = (hop-placed _ _ _ _ _ c.self.view_is c.self.invariant c.requires).within

pub hop_at-requires-clause-there : goal.hop_at-requires-clause-there
hop_at-requires-clause-there c = λ o at. hop-there _ _ _ _ _ o c.self.view_is c.self.invariant c.requires at

pub hop_at-requires-clause-hop : goal.hop_at-requires-clause-hop
hop_at-requires-clause-hop c = λ n at. hop-may _ _ _ _ _ n c.self.view_is c.self.invariant c.requires at

pub invariant_of-self-2 : goal.invariant_of-self-2
invariant_of-self-2 c = stays _ _ _ _ _ c.self.view_is c.self.invariant c.requires refl (did-hop _ _ _ _ _ _ _ c.self.view_is c.self.invariant c.requires c.in_ok-answer.ensures.ok)

pub returns-clause-applies : goal.returns-clause-applies
returns-clause-applies c = plainly _ _ _ _ _ c.self.view_is c.self.invariant c.requires refl refl
    (seen-as _ _ _ _ _ c.self.view_is (did-hop _ _ _ _ _ _ _ c.self.view_is c.self.invariant c.requires c.in_ok-answer.ensures.ok))
