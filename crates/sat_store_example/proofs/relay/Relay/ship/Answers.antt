use Rattle.sat_store_example.proofs.Kept.{kept}
use Rattle.sat_store_example.proofs.relay.Relay.ship.Goals as goal

pub invariant_of-self : goal.invariant_of-self
invariant_of-self c = kept _ _ _ c.self.invariant c.ship.ensures.rest
