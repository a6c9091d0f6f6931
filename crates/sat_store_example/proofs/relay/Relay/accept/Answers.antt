use Rattle.sat_store_example.proofs.Kept.{kept}
use Rattle.sat_store_example.proofs.relay.Relay.accept.Goals as goal
use Rattle.sat_store_example.proofs.relay.Relay.accept.Goals.{in-Ok, in-Err-Dead, in-Err-Memory}

pub invariant_of-self : goal.invariant_of-self
invariant_of-self c = elim c.match-handle.branch [
  | in-Ok w ↦ kept _ _ _ c.self.invariant w.in-Ok.ensures.ok
  | in-Err-Dead w ↦ kept _ _ c.self.inside.serializer.outboxes c.self.invariant w.in-Err-Dead.ensures.err
  | in-Err-Memory w ↦ kept _ _ c.self.inside.serializer.outboxes c.self.invariant w.in-Err-Memory.ensures.err
]
