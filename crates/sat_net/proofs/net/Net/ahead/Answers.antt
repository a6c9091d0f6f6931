use Rattle.std.proofs.Common.{◌≡◌, List, Some, slice_get, subst}
use Rattle.sat_serial.specs.Outboxes.{SerializerSeen}
use Rattle.sat_net.proofs.Calls.{neighbour-at, label-at}
use Rattle.sat_net.proofs.net.Net.ahead.Goals as goal

pub ahead-requires-clause-neighbour : goal.ahead-requires-clause-neighbour
ahead-requires-clause-neighbour c = λ s at. neighbour-at _ _ _ _ _ c.self.view_is c.self.invariant c.in-Serializer.is c.requires.to c.requires.edge s (subst (λ (ss : List SerializerSeen). slice_get ss c.in-Serializer.z ≡ Some s) c.deref-in-Serializer.ensures.value at)

pub returns-in-Serializer-clause-label : goal.returns-in-Serializer-clause-label
returns-in-Serializer-clause-label c = label-at _ _ _ _ _ c.args.count _ _ c.self.view_is c.self.invariant c.in-Serializer.is c.requires.from c.deref-in-Serializer.ensures.value c.ahead.ensures
