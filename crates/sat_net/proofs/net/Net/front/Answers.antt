use Rattle.std.proofs.Common.{◌≡◌, List, Some, slice_get, subst}
use Rattle.sat_serial.specs.Outboxes.{SerializerSeen}
use Rattle.sat_net.proofs.Calls.{neighbour-at, label-at}
use Rattle.sat_net.proofs.net.Net.front.Goals as goal

pub front-requires-clause-neighbour : goal.front-requires-clause-neighbour
front-requires-clause-neighbour c = λ s at. neighbour-at _ _ _ _ _ c.self.view_is c.self.invariant c.in-Serializer.is c.requires.to c.requires.edge s (subst (λ (ss : List SerializerSeen). slice_get ss c.in-Serializer.z ≡ Some s) c.deref-in-Serializer.ensures.value at)

pub returns-in-Serializer : goal.returns-in-Serializer
returns-in-Serializer c = label-at _ _ _ _ _ 0 _ _ c.self.view_is c.self.invariant c.in-Serializer.is c.requires.from c.deref-in-Serializer.ensures.value c.front.ensures
