use Rattle.sat_serial.specs.Outboxes.{SerializerSeen, after_ship}
use Rattle.sat_net.proofs.Lists.{index-at, put-change}
use Rattle.sat_net.proofs.places.ship.Goals as goal

pub ship-requires : goal.ship-requires
ship-requires c = c.requires.neighbour c.index_mut-serializer.result.now (index-at _ _ _ c.requires.within c.index_mut-serializer.ensures.value)

pub returns : goal.returns
returns c = put-change (λ (s : SerializerSeen). after_ship s c.args.to) _ _ _ _ c.requires.within c.index_mut-serializer.ensures.value c.ship.ensures.rest
