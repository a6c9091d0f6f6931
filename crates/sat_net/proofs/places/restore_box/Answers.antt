use Rattle.sat_serial.specs.Outboxes.{SerializerSeen, with_box}
use Rattle.sat_net.proofs.Lists.{index-at, put-change}
use Rattle.sat_net.proofs.places.restore_box.Goals as goal

pub restore-requires : goal.restore-requires
restore-requires c = c.requires.neighbour c.index_mut-serializer.result.now (index-at _ _ _ c.requires.within c.index_mut-serializer.ensures.value)

pub returns : goal.returns
returns c = put-change (λ (s : SerializerSeen). with_box s c.args.to c.args.labels.members) _ _ _ _ c.requires.within c.index_mut-serializer.ensures.value c.restore.ensures.after
