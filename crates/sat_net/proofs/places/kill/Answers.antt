use Rattle.std.proofs.Common.{true}
use Rattle.sat_serial.specs.Outboxes.{SerializerSeen}
use Rattle.sat_net.proofs.Lists.{put-change}
use Rattle.sat_net.proofs.places.kill.Goals as goal

pub returns : goal.returns
returns c = put-change (λ (s : SerializerSeen). record s { killed = true }) _ _ _ _ c.requires c.index_mut-serializer.ensures.value c.kill.ensures.killed
