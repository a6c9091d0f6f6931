use Rattle.sat_hub.proofs.Fresh.{fresh-hub-is}
use Rattle.sat_hub.proofs.hub.Hub.fresh.Goals as goal

pub invariant_of-result : goal.invariant_of-result
invariant_of-result c = fresh-hub-is _ _ _ _ _ _ _ c.requires.shape c.sound.ensures.views c.sound.ensures.proxy c.in_ok-sink.ensures c.in_ok-counts.ensures c.in_ok-views.ensures c.in_ok-proxy.ensures c.in_ok-made.ensures
