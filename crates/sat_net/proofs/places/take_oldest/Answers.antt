use Rattle.std.proofs.Common.{List, drop}
use Rattle.sat_label.specs.declared.label.Label.{Label}
use Rattle.sat_net.proofs.Lists.{change-queue}
use Rattle.sat_net.proofs.places.take_oldest.Goals as goal

pub returns : goal.returns
returns c = change-queue (λ (link : List Label). drop 1 link) _ _ _ _ c.requires c.index_mut-link.ensures.value c.take.ensures.rest
