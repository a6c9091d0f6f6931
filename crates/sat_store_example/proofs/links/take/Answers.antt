use Rattle.std.proofs.Common.{List, drop}
use Rattle.sat_label.specs.declared.label.Label.{Label}
use Rattle.sat_net.proofs.Lists.{change-queue}
use Rattle.sat_store_example.proofs.links.take.Goals as goal

pub returns-clause-front : goal.returns-clause-front
returns-clause-front c = change-queue (λ (link : List Label). drop 1 link) _ _ _ _ c.requires c.index_mut-link.ensures.value c.take.ensures.rest
