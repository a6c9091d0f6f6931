use Rattle.std.proofs.Common.{List, refl}
use Rattle.sat_label.specs.declared.label.Label.{Label}
use Rattle.sat_net.proofs.Lists.{change-queue}
use Rattle.sat_net.proofs.places.restore_link.Goals as goal

pub returns : goal.returns
returns c = change-queue (λ (link : List Label). c.args.labels.members) _ _ c.index_mut.result.now c.args.labels c.requires c.index_mut.ensures.value refl
