use Rattle.std.proofs.Common.{◌∙◌, ap}
use Rattle.sat_act.specs.Deployed.{Deployed}
use Rattle.sat_cluster.proofs.Locking.{has_same}
use Rattle.sat_cluster.proofs.cluster.Cluster.has_one.Goals as goal

pub returns : goal.returns
returns g c = has_same g.N.Laid.deployment c.args.items.now c.gears-count.result c.args.gear c.has_gear.result (c.gears-count.ensures.gears ∙ ap (λ (d : Deployed). d.gears) c.deployment.ensures) c.has_gear.ensures
