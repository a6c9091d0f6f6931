use Rattle.std.proofs.Common.{map}
use Rattle.sat_label.specs.declared.node.NodeName.TheVariants.{Site as AtSite}
use Rattle.sat_label.specs.Words.{below}
use Rattle.sat_machines.specs.Sites.{site_meaning}
use Rattle.sat_host.proofs.Growing.{AreNew}
use Rattle.sat_host.proofs.making.make_sites.Given as goal

abbrev pub invariant-loop-site : goal.invariant-loop-site
invariant-loop-site g l = AreNew (site_meaning g.N.Laid.deployment) (map AtSite (below l.site)) l.sites.items
