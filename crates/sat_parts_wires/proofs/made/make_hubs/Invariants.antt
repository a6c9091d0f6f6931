use Rattle.std.proofs.Common.{map}
use Rattle.sat_label.specs.declared.node.NodeName.TheVariants.{Site as AtSite}
use Rattle.sat_label.specs.Words.{below}
use Rattle.sat_wires.proofs.Names.{AreNew}
use Rattle.sat_parts_wires.proofs.made.make_hubs.Given as goal

abbrev pub invariant-loop-site : goal.invariant-loop-site
invariant-loop-site g l = AreNew (map AtSite (below l.site)) l.hubs.items
