use Rattle.std.proofs.Common.{◌≡◌, map}
use Rattle.sat_label.specs.declared.node.NodeName.TheVariants as named
use Rattle.sat_label.specs.Words.{below}
use Rattle.sat_parts_notes.proofs.names.hub_names.Given as goal

abbrev pub invariant-loop-site : goal.invariant-loop-site
invariant-loop-site l = l.names.items ≡ map named.Site (below l.site)
