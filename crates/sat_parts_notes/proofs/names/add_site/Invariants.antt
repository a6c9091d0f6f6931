use Rattle.std.proofs.Common.{◌≡◌, ◌++◌, map}
use Rattle.sat_label.specs.declared.node.NodeName.TheVariants as named
use Rattle.sat_label.specs.Words.{below}
use Rattle.sat_parts_notes.proofs.names.add_site.Given as goal

abbrev pub invariant-loop-gear : goal.invariant-loop-gear
invariant-loop-gear l = l.names.items ≡ l.initial.names.items ++ map (named.Gear l.site) (below l.gear)
