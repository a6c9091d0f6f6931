use Rattle.std.proofs.Common.{◌≡◌, ◌++◌}
use Rattle.std.specs.List.{flat_map}
use Rattle.sat_label.specs.Words.{below}
use Rattle.sat_machines.specs.Layout.{site_links}
use Rattle.sat_wires.proofs.layout.add_sites.Given as goal

abbrev pub invariant-loop-site : goal.invariant-loop-site
invariant-loop-site l = l.ways ≡ l.initial.ways ++ flat_map (site_links l.d) (below l.site)
