use Rattle.std.proofs.Common.{◌≡◌}
use Rattle.std.specs.List.{flat_map}
use Rattle.sat_label.specs.Words.{below}
use Rattle.sat_parts.specs.Layout.{site_gears}
use Rattle.sat_parts_notes.proofs.names.gear_names.Given as goal

abbrev pub invariant-loop-site : goal.invariant-loop-site
invariant-loop-site l = l.names.items ≡ flat_map (site_gears l.gears) (below l.site)
