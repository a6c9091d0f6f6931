use Rattle.std.proofs.Common.{length}
use Rattle.sat_label.specs.Grouped.{list_of}
use Rattle.sat_label.proofs.items.+compare.Given as goal

abbrev pub decreases-compare : goal.decreases-compare
decreases-compare l = length (list_of l.items.now)
