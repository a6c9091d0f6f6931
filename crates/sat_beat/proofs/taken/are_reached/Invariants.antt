use Rattle.std.proofs.Common.{◌≡◌, true}
use Rattle.std.specs.List.{list_all}
use Rattle.sat_label.specs.Words.{below}
use Rattle.sat_beat.specs.Beats.{is_reached}
use Rattle.sat_beat.proofs.taken.are_reached.Given as goal

abbrev pub invariant-loop-gear : goal.invariant-loop-gear
invariant-loop-gear l = list_all (is_reached l.counts l.fronts) (below l.gear) ≡ true
