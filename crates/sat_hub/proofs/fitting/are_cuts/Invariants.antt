use Rattle.std.proofs.Common.{◌≡◌, true, slice_get}
use Rattle.std.specs.List.{list_all}
use Rattle.sat_label.specs.Words.{below}
use Rattle.sat_hub.specs.Inputs.{is_cut_here}
use Rattle.sat_hub.proofs.fitting.are_cuts.Given as goal

abbrev pub invariant-loop-place : goal.invariant-loop-place
invariant-loop-place l = list_all (λ n. is_cut_here l.shape (slice_get l.closes n)) (below l.place) ≡ true
