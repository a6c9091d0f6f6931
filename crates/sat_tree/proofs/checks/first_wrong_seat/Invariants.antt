use Rattle.std.proofs.Common.{◌≡◌, None}
use Rattle.sat_label.specs.Words.{first_failing}
use Rattle.sat_tree.specs.Flaw.{seat_fits}
use Rattle.sat_tree.proofs.checks.first_wrong_seat.Given as goal

abbrev pub invariant-loop-site : goal.invariant-loop-site
invariant-loop-site l = first_failing (seat_fits (record { parents = l.parents; seats = l.seats })) l.site ≡ None
