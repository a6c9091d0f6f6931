use Rattle.std.specs.Prelude.{◌≡◌}
use Rattle.std.specs.BTreeMap.{get}
use Rattle.sat_label.specs.declared.point.Point.{Point}
use Rattle.sat_verdict.specs.Found.{made_number}
use Rattle.sat_verdict.specs.Tables.{point_cmp, told}
use Rattle.sat_verdict.proofs.makers.makers_of.Given as goal

abbrev pub invariant-loop-place : goal.invariant-loop-place
invariant-loop-place l = (p : Point) → get point_cmp l.makers p ≡ made_number (told l.tales l.place) p
