use Rattle.std.proofs.Common.{◌≡◌, ◌∷◌, map, take, Some, None}
use Rattle.sat_place.proofs.shape.parents_list.Given as goal

abbrev pub invariant-loop-parent : goal.invariant-loop-parent
invariant-loop-parent l = l.list.items ≡ None ∷ map Some (take l.parent-index l.parents)
