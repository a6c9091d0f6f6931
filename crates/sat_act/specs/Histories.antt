-- Histories, the newest entry first, and the recursions that read one.
use Rattle.std.specs.Prelude.{Bool, true, false, List, [], ◌∷◌, ◌++◌, Option, Some, None}
use Rattle.sat_label.specs.declared.point.Point.{Point}
use Rattle.sat_label.specs.Order.{greater_point}
use Rattle.sat_act.specs.declared.entry.Entry.{Entry}

-- what each entry gives, the oldest first; the part of the history before the entry comes with it
unfoldable pub listed : {X : Type 0} → (List Entry → Entry → Option X) → List Entry → List X
listed f [] = []
listed f (entry ∷ before) = listed f before ++ elim (f before entry) [ None ↦ [] | Some x ↦ x ∷ [] ]

-- what the last entry that gives something gives, or else x
unfoldable pub latest : {X : Type 0} → (List Entry → Entry → Option X) → X → List Entry → X
latest f x [] = x
latest f x (entry ∷ before) = elim (f before entry) [ None ↦ latest f x before | Some y ↦ y ]

-- the history up to and with the last entry that passes
unfoldable pub up_to : (Entry → Bool) → List Entry → List Entry
up_to p [] = []
up_to p (entry ∷ before) = elim (p entry) [ true ↦ entry ∷ before | false ↦ up_to p before ]

-- the greatest of p and of what the entries give
unfoldable pub highest : (List Entry → Entry → Option Point) → Point → List Entry → Point
highest f p [] = p
highest f p (entry ∷ before) =
    elim (f before entry) [ None ↦ highest f p before | Some q ↦ greater_point q (highest f p before) ]
