-- The least label of a list.
use Rattle.std.specs.Prelude.{Bool, List, [], ◌∷◌, Option, Some, None, if◌then◌else◌}
use Rattle.sat_label.specs.declared.label.Label.{Label}
use Rattle.sat_label.specs.Order.{label_lt}

-- the lesser of two labels, of which each may be missing
abbrev pub lesser : Option Label → Option Label → Option Label
lesser None o = o
lesser (Some l) None = Some l
lesser (Some l) (Some m) = if label_lt l m then Some l else Some m

-- the least of the labels that pass
unfoldable pub least_label : (Label → Bool) → List Label → Option Label
least_label p [] = None
least_label p (l ∷ ls) = if p l then lesser (Some l) (least_label p ls) else least_label p ls
