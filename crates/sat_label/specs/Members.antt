-- Members of lists, and the kinds of labels that gears make.
use Rattle.std.specs.Prelude.{◌≡◌, ◌⊎◌, Bool, true, false, List, [], ◌∷◌}
use Rattle.sat_label.specs.declared.label.Kind.{Kind}
use Rattle.sat_label.specs.declared.label.Kind.TheVariants.{Update, Move, Pulse, Close}

-- it is one of a list
abbrev pub In : {X : Type 0} → List X → X → Type 0
In [] x = ⊥
In (y ∷ ys) x = (y ≡ x) ⊎ In ys x

-- an update or a move: what gears make; pulses and closes are the sink's
abbrev pub is_made : Kind → Bool
is_made (Update items) = true
is_made (Move j) = true
is_made Pulse = false
is_made (Close e) = false
