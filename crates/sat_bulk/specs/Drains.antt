-- The labels that a gear has made since its last drain.
use Rattle.std.specs.Prelude.{ℕ, ◌≡◌, ◌≤◌, ◌<◌, true, List, [], ◌∷◌}
use Rattle.sat_label.specs.declared.label.Label.{Label}
use Rattle.sat_label.specs.Members.{In, is_made}
use Rattle.sat_label.specs.Order.{point_lt}

-- each label's point is above those of the labels before it
abbrev pub Rises : List Label → Type 0
Rises [] = Unit {0}
Rises (l ∷ ls) = ((m : Label) → In ls m → point_lt l.point m.point ≡ true) × Rises ls

-- a made label of site i and gear g, above one promise and up to another
pub record IsNew (i g low high : ℕ) (l : Label) : Type 0 where
  pub site : l.point.site ≡ i
  pub gear : l.point.gear ≡ g
  pub made : is_made l.kind ≡ true
  pub above : low < l.point.ts
  pub upto : l.point.ts ≤ high
