-- A payload that is whole has as many parts as its label has items.
use Rattle.std.specs.Prelude.{◌≡◌, ◌≢◌, ℕ, Bool, true, false, not, ◌||◌, List, [], ◌∷◌, length, Option, is_some, refl}
use Rattle.std.proofs.Common.{arith}
use Rattle.std.proofs.lemmas.Bool.{and_parts}
use Rattle.sat_sites.specs.Interested.{keeps}
use Rattle.sat_sites.specs.declared.shape.Shape.{Shape}
use Rattle.sat_hub.specs.Seen.{has_parts_here}

pub whole-count : (shape : Shape) (ns : List ℕ) (ps : List (Option (List ℕ))) → has_parts_here shape ns ps ≡ true → length ps ≡ length ns
whole-count shape [] [] e = refl
whole-count shape [] (p ∷ ps) e = absurd (cc)
whole-count shape (n ∷ ns) [] e = absurd (cc)
whole-count shape (n ∷ ns) (p ∷ ps) e =
    let rest : length ps ≡ length ns = whole-count shape ns ps (and_parts (not (keeps shape.interest n shape.site) || is_some p) (has_parts_here shape ns ps) e).1 in
    omega (arith, rest)

pub not-whole : (shape : Shape) (ns : List ℕ) (ps : List (Option (List ℕ))) → length ps ≢ length ns → false ≡ has_parts_here shape ns ps
not-whole shape ns ps other = go (has_parts_here shape ns ps) refl
  where
    go : (b : Bool) → has_parts_here shape ns ps ≡ b → false ≡ b
    go false e = refl
    go true e = absurd (other (whole-count shape ns ps e))
