-- Laws of the order of points and labels.
use Rattle.std.specs.Prelude.{◌≡◌, ◌≤◌, ℕ, true}
use Rattle.std.proofs.Common.{arith}
use Rattle.std.proofs.lemmas.Bool.Decides.{nat_tests}
use Rattle.sat_label.specs.declared.point.Point.{Point}
use Rattle.sat_label.specs.Order.{mark, point_eq, point_le}

pub point_le-mark : (p : Point) (t : ℕ) → p.gear ≤ 65535 → p.ts ≤ t → point_le p (mark t p.site) ≡ true
point_le-mark p t g h = grind (arith, nat_tests)

pub point_eq-is : (p q : Point) → point_eq p q ≡ true → (p.ts ≡ q.ts) × (p.site ≡ q.site) × (p.gear ≡ q.gear)
point_eq-is p q h = grind (arith, nat_tests)
