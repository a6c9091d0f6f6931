-- Lists whose labels rise.
use Rattle.std.proofs.Common.{◌≡◌, List, [], ◌∷◌, ◌++◌, true, inl, inr, refl}
use Rattle.sat_label.specs.declared.label.Label.{Label}
use Rattle.sat_label.specs.Order.{point_lt}
use Rattle.sat_label.specs.Members.{In}
use Rattle.sat_label.proofs.Members.{In-parts}
use Rattle.sat_bulk.specs.Drains.{Rises}

-- a list goes on rising where each label of the second is above each of the first
pub rises-both : (xs ys : List Label) → Rises xs → Rises ys → ((x y : Label) → In xs x → In ys y → point_lt x.point y.point ≡ true) → Rises (xs ++ ys)
rises-both [] ys r s f = s
rises-both (x ∷ xs) ys r s f = (λ m i. elim (In-parts xs ys m i) [ inl a ↦ r.0 m a | inr b ↦ f x m (inl refl) b ], rises-both xs ys r.1 s (λ z y i j. f z y (inr i) j))
