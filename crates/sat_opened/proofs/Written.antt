-- A write as an act: of one item alone, or of several under one label.
use Rattle.std.proofs.Common.{◌≡◌, ℕ, List, [], ◌∷◌, length, get_or, refl, ap, arith}
use Rattle.sat_label.specs.declared.items.Items.{Items}
use Rattle.sat_label.specs.declared.items.Items.TheVariants.{One, Two, Three, Four}
use Rattle.sat_act.specs.declared.act.Act.{Act}
use Rattle.sat_act.specs.declared.act.Act.TheVariants as act
use Rattle.sat_opened.specs.Keeping.{write_act}

-- what holds of both acts holds of what a write is
pub write-cases : (P : Items → List (List ℕ) → Act → Type 0) (c : ℕ) → ((x : ℕ) (value : List ℕ) → P (One x) (value ∷ []) (act.Write c x value)) → ((items : Items) (values : List (List ℕ)) → P items values (act.Writes c items values)) →
    (items : Items) (values : List (List ℕ)) → P items values (write_act c items values)
write-cases P c one more (One x) (value ∷ []) = one x value
write-cases P c one more (One x) [] = more (One x) []
write-cases P c one more (One x) (value ∷ other ∷ values) = more (One x) (value ∷ other ∷ values)
write-cases P c one more (Two a b) values = more (Two a b) values
write-cases P c one more (Three a b e) values = more (Three a b e) values
write-cases P c one more (Four a b e f) values = more (Four a b e f) values

pub write_one : (c x : ℕ) (values : List (List ℕ)) (value : List ℕ) → length values ≡ 1 → value ≡ get_or values 0 value → act.Write c x value ≡ write_act c (One x) values
write_one c x (v ∷ []) value e is = ap (act.Write c x) is
write_one c x [] value e is = absurd (omega arith)
write_one c x (v ∷ w ∷ values) value e is = absurd (omega arith)

pub write_more : (c x : ℕ) (values : List (List ℕ)) → (length values ≡ 1 → ⊥) → act.Writes c (One x) values ≡ write_act c (One x) values
write_more c x [] ne = refl
write_more c x (v ∷ []) ne = absurd (ne refl)
write_more c x (v ∷ w ∷ values) ne = refl
