-- A write as an act: of one item alone, or of several under one label.
use Rattle.std.proofs.Common.{◌≡◌, ℕ, List, [], ◌∷◌, length, get_or, refl, ap, arith}
use Rattle.sat_label.specs.declared.items.Items.TheVariants.{One}
use Rattle.sat_act.specs.declared.act.Act.TheVariants as act
use Rattle.sat_hub_laws.specs.Gears.{write_act}

pub write_one : (c x : ℕ) (values : List (List ℕ)) (value : List ℕ) → length values ≡ 1 → value ≡ get_or values 0 value → act.Write c x value ≡ write_act c (One x) values
write_one c x (v ∷ []) value e is = ap (act.Write c x) is
write_one c x [] value e is = absurd (omega arith)
write_one c x (v ∷ w ∷ values) value e is = absurd (omega arith)

pub write_more : (c x : ℕ) (values : List (List ℕ)) → (length values ≡ 1 → ⊥) → act.Writes c (One x) values ≡ write_act c (One x) values
write_more c x [] ne = refl
write_more c x (v ∷ []) ne = absurd (ne refl)
write_more c x (v ∷ w ∷ values) ne = refl
