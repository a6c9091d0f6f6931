-- One place more of a loop over gears.
use Rattle.std.specs.Prelude.{◌≡◌, ◌<◌, ◌≤◌, ◌+◌, ◌^◌, ℕ, suc, List, [], ◌∷◌, ◌++◌, length, map, take, get_or, slice_get, Some}
use Rattle.std.specs.List.{flat_map}
use Rattle.std.proofs.Common.{ap, subst, sym, ◌∙◌, arith, inl, inr, length-append}
use Rattle.std.proofs.Math.Nat.{eq-or-lt_of_le}
use Rattle.std.proofs.lemmas.List.{append-nil, map-append, take_more}
use Rattle.std.proofs.lemmas.List.Concat.{flat_map-append}
use Rattle.std.proofs.lemmas.List.Folds.{length-flat_map-take}
use Rattle.sat_label.specs.Words.{below}
use Rattle.sat_label.specs.declared.label.Label.{Label}
use Rattle.sat_gear.specs.Gear.{GearSeen, IsGear, fresh_gear}
use Rattle.sat_sites.specs.declared.shape.Shape.{Shape}
use Rattle.sat_site.specs.Changes.{fresh_of}
use Rattle.sat_hub.proofs.Lists.{get-default}

pub fresh_more : (shape : Shape) (n : ℕ) → map (fresh_gear shape) (below (n + 1)) ≡ map (fresh_gear shape) (below n) ++ fresh_gear shape n ∷ []
fresh_more shape n = let e : n + 1 ≡ suc n = omega arith in ap (λ (m : ℕ). map (fresh_gear shape) (below m)) e ∙ map-append (fresh_gear shape) (below n) (n ∷ [])

pub count_more : (gears : List GearSeen) (i : ℕ) (x : GearSeen) → i < length gears → x ≡ get_or gears i x → length (flat_map fresh_of (take (i + 1) gears)) ≡ length (flat_map fresh_of (take i gears)) + length x.fresh
count_more gears i x lt e =
    let more : flat_map fresh_of (take (i + 1) gears) ≡ flat_map fresh_of (take i gears) ++ x.fresh =
    ap (λ (xs : List GearSeen). flat_map fresh_of xs) (take_more gears i x lt) ∙ (flat_map-append fresh_of (take i gears) (get_or gears i x ∷ []) ∙
    (ap (λ (y : GearSeen). flat_map fresh_of (take i gears) ++ (y.fresh ++ [])) (sym e) ∙ ap (λ (ls : List Label). flat_map fresh_of (take i gears) ++ ls) (append-nil x.fresh))) in
    ap (λ (ls : List Label). length ls) more ∙ length-append (flat_map fresh_of (take i gears)) x.fresh

pub limits-more : (gears : List GearSeen) (i : ℕ) (gear : GearSeen) → i < length gears → gear ≡ get_or gears i gear → ((g : ℕ) (x : GearSeen) → g < i → slice_get gears g ≡ Some x → IsGear x) → IsGear gear → (g : ℕ) (x : GearSeen) → g < i + 1 → slice_get gears g ≡ Some x → IsGear x
limits-more gears i gear lt e f new g x h at = elim (eq-or-lt_of_le (let k : g ≤ i = omega arith in k)) [
  | inl w ↦ subst IsGear (e ∙ get-default gears i x gear (subst (λ (n : ℕ). slice_get gears n ≡ Some x) w at)) new
  | inr w ↦ f g x w at
]

pub too-many : (gears : List GearSeen) (i : ℕ) (x : GearSeen) (count : ℕ) (ls : List Label) → i < length gears → x ≡ get_or gears i x → count ≡ length (flat_map fresh_of (take i gears)) → ls ≡ x.fresh → (count + length ls < 2 ^ 64 → ⊥) → 2 ^ 64 ≤ length (flat_map fresh_of gears)
too-many gears i x count ls lt e f g h =
    let w : length (flat_map fresh_of (take i gears)) + length (get_or gears i x).fresh ≤ length (flat_map fresh_of gears) = length-flat_map-take fresh_of gears i x lt in
    let k : length ls ≡ length (get_or gears i x).fresh = ap (λ (ls : List Label). length ls) (g ∙ ap (λ (y : GearSeen). y.fresh) e) in
    sum count (length ls) _ _ _ f k w h
  where
    sum : (a b c d n : ℕ) → a ≡ c → b ≡ d → c + d ≤ n → (a + b < 2 ^ 64 → ⊥) → 2 ^ 64 ≤ n
    sum a b c d n e f g h = omega arith
