-- How many of some items one gear has.
use Rattle.std.proofs.Common.{ℕ, zero, suc, ◌≡◌, ◌<◌, ◌≤◌, ◌+◌, ◌*◌, ◌/◌, ◌%◌, ◌^◌, min, subst, refl, arith}
use Rattle.std.proofs.Math.Nat.{div-mul-le_self}
use Rattle.std.proofs.lemmas.Nat.{div-add-mod', div_below, le-div}
use Rattle.sat_gear.specs.Gear.{places}

least-one : (q g r n : ℕ) → q ≤ q * g → q * g + r ≡ n → q + min 1 r ≤ n
least-one q g r n most whole = omega arith

more : (q g : ℕ) → 0 < g → q ≤ q * g
more q zero some = absurd (omega arith)
more q (suc g) some = grind arith

-- so many fit where all do
pub places_fit : (items gears : ℕ) → 0 < gears → items < 2 ^ 16 → places items gears < 2 ^ 16
places_fit items gears some few =
    let most = least-one (items / gears) gears (items % gears) items (more (items / gears) gears some) (div-add-mod' items gears) in
    below (places items gears) items most few
  where
    below : (a b : ℕ) → a ≤ b → b < 2 ^ 16 → a < 2 ^ 16
    below a b most few = omega arith

-- each item has a place among those of its gear
pub within_places : (x items gears : ℕ) → 0 < gears → x < items → x / gears < places items gears
within_places x items gears some less = go (items % gears) refl
  where
    go : (r : ℕ) → items % gears ≡ r → x / gears < items / gears + min 1 (items % gears)
    go zero e = rw e (let whole = div-add-mod' items gears in subst (λ (n : ℕ). x / gears < n) (let f : items / gears ≡ items / gears + 0 = omega arith in f) (div_below x gears (items / gears) some (exact (items / gears * gears) (items % gears) e whole)))
      where
        exact : (m r : ℕ) → r ≡ 0 → m + r ≡ items → x < m
        exact m r none whole = omega arith
    go (suc r) e = rw e (let most = le-div (x / gears) items gears some (up (x / gears * gears) (div-mul-le_self x gears)) in after (x / gears) (items / gears) most)
      where
        up : (m : ℕ) → m ≤ x → m ≤ items
        up m low = omega arith

        after : (a b : ℕ) → a ≤ b → a < b + min 1 (suc r)
        after a b most = omega arith
