use Rattle.std.proofs.Common.{ℕ, ◌+◌, refl, ap, arith}
use Rattle.sat_script.proofs.BlankPlaces.{seen_start, seen_on}
use Rattle.sat_script.proofs.words.blanks.Goals as goal

pub loop-place-init : goal.loop-place-init
loop-place-init c = seen_start c.args.line.now c.args.places.now

pub loop-place-preserved : goal.loop-place-preserved
loop-place-preserved c =
    seen_on c.args.line.now c.loop-place.places _ c.loop-place.count _ c.loop-place.place _ c.loop-place.invariant c.loop-place-test.true
    (omega (arith, c.requires.short, c.loop-place-test.true, c.fits-places)) refl refl (ap (λ (n : ℕ). c.loop-place.count + n) c.from-count.ensures)
