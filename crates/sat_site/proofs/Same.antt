-- A gear that is put where it stands.
use Rattle.std.specs.Prelude.{◌≡◌, ℕ, zero, suc, List, [], ◌∷◌, set, slice_get, Some}
use Rattle.std.proofs.Common.{ap, sym}
use Rattle.sat_gear.specs.Gear.{GearSeen}
use Rattle.sat_site.specs.Seen.{SiteSeen}
use Rattle.sat_site.specs.Changes.{with_gear, HasGear}

set-same : (gears : List GearSeen) (g : ℕ) (gear : GearSeen) → slice_get gears g ≡ Some gear → set gears g gear ≡ gears
set-same [] g gear at = absurd (cc)
set-same (y ∷ gears) zero gear at = let e : y ≡ gear = cc in ap (λ (x : GearSeen). x ∷ gears) (sym e)
set-same (y ∷ gears) (suc g) gear at = ap (λ (xs : List GearSeen). y ∷ xs) (set-same gears g gear at)

pub same-place : (x : SiteSeen) (g : ℕ) (gear : GearSeen) → HasGear x g gear → with_gear x g gear ≡ x
same-place x g gear at = λ j. record x { gears = set-same x.gears g gear at j }
