-- A site whose gear has changed is one.
use Rattle.std.specs.Prelude.{◌≡◌, ◌<◌, ◌%◌, ◌==◌, ℕ, Bool, true, false, length, get_or, slice_get, Option, Some}
use Rattle.std.proofs.Common.{subst, ap, sym, ◌∙◌}
use Rattle.sat_label.specs.declared.carried.Carried.{Carried}
use Rattle.sat_label.specs.declared.label.Kind.TheVariants.{Move}
use Rattle.sat_label.specs.Versions.{Version}
use Rattle.sat_gear.specs.Gear.{GearSeen, IsGear, after_show, is_spent, stamped}
use Rattle.sat_site.specs.Seen.{SiteSeen, IsGearAt, IsSite}
use Rattle.sat_site.specs.Changes.{gear_at, with_gear, HasGear}
use Rattle.sat_site.specs.SiteSteps.{keeps_item, move_after, moved_gear, shown_at, shown_by, shown_version}
use Rattle.sat_site.proofs.Deeds.{at-place}
use Rattle.sat_site.proofs.Sound.{moved-gear as moved-at, shown-gear, with-gear-site}

-- ---- a gear

pub move-site : (w : SiteSeen) (gear new : GearSeen) (seen : Carried) (j : ℕ) → IsSite w → 0 < length w.gears → gear ≡ get_or w.gears 0 gear → j < w.shape.sites → (j == w.shape.site) ≡ false → new ≡ moved_gear (is_spent gear seen.point) gear (stamped gear seen.point (Move j)) → IsGear new → IsSite (with_gear w 0 new)
move-site w gear new seen j k lt e low other is good =
    with-gear-site w 0 new k (subst (IsGearAt w.shape w.sink 0) (sym is) (go (is_spent gear seen.point))) good
  where
    at : IsGearAt w.shape w.sink 0 gear
    at = k.gears.each 0 gear (at-place w 0 gear lt e)

    go : (b : Bool) → IsGearAt w.shape w.sink 0 (moved_gear b gear (stamped gear seen.point (Move j)))
    go true = at
    go false = moved-at w.shape w.sink 0 j gear seen.point at (subst (λ (n : ℕ). j < n) (sym k.shape.sites) low) other

pub move-done : (w x : SiteSeen) (gear new : GearSeen) (seen : Carried) (j : ℕ) → w ≡ x → 0 < length w.gears → gear ≡ get_or w.gears 0 gear → (j == x.shape.site) ≡ false → new ≡ moved_gear (is_spent gear seen.point) gear (stamped gear seen.point (Move j)) →
    with_gear w 0 new ≡ move_after x (j == x.shape.site) (slice_get x.gears 0) seen j
move-done w x gear new seen j same lt e other is =
    ap (with_gear w 0) is ∙ (ap (λ (o : Option GearSeen). move_after w false o seen j) (sym (at-place w 0 gear lt e)) ∙
    ((λ i. move_after (same i) false (slice_get (same i).gears 0) seen j) ∙ ap (λ (b : Bool). move_after x b (slice_get x.gears 0) seen j) (sym other)))

pub show-site : (w : SiteSeen) (g k : ℕ) (v : Version) (gear new : GearSeen) → IsSite w → g < length w.gears → gear ≡ get_or w.gears g gear → new ≡ after_show gear k v → IsGear new → IsSite (with_gear w g new)
show-site w g k v gear new site lt e is fine = with-gear-site w g new site (subst (IsGearAt w.shape w.sink g) (sym is) (shown-gear w.shape w.sink g k gear v (site.gears.each g gear (at-place w g gear lt e)))) fine

pub show-done : (w x : SiteSeen) (g k : ℕ) (v : Version) (o : Option Version) (gear new : GearSeen) → w ≡ x → g < length w.gears → gear ≡ get_or w.gears g gear → keeps_item w k ≡ true → g ≡ k % w.shape.gears → o ≡ Some v → new ≡ after_show gear k v → with_gear w g new ≡ shown_version x k o
show-done w x g k v o gear new same lt e kept at part is =
    (λ i. with_gear w (at i) (is i)) ∙ (shown-there ∙ ((λ i. record w { gears = shown_at (sym kept i) w.shape w.gears v.label k (Some v.value) }) ∙ ((λ i. shown_version w k (sym part i)) ∙ ap (λ (y : SiteSeen). shown_version y k o) same)))
  where
    there : HasGear w (gear_at w k) gear
    there = subst (λ (m : ℕ). HasGear w m gear) at (at-place w g gear lt e)

    shown-there : with_gear w (gear_at w k) (after_show gear k v) ≡ record w { gears = shown_at true w.shape w.gears v.label k (Some v.value) }
    shown-there = ap (λ (o : Option GearSeen). record w { gears = shown_by w.gears (gear_at w k) v.label k (Some v.value) o }) (sym there)

-- of an item that the site does not keep it shows nothing
pub show-away : (x : SiteSeen) (k : ℕ) (v : Version) (o : Option Version) → keeps_item x k ≡ false → o ≡ Some v → x ≡ shown_version x k o
show-away x k v o away part = (λ i. record x { gears = shown_at (sym away i) x.shape x.gears v.label k (Some v.value) }) ∙ (λ i. shown_version x k (sym part i))
