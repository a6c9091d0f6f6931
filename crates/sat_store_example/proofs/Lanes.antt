-- What is asked of a lane.
use Rattle.std.proofs.Common.{◌≡◌, ◌<◌, ◌==◌, ℕ, true, not, nat_lt}
use Rattle.std.proofs.lemmas.Bool.{and_parts, ltb-true}
use Rattle.sat_site.specs.declared.input.SiteInput.TheVariants as input
use Rattle.sat_site.specs.Inputs.{fits_here, fits_in, is_gear_here}
use Rattle.sat_model.specs.Fits.{is_time}
use Rattle.sat_site.specs.Seen.{SiteSeen}
use Rattle.sat_store_example.specs.Replicas.{has_lane}

tick-gear : (x : SiteSeen) (g : ℕ) → fits_here x (input.Tick g 0) ≡ true → g < x.shape.gears
unfolding fits_here
tick-gear x g e = ltb-true g x.shape.gears (and_parts (is_gear_here x.shape g) (is_time 0) e).0

beat-site : (x : SiteSeen) (j : ℕ) → fits_here x (input.Beat j) ≡ true → j < x.shape.sites
unfolding fits_here
beat-site x j e = ltb-true j x.shape.sites (and_parts (nat_lt j x.shape.sites) (not (j == x.shape.site)) e).0

pub lane-gear : (x : SiteSeen) (g j : ℕ) → has_lane x g j ≡ true → g < x.shape.gears
lane-gear x g j e = tick-gear x g (and_parts (fits_here x (input.Tick g 0)) true (and_parts (fits_in x (input.Tick g 0)) (fits_in x (input.Beat j)) e).0).0

pub lane-site : (x : SiteSeen) (g j : ℕ) → has_lane x g j ≡ true → j < x.shape.sites
lane-site x g j e = beat-site x j (and_parts (fits_here x (input.Beat j)) true (and_parts (fits_in x (input.Tick g 0)) (fits_in x (input.Beat j)) e).1).0
