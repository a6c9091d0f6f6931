-- What duties and sendings are to a site.
use Rattle.std.proofs.Common.{◌≡◌, true, None, refl}
use Rattle.sat_site.specs.Inputs.{fits_here, fits_in, takes_none}
use Rattle.sat_site.specs.Seen.{SiteSeen}
use Rattle.sat_site.specs.SiteSteps.{site_sends}
use Rattle.sat_store_example.specs.Duties.{duty_input, sending_input}
use Rattle.sat_store_example.specs.declared.duty.Duty.{Duty}
use Rattle.sat_store_example.specs.declared.duty.Duty.TheVariants as duty
use Rattle.sat_store_example.specs.declared.duty.Sending.{Sending}
use Rattle.sat_store_example.specs.declared.duty.Sending.TheVariants as sending

-- a duty sends nothing
pub duty_sends : (x : SiteSeen) (given : Duty) → site_sends x (duty_input given) ≡ None
unfolding site_sends
duty_sends x (duty.Tick g t) = refl
duty_sends x duty.Gather = refl
duty_sends x (duty.Bulk from gear number payload) = refl
duty_sends x (duty.Beat j) = refl
duty_sends x (duty.BeatIn from number beat) = refl
duty_sends x duty.Stamp = refl
duty_sends x duty.Fall = refl
duty_sends x duty.Advance = refl

-- a sending takes no memory
pub sending_spares : (given : Sending) → takes_none (sending_input given) ≡ true
sending_spares sending.Emit = refl
sending_spares sending.Pulse = refl
sending_spares sending.Close = refl

-- and always fits
pub sending_fits : (x : SiteSeen) (given : Sending) → fits_in x (sending_input given) ≡ true
unfolding fits_here
sending_fits x sending.Emit = refl
sending_fits x sending.Pulse = refl
sending_fits x sending.Close = refl
