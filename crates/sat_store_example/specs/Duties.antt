-- What a site is handed for a duty, and for a sending.
use Rattle.sat_site.specs.declared.input.SiteInput.{SiteInput}
use Rattle.sat_site.specs.declared.input.SiteInput.TheVariants as input
use Rattle.sat_store_example.specs.declared.duty.Duty.{Duty}
use Rattle.sat_store_example.specs.declared.duty.Duty.TheVariants as duty
use Rattle.sat_store_example.specs.declared.duty.Sending.{Sending}
use Rattle.sat_store_example.specs.declared.duty.Sending.TheVariants as sending

-- the act of a duty
abbrev pub duty_input : Duty → SiteInput
duty_input (duty.Tick g t) = input.Tick g t
duty_input duty.Gather = input.Gather
duty_input (duty.Bulk from gear number payload) = input.Bulk from gear number payload
duty_input (duty.Beat j) = input.Beat j
duty_input (duty.BeatIn from number beat) = input.BeatIn from number beat
duty_input duty.Stamp = input.Stamp
duty_input duty.Fall = input.Fall
duty_input duty.Advance = input.Advance

-- the act of a sending
abbrev pub sending_input : Sending → SiteInput
sending_input sending.Emit = input.Emit
sending_input sending.Pulse = input.Pulse
sending_input sending.Close = input.Close
