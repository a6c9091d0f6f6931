-- What a site is handed: as the machine of the model reads it, and what the site asks of it.
use Rattle.std.specs.Prelude.{ℕ, ◌^◌, ◌==◌, Bool, true, false, ◌&&◌, nat_lt, List, length, Some, None}
use Rattle.sat_label.specs.declared.label.Label.{Label}
use Rattle.sat_label.specs.Grouped.{list_of}
use Rattle.sat_bulk.specs.Payloads.{Payload}
use Rattle.sat_beat.specs.declared.Beat.{Beat}
use Rattle.sat_proxy.specs.Proxy.{note_of}
use Rattle.sat_model.specs.Fits.{is_time}
use Rattle.sat_model.specs.Input.{SiteInput}
use Rattle.sat_model.specs.Input as given
use Rattle.sat_hub.specs.Inputs as hub
pub use Rattle.sat_hub.specs.Inputs.{is_site_here, is_item_here, is_gear_here, is_point_here, is_other_here}
pub use Rattle.sat_hub.specs.Inputs.{is_goal_here, is_carried_here, is_group_here, is_kind_here, is_front_here}
pub use Rattle.sat_hub.specs.Inputs.{is_kept_here, is_guest_here, is_bulk_here, is_cut_here, is_beat_here}
use Rattle.sat_site.specs.declared.input.SiteInput as code
use Rattle.sat_site.specs.declared.input.SiteInput.TheVariants as input
use Rattle.sat_site.specs.Seen.{SiteSeen, hub_of}

abbrev pub input_of : code.SiteInput → SiteInput
input_of (input.Tick g t) = given.Tick g t
input_of (input.Write seen items values) = given.Write seen items values
input_of (input.Read seen x) = given.Read seen x
input_of (input.Move seen j) = given.Move seen j
input_of (input.Attach seen) = given.Attach seen
input_of input.Gather = given.Gather
input_of input.Emit = given.Emit
input_of input.Pulse = given.Pulse
input_of (input.Turn front) = given.Turn front
input_of (input.Bulk from gear number payload) = given.Bulk from gear number payload
input_of (input.Beat j) = given.Beat j
input_of (input.BeatIn from number beat) = given.BeatIn from number (note_of beat)
input_of input.Stamp = given.Stamp
input_of input.Close = given.Close
input_of input.Fall = given.Fall
input_of input.Advance = given.Advance

-- ---- inputs

-- what the machine of the model asks, in the words of a site
unfoldable pub fits_here : SiteSeen → code.SiteInput → Bool
fits_here x (input.Tick g t) = is_gear_here x.shape g && is_time t
fits_here x (input.Write seen items values) =
    is_carried_here x.shape seen && (is_group_here x.shape items && (length values == length (list_of items)))
fits_here x (input.Read seen n) = is_carried_here x.shape seen && is_item_here x.shape n
fits_here x (input.Move seen j) = is_carried_here x.shape seen && is_site_here x.shape j
fits_here x (input.Attach seen) = is_carried_here x.shape seen
fits_here x input.Gather = true
fits_here x input.Emit = true
fits_here x input.Pulse = true
fits_here x (input.Turn None) = true
fits_here x (input.Turn (Some l)) = is_front_here x.shape x.views.view l
fits_here x (input.Bulk from gear number p) = is_bulk_here x.shape x.proxy from gear number p
fits_here x (input.Beat j) = is_other_here x.shape j
fits_here x (input.BeatIn from number beat) =
    is_other_here x.shape from && is_beat_here x.shape (length x.views.stamp) beat
fits_here x input.Stamp = true
fits_here x input.Close = true
fits_here x input.Fall = true
fits_here x input.Advance = true

-- a beat with one count for each gear, and at most as many close cuts as there are epochs
abbrev pub is_counted : SiteSeen → Beat → Bool
is_counted x beat = hub.is_counted (hub_of x) beat

-- a number of 63 bits, and a beat of the site's numbers: what a history says nothing of
abbrev pub is_sized : SiteSeen → code.SiteInput → Bool
is_sized x (input.Bulk from gear number p) = nat_lt number (2 ^ 63)
is_sized x (input.BeatIn from number beat) = nat_lt number (2 ^ 63) && is_counted x beat
is_sized x given = true

-- what a site asks of what it is handed
abbrev pub fits_in : SiteSeen → code.SiteInput → Bool
fits_in x given = fits_here x given && is_sized x given

-- ---- what the code uses of it

-- a label of another site; if it is a Close, then of the view's epoch
abbrev pub IsFront : SiteSeen → Label → Type 0
IsFront x l = hub.IsFront (hub_of x) l

-- a payload of a lane that fits
abbrev pub BulkFits : SiteSeen → ℕ → ℕ → ℕ → Payload → Type 0
BulkFits x from gear n p = hub.BulkFits (hub_of x) from gear n p

-- payloads of a lane that fit
abbrev pub BulksFit : SiteSeen → ℕ → ℕ → ℕ → List Payload → Type 0
BulksFit x from gear first ps = hub.BulksFit (hub_of x) from gear first ps

-- inputs of which a site can be asked whether it would do them
abbrev pub is_asked : code.SiteInput → Bool
is_asked input.Emit = true
is_asked input.Pulse = true
is_asked (input.Turn front) = true
is_asked input.Stamp = true
is_asked input.Advance = true
is_asked _ = false

-- inputs for which a site takes no memory
abbrev pub takes_none : code.SiteInput → Bool
takes_none (input.Tick g t) = true
takes_none (input.Attach seen) = true
takes_none input.Emit = true
takes_none input.Pulse = true
takes_none (input.Turn front) = true
takes_none input.Stamp = true
takes_none input.Close = true
takes_none input.Fall = true
takes_none input.Advance = true
takes_none _ = false
