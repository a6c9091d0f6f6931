-- What a hub and a gear are handed, and by which client; and what the model's machines are then handed.
use Rattle.std.specs.Prelude.{ℕ, ◌≡◌, ◌<◌, Bool, true, false, List, length, get_or, slice_get, Option, Some, None}
use Rattle.sat_bulk.specs.declared.Drained.{Drained}
use Rattle.sat_act.specs.Deployed.{Deployed}
use Rattle.sat_proxy.specs.Proxy.{note_of}
use Rattle.sat_site.specs.declared.input.SiteInput.{SiteInput}
use Rattle.sat_site.specs.declared.input.SiteInput.TheVariants as site
use Rattle.sat_joint.specs.Pieces.{Drain}
use Rattle.sat_joint.specs.Machines.{no_drain}
use Rattle.sat_hub_laws.specs.Inputs.{HubInput as HubHanded, GearInput as GearHanded, ShownBy as ShownIn, ByTurn}
use Rattle.sat_hub_laws.specs.Inputs.{ByStamp, ByWrite}
use Rattle.sat_hub_laws.specs.Inputs as model
use Rattle.sat_parts.specs.declared.hub_input.HubInput.{HubInput}
use Rattle.sat_parts.specs.declared.hub_input.HubInput.TheVariants as hub
use Rattle.sat_parts.specs.declared.gear_input.GearInput.{GearInput}
use Rattle.sat_parts.specs.declared.gear_input.GearInput.TheVariants as gear
use Rattle.sat_parts.specs.declared.gear_input.ShownBy.{ShownBy}
use Rattle.sat_parts.specs.declared.gear_input.ShownBy.TheVariants as by

-- an act at a hub: the client that asked, if one did, and what the hub is handed
pub record HubActSeen : Type 0 where
  pub by : Option ℕ
  pub input : HubInput

-- an act at a gear, in the same way
pub record GearActSeen : Type 0 where
  pub by : Option ℕ
  pub input : GearInput

-- ---- clients

-- whether it is an act of a client
abbrev pub is_hub_clients : HubInput → Bool
is_hub_clients (hub.Attach seen) = true
is_hub_clients _ = false

-- a write of several items is a client's act also at the gears that show it
abbrev pub is_shown_clients : ShownBy → Bool
is_shown_clients by.Write = true
is_shown_clients _ = false

-- whether it is an act of a client: a write, a read, a move, or the part of a write at another gear
abbrev pub is_gear_clients : GearInput → Bool
is_gear_clients (gear.Write seen items values) = true
is_gear_clients (gear.Read seen n) = true
is_gear_clients (gear.Move seen j) = true
is_gear_clients (gear.Show act payload) = is_shown_clients act
is_gear_clients _ = false

-- a client of the deployment exactly where it is an act of a client
abbrev pub IsBy : Deployed → Option ℕ → Bool → Type 0
IsBy d None clients = clients ≡ false
IsBy d (Some c) clients = (clients ≡ true) × (c < length d.clients)

-- the number of the client, 0 where it is none's
abbrev pub client_in : Option ℕ → ℕ
client_in None = 0
client_in (Some c) = c

-- ---- what the model's machines are handed

-- what a gear gives to a gather
abbrev pub drain_from : Drained → Drain
drain_from given =
    record { promise = given.promise; labels = given.labels; counts = λ j. get_or given.counts j 0 }

-- the same, nothing where there is none
abbrev pub drain_at : Option Drained → Drain
drain_at None = no_drain
drain_at (Some given) = drain_from given

-- what the gear of each number gives
abbrev pub drains_of : List Drained → ℕ → Drain
drains_of drained g = drain_at (slice_get drained g)

-- what the model's hub is handed
abbrev pub hub_handed : HubInput → HubHanded
hub_handed (hub.Attach seen) = model.Attach seen
hub_handed (hub.Gather drained) = model.Gather (drains_of drained)
hub_handed hub.Emit = model.Emit
hub_handed hub.Pulse = model.Pulse
hub_handed (hub.Turn front) = model.Turn front
hub_handed (hub.Bulk from g n payload) = model.Bulk from g n payload
hub_handed (hub.Beat j) = model.Beat j
hub_handed (hub.BeatIn from n beat) = model.BeatIn from n (note_of beat)
hub_handed hub.Stamp = model.Stamp
hub_handed hub.Close = model.Close
hub_handed hub.Fall = model.Fall
hub_handed hub.Advance = model.Advance

-- the act in which a gear shows, in the model
abbrev pub shown_in : ShownBy → ShownIn
shown_in by.Turn = ByTurn
shown_in by.Stamp = ByStamp
shown_in by.Write = ByWrite

-- what the model's gear is handed
abbrev pub gear_handed : GearInput → GearHanded
gear_handed (gear.Tick ts) = model.Tick ts
gear_handed (gear.Write seen items values) = model.Write seen items values
gear_handed (gear.Read seen n) = model.Read seen n
gear_handed (gear.Move seen j) = model.Move seen j
gear_handed (gear.Drain given labels stable) = model.Drain (drain_from given) labels stable
gear_handed (gear.Show act payload) = model.Show (shown_in act) payload

-- what a whole site is handed with what its hub is handed
abbrev pub site_handed : HubInput → SiteInput
site_handed (hub.Attach seen) = site.Attach seen
site_handed (hub.Gather drained) = site.Gather
site_handed hub.Emit = site.Emit
site_handed hub.Pulse = site.Pulse
site_handed (hub.Turn front) = site.Turn front
site_handed (hub.Bulk from g n payload) = site.Bulk from g n payload
site_handed (hub.Beat j) = site.Beat j
site_handed (hub.BeatIn from n beat) = site.BeatIn from n beat
site_handed hub.Stamp = site.Stamp
site_handed hub.Close = site.Close
site_handed hub.Fall = site.Fall
site_handed hub.Advance = site.Advance
