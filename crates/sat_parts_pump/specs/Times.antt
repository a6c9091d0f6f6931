-- The timestamp of what came at a hub.
use Rattle.std.specs.Prelude.{ℕ, max, List, [], ◌∷◌, Some, None}
use Rattle.sat_parts.specs.declared.hub_input.HubInput.{HubInput}
use Rattle.sat_parts.specs.declared.hub_input.HubInput.TheVariants as hub
use Rattle.sat_parts_passes.specs.Sendings.{HubKept}

-- the timestamp of what came: of a label, of a payload, or of a beat's cut
abbrev pub ts_in : HubInput → ℕ
ts_in (hub.Turn None) = 0
ts_in (hub.Turn (Some l)) = l.point.ts
ts_in (hub.Bulk from g n p) = p.label.point.ts
ts_in (hub.BeatIn from n beat) = beat.cut.ts
ts_in _ = 0

-- the greatest of a timestamp and those of what came by these entries
abbrev pub most_in : ℕ → List HubKept → ℕ
most_in t [] = t
most_in t (k ∷ ks) = most_in (max t (ts_in k.input.input)) ks
