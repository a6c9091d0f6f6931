use Rattle.std.proofs.Common.{◌≡◌, map, take}
use Rattle.sat_joint.specs.Seen.{seen}
use Rattle.sat_parts_notes.specs.Collecting.{lines_at_hub, at_places}
use Rattle.sat_parts_notes.proofs.journals.add_hubs.Given as goal

abbrev pub invariant-loop-hub : goal.invariant-loop-hub
invariant-loop-hub g l = map seen l.list.items ≡ at_places 0 (map lines_at_hub (take l.hub-index l.hubs))
