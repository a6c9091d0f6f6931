use Rattle.sat_parts.proofs.Journals.{gears-keep, hubs-keep}
use Rattle.sat_parts.proofs.part_journals.Goals as goal

pub returns : goal.returns
returns c = record { hubs = hubs-keep; gears = gears-keep }
