use Rattle.sat_parts_opened.proofs.Parted.{gears-give, gears-keep-parts, hub-parts-kept, hubs-give}
use Rattle.sat_parts_opened.proofs.parts_collected.Goals as goal

pub returns : goal.returns
returns c = record { hubs = hubs-give; gears = gears-give; kept = gears-keep-parts; of_hub = hub-parts-kept }
