use Rattle.sat_parts_opened.proofs.Named.{gear-journals, gears-are-kept, gears-are-parts, gears-have-owners, hub-journals, hubs-are-kept, hubs-are-parts, hubs-have-owners, nodes-cover, opened-are-journals, own-are-homes, serial-journals, serials-are-kept}
use Rattle.sat_parts_opened.proofs.parts_named.Goals as goal

pub returns : goal.returns
returns c = record {
  journals = opened-are-journals;
  hubs = hubs-are-kept;
  gears = gears-are-kept;
  serials = serials-are-kept;
  hub_parts = hubs-are-parts;
  gear_parts = gears-are-parts;
  hub_journals = hub-journals;
  gear_journals = gear-journals;
  own = own-are-homes;
  serial_journals = serial-journals;
  hub_owners = hubs-have-owners;
  gear_owners = gears-have-owners;
  nodes = nodes-cover;
}
