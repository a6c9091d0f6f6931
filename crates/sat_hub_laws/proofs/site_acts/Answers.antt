use Rattle.sat_hub_laws.proofs.Sites.{gears-act-alone, gears-write, hubs-act-alone, hubs-gather, hubs-show}
use Rattle.sat_hub_laws.proofs.site_acts.Goals as goal

pub returns : goal.returns
returns c = record {
  hubs = hubs-act-alone;
  gather = hubs-gather;
  shows = hubs-show;
  gears = gears-act-alone;
  writes = gears-write;
}
