use Rattle.sat_hub_laws.proofs.Joined.{journals-join}
use Rattle.sat_hub_laws.proofs.Lines.{gears-answer, gears-are-homes, gears-replay, hubs-answer, hubs-are-homes, hubs-replay}
use Rattle.sat_hub_laws.proofs.Replayed.{journals-are-runs, sites-are-replayed}
use Rattle.sat_hub_laws.proofs.Tables.{hubs-stand-at, writes-stand-at}
use Rattle.sat_hub_laws.proofs.node_journals.Goals as goal

pub returns : goal.returns
returns c = record {
  hubs = hubs-are-homes;
  gears = gears-are-homes;
  beside = hubs-stand-at;
  written = writes-stand-at;
  hub_answers = hubs-answer;
  gear_answers = gears-answer;
  hub_states = hubs-replay;
  gear_states = gears-replay;
  joined = journals-join;
  runs = journals-are-runs;
  states = sites-are-replayed;
}
