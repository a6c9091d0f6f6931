use Rattle.sat_model.proofs.SiteSteps.{site-steps, site-stays, replays, is-journal, runs-go-on}
use Rattle.sat_model.proofs.Local.{given-fits, same-answer}
use Rattle.sat_model.proofs.OnLinks.{links-lead}
use Rattle.sat_model.proofs.Parts.{parts-agree}
use Rattle.sat_model.proofs.Unmoved.{undone-stays, flags-are-free}
use Rattle.sat_model.proofs.Times.{has-times}
use Rattle.sat_model.proofs.Worlds.{world-starts}
use Rattle.sat_model.proofs.Runs.{step-on}
use Rattle.sat_model.proofs.machines.Goals as goal

pub returns : goal.returns
returns c = record {
  sites = site-steps;
  others = site-stays;
  fit = given-fits;
  times = has-times;
  links = links-lead;
  journals = λ d h i v r. (replays d h i, is-journal d h i v r);
  on = runs-go-on;
  starts = world-starts;
  steps = step-on;
  undone = undone-stays;
  flags = flags-are-free;
  parts = parts-agree;
  local = same-answer;
}
