use Rattle.sat_joint.proofs.Compare.{same-parts-join, others-join, copies-have-homes, written-have-homes}
use Rattle.sat_joint.proofs.comparing.Goals as goal

pub returns : goal.returns
returns c = record {
  parts = same-parts-join;
  others = others-join;
  copies = copies-have-homes;
  written = written-have-homes;
}
