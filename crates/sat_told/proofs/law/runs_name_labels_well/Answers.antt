use Rattle.sat_told.proofs.Naming.{runs-name}
use Rattle.sat_told.proofs.law.runs_name_labels_well.Goals as goal

pub returns : goal.returns
returns c = runs-name
