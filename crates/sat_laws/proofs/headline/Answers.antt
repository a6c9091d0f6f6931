use Rattle.sat_laws.proofs.Headlines.{good}
use Rattle.sat_laws.proofs.headline.Goals as goal

pub returns : goal.returns
returns c = good
