use Rattle.sat_lasting_laws.proofs.Held.{lastings}
use Rattle.sat_lasting_laws.proofs.Reaching.{handed_there, listed_reach}
use Rattle.sat_lasting_laws.proofs.lastings_are_good.Goals as goal

pub returns-clause-good : goal.returns-clause-good
returns-clause-good c = lastings

pub returns-clause-handed : goal.returns-clause-handed
returns-clause-handed c = handed_there

pub returns-clause-reach : goal.returns-clause-reach
returns-clause-reach c = listed_reach
