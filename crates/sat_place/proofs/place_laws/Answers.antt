use Rattle.sat_place.proofs.Worth.{least_is_found}
use Rattle.sat_place.proofs.place_laws.Goals as goal

pub returns-clause-found : goal.returns-clause-found
returns-clause-found c = least_is_found
