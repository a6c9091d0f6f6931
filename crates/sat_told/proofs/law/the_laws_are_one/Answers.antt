use Rattle.sat_told.proofs.Judging.{laws-are-one}
use Rattle.sat_told.proofs.law.the_laws_are_one.Goals as goal

pub returns : goal.returns
returns c = laws-are-one
