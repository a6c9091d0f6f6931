use Rattle.sat_lasting.proofs.Allowed.{all_have_bodies}
use Rattle.sat_lasting.proofs.kept_sites.Goals as goal

pub returns : goal.returns
returns c = all_have_bodies
