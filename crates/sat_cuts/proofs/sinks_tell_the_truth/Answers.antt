use Rattle.sat_cuts.proofs.Rises.{rises, later, cut-stable}
use Rattle.sat_cuts.proofs.Tells.{told, order, own}
use Rattle.sat_cuts.proofs.sinks_tell_the_truth.Goals as goal

pub returns : goal.returns
returns c = record { told = told; order = order; own = own; rises = rises; later = later; stable = cut-stable }
