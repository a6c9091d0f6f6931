use Rattle.sat_verdict.proofs.Counted.{counted}
use Rattle.sat_verdict.proofs.law.counts_tell_pasts.Goals as goal

pub returns : goal.returns
returns c = counted
