use Rattle.sat_label.proofs.Bits.{bit-or}
use Rattle.sat_label.proofs.site_set.SiteSet.plus.Goals as goal

pub returns : goal.returns
returns c = λ k. bit-or _ _ k
