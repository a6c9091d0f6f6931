use Rattle.std.proofs.Common.{arith}
use Rattle.sat_label.proofs.Bits.{bit-less}
use Rattle.sat_label.proofs.site_set.SiteSet.minus.Goals as goal

-- src/site_set.rt:46:5
pub returns : goal.returns
returns c = λ k. bit-less _ _ k (omega arith) (omega arith)
