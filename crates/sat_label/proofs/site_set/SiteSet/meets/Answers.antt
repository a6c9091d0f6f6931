use Rattle.std.proofs.Common.{arith}
use Rattle.sat_label.proofs.Bits.{meets-is}
use Rattle.sat_label.proofs.site_set.SiteSet.meets.Goals as goal

-- src/site_set.rt:55:5
pub returns : goal.returns
returns c = meets-is _ _ (omega arith)
