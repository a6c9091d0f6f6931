use Rattle.std.proofs.Common.{arith}
use Rattle.sat_label.proofs.Bits.{bit-beyond}
use Rattle.sat_label.proofs.site_set.SiteSet.has.Goals as goal

-- src/site_set.rt:28:5
pub returns-else-site-lt64 : goal.returns-else-site-lt64
returns-else-site-lt64 c = bit-beyond _ _ (omega arith) c.if-site-lt64.false
