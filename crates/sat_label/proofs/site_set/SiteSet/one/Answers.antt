use Rattle.sat_label.proofs.Bits.{bit-one}
use Rattle.sat_label.proofs.site_set.SiteSet.one.Goals as goal

-- src/site_set.rt:20:5
pub returns : goal.returns
returns c = λ k. bit-one _ k c.requires
