use Rattle.sat_label.proofs.Bits.{all-sites}
use Rattle.sat_label.proofs.site_set.SiteSet.all.Goals as goal

pub returns : goal.returns
returns c = λ k. all-sites _ k c.if-sites-eq0.false c.requires
