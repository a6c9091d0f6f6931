use Rattle.sat_site.proofs.Taken.{taken-one}
use Rattle.sat_site.proofs.site.Site.show_all.Goals as goal

pub returns-in-One : goal.returns-in-One
returns-in-One c = taken-one _ _ _ _ c.args.payload _ c.in-One.is c.requires.parts c.into_first.ensures c.show_part.ensures
