use Rattle.std.proofs.Common.{refl}
use Rattle.sat_site.proofs.Taken.{guest-count, guest-items, guest-shown}
use Rattle.sat_site.proofs.site.Site.show_guest.Goals as goal

pub show_all-requires-clause-items : goal.show_all-requires-clause-items
show_all-requires-clause-items c = guest-items _ c.args.payload _ _ c.requires c.label-label.ensures c.in-Update.is

pub show_all-requires-clause-parts : goal.show_all-requires-clause-parts
show_all-requires-clause-parts c = guest-count _ c.args.payload c.args.payload _ _ c.requires c.label-label.ensures refl c.in-Update.is

pub returns-clause-after : goal.returns-clause-after
returns-clause-after c = guest-shown _ _ c.args.payload c.args.payload _ _ c.label-label.ensures refl c.in-Update.is c.show_all.ensures
