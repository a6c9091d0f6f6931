use Rattle.sat_site.proofs.Fronts.{show-count, show-items, show-some}
use Rattle.sat_site.proofs.site.Site.show_update.Goals as goal

pub show_all-requires-clause-items : goal.show_all-requires-clause-items
show_all-requires-clause-items c = show-items c.self.inside.hub _ c.args.label.now _ c.show_front-shown.result c.in-Some.payload c.show_front-shown.ensures.guest (c.show_front-shown.ensures.found, c.show_front-shown.ensures.after) c.requires.kind c.in-Some.is

pub show_all-requires-clause-parts : goal.show_all-requires-clause-parts
show_all-requires-clause-parts c = show-count c.self.inside.hub _ c.args.label.now _ c.show_front-shown.result c.in-Some.payload c.show_front-shown.ensures.guest (c.show_front-shown.ensures.found, c.show_front-shown.ensures.after) c.requires.kind c.in-Some.is

pub returns-clause-after : goal.returns-clause-after
returns-clause-after c =
    show-some c.self.inside.hub _ _ _ _ c.args.label.now _ c.show_front-shown.result c.in-Some.payload c.self.view_is c.requires.tree c.requires.kind (c.show_front-shown.ensures.found, c.show_front-shown.ensures.after) c.in-Some.is c.show_all.ensures
