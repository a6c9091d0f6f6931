use Rattle.std.proofs.Common.{◌∙◌, ap, ◌<◌, length, arith}
use Rattle.sat_tree.proofs.Rows.{row-within, row-is}
use Rattle.sat_serial.specs.Routes.{Placed}
use Rattle.sat_serial.specs.Hits.{site_place}
use Rattle.sat_serial.proofs.router.Router.site_place.Goals as goal

pub index-requires : goal.index-requires
index-requires c =
    let less : c.args.site < length c.self.inside.tree.seats = omega arith in
    let row = row-within (site_place c.self.inside.tree c.self.inside.number) c.self.inside.sites.items (length c.self.inside.tree.seats) c.args.site c.self.invariant.2 less in
    omega arith

pub returns-then-site-sites : goal.returns-then-site-sites
returns-then-site-sites c =
    let less : c.args.site < length c.self.inside.tree.seats = omega arith in
    row-is (site_place c.self.inside.tree c.self.inside.number) c.self.inside.sites.items (length c.self.inside.tree.seats) c.args.site _ c.self.invariant.2 less c.index.ensures
    ∙ ap (λ (p : Placed). site_place p.tree p.number c.args.site) c.self.view_is
