use Rattle.std.proofs.Common.{sym}
use Rattle.sat_site.proofs.Changed.{show-away, show-site, show-done}
use Rattle.sat_site.proofs.Deeds.{item-gear, item-of-gear, kept-item}
use Rattle.sat_site.proofs.site.Site.show_part.Goals as goal

pub returns-then-not-keeps : goal.returns-then-not-keeps
returns-then-not-keeps c = show-away _ c.args.item _ c.args.part (sym c.if-not-keeps.ensures) c.in-Some.is

pub invariant_of-self : goal.invariant_of-self
invariant_of-self c = show-site _ c.gear_of-number.result c.args.item _ _ c.show.new.self c.self.invariant (item-gear _ _ _ _ c.self.view_is c.self.invariant c.gear_of-number.ensures.number) c.index_mut-gear.ensures.value c.show.ensures.new c.limits-2.ensures

pub returns : goal.returns
returns c =
    show-done _ _ c.gear_of-number.result c.args.item _ c.args.part _ c.show.new.self c.self.view_is (item-gear _ _ _ _ c.self.view_is c.self.invariant c.gear_of-number.ensures.number) c.index_mut-gear.ensures.value
    (kept-item _ _ _ c.self.view_is (sym c.if-not-keeps.ensures)) (item-of-gear _ _ _ _ c.self.view_is c.gear_of-number.ensures.number) c.in-Some.is c.show.ensures.new
