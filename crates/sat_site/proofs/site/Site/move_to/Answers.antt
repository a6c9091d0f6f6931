use Rattle.std.proofs.Common.{◌<◌, ◌==◌, ℕ, ap, sym, subst, ◌∙◌}
use Rattle.std.proofs.lemmas.Bool.{ne_eqb}
use Rattle.sat_sites.specs.declared.shape.Shape.{Shape}
use Rattle.sat_site.specs.Seen.{SiteSeen}
use Rattle.sat_site.proofs.Changed.{move-site, move-done}
use Rattle.sat_site.proofs.site.Site.move_to.Goals as goal

pub invariant_of-self-2 : goal.invariant_of-self-2
invariant_of-self-2 c =
    move-site _ _ c.move_at.new.gear c.args.carried c.args.to c.self.invariant (subst (λ (n : ℕ). 0 < n) (sym c.self.invariant.gears.count) c.self.invariant.shape.gears) c.index_mut-gear.ensures.value (subst (λ (x : SiteSeen). c.args.to < x.shape.sites) (sym c.self.view_is) c.requires)
    (ap (λ (s : Shape). c.args.to == s.site) (sym c.shape-shape.ensures.shape) ∙ ne_eqb _ _ c.if-to-shape.false) c.in_ok-answer.ensures.gear c.limits-2.ensures

pub returns-clause-after : goal.returns-clause-after
returns-clause-after c =
    move-done _ _ _ c.move_at.new.gear c.args.carried c.args.to c.self.view_is (subst (λ (n : ℕ). 0 < n) (sym c.self.invariant.gears.count) c.self.invariant.shape.gears) c.index_mut-gear.ensures.value
    (ap (λ (x : SiteSeen). c.args.to == x.shape.site) (sym c.self.view_is) ∙ (ap (λ (s : Shape). c.args.to == s.site) (sym c.shape-shape.ensures.shape) ∙ ne_eqb _ _ c.if-to-shape.false)) c.in_ok-answer.ensures.gear
