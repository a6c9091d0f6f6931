use Rattle.std.proofs.Common.{ℕ, ◌%◌, ap, ◌∙◌}
use Rattle.sat_site.proofs.Deeds.{items-here, stamp-done, stamp-site}
use Rattle.sat_site.proofs.site.Site.stamp_at.Goals as goal

pub stamp_write-stamped-requires-clause-items : goal.stamp_write-stamped-requires-clause-items
stamp_write-stamped-requires-clause-items c =
    items-here _ _ _ c.args.items _ c.self.view_is c.self.invariant (c.gear_of-number.ensures.number ∙ ap (λ (n : ℕ). n % c.args.self.now.shape.gears) c.least.ensures) c.index_mut-gear.ensures.value c.requires.items c.requires.kept

pub invariant_of-self : goal.invariant_of-self
invariant_of-self c =
    stamp-site _ _ _ c.args.items c.args.seen c.args.values.now _ c.stamp_write-stamped.new.self c.stamp_write-stamped.result c.self.view_is c.self.invariant (c.gear_of-number.ensures.number ∙ ap (λ (n : ℕ). n % c.args.self.now.shape.gears) c.least.ensures) c.index_mut-gear.ensures.value c.requires.items
    c.stamp_write-stamped.ensures.label c.stamp_write-stamped.ensures.new c.stamp_write-stamped.ensures.err c.limits-2.ensures

pub returns : goal.returns
returns c =
    stamp-done _ _ _ c.args.items c.args.seen c.args.values.now _ c.stamp_write-stamped.new.self c.stamp_write-stamped.result c.self.view_is c.self.invariant (c.gear_of-number.ensures.number ∙ ap (λ (n : ℕ). n % c.args.self.now.shape.gears) c.least.ensures) c.index_mut-gear.ensures.value c.limits.ensures
    c.stamp_write-stamped.ensures.spent c.stamp_write-stamped.ensures.ok c.stamp_write-stamped.ensures.label c.stamp_write-stamped.ensures.new c.stamp_write-stamped.ensures.err
