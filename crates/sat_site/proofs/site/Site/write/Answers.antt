use Rattle.std.proofs.Common.{length, subst, sym, ap, Err, ◌∙◌}
use Rattle.sat_label.specs.Grouped.{list_of}
use Rattle.sat_sites.specs.Interested.{AreBelow}
use Rattle.sat_sites.specs.declared.shape.Shape.{Shape}
use Rattle.sat_site.specs.Does.{write_not_here}
use Rattle.sat_site.proofs.Deeds.{short-writes, spent-writes, stamped-count, stamped-shape, wrote-writes}
use Rattle.sat_site.proofs.site.Site.write.Goals as goal

pub returns-then-not-keeps_all-clause-writes : goal.returns-then-not-keeps_all-clause-writes
returns-then-not-keeps_all-clause-writes c = write_not_here (sym c.if-not-keeps_all.ensures)

pub show-requires-clause-items : goal.show-requires-clause-items
show-requires-clause-items c = subst (λ (shape : Shape). AreBelow (length shape.interest.replicas) (list_of c.args.items)) (sym (stamped-shape _ _ _ _ _ _ c.stamp_at.ensures)) c.requires.items

pub show-requires-clause-parts : goal.show-requires-clause-parts
show-requires-clause-parts c = stamped-count _ _ _ _ _ _ c.in-Ok.made _ c.stamp_at.ensures c.in-Ok.is c.open.ensures c.requires.values

pub returns-in-Ok-clause-writes : goal.returns-in-Ok-clause-writes
returns-in-Ok-clause-writes c = wrote-writes _ c.args.carried _ _ _ _ _ c.in-Ok.made _ _ c.stamp_at.ensures c.in-Ok.is (sym c.if-not-keeps_all.ensures) c.label-label.ensures c.open.ensures c.show.ensures

pub returns-in-Err-Spent-clause-writes : goal.returns-in-Err-Spent-clause-writes
returns-in-Err-Spent-clause-writes c = spent-writes _ c.args.carried _ _ _ _ c.stamp_at.ensures (c.in-Err-Spent.is ∙ ap Err c.in-Err-Spent.field-0-is) (sym c.if-not-keeps_all.ensures)

pub returns-in-Err-Memory-clause-err : goal.returns-in-Err-Memory-clause-err
returns-in-Err-Memory-clause-err c = short-writes _ _ _ _ _ _ c.stamp_at.ensures (c.in-Err-Memory.is ∙ ap Err c.in-Err-Memory.field-0-is)
