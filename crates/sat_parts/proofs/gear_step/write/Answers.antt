use Rattle.std.proofs.Common.{length, subst, sym}
use Rattle.sat_label.specs.Grouped.{list_of}
use Rattle.sat_sites.specs.Interested.{AreBelow}
use Rattle.sat_sites.specs.declared.shape.Shape.{Shape}
use Rattle.sat_parts.proofs.GearCode.{items-written, made-count, written-takes}
use Rattle.sat_parts.proofs.gear_step.write.Goals as goal

pub keeps_all-requires : goal.keeps_all-requires
keeps_all-requires c = subst (λ (s : Shape). AreBelow (length s.interest.replicas) (list_of c.args.items)) (sym c.requires.shape) (written-takes c.args.gear.now c.args.carried c.args.items c.args.values.now c.requires.takes).known

pub stamp_write-requires-clause-items : goal.stamp_write-requires-clause-items
stamp_write-requires-clause-items c = items-written c.args.shape.now c.args.gear.now c.args.items c.args.values.now c.requires.shape (written-takes c.args.gear.now c.args.carried c.args.items c.args.values.now c.requires.takes) (sym c.if-not-keeps_all.ensures)

pub stamp_write-requires-clause-values : goal.stamp_write-requires-clause-values
stamp_write-requires-clause-values c = (written-takes c.args.gear.now c.args.carried c.args.items c.args.values.now c.requires.takes).many

pub show_items-requires-clause-parts : goal.show_items-requires-clause-parts
show_items-requires-clause-parts c = made-count _ c.in-Ok.made c.args.values.now c.args.items c.in-Ok.ensures.label (written-takes c.args.gear.now c.args.carried c.args.items c.args.values.now c.requires.takes).many
