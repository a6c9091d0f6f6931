use Rattle.sat_act.specs.declared.act.Act.TheVariants as act
use Rattle.sat_world.proofs.Writing.{by-act, writes-all}
use Rattle.sat_world.proofs.world.World.writes.Goals as goal

pub write_items-requires : goal.write_items-requires
write_items-requires c = (act.Writes _ _ _, writes-all _ _ _ _ _ c.as_slice.ensures c.requires)

pub returns-clause-applies : goal.returns-clause-applies
returns-clause-applies c = by-act _ _ _ _ _ _ _ (writes-all _ _ _ _ _ c.as_slice.ensures c.requires) c.write_items.ensures.applies
