use Rattle.sat_act.specs.declared.act.Act.TheVariants as act
use Rattle.sat_world.proofs.Writing.{by-act, writes-one}
use Rattle.sat_world.proofs.world.World.write.Goals as goal

pub write_items-requires : goal.write_items-requires
write_items-requires c = (act.Write _ _ _, writes-one _ _ _ _ _ c.from_ref.ensures.value c.requires)

pub returns-clause-applies : goal.returns-clause-applies
returns-clause-applies c = by-act _ _ _ _ _ _ _ (writes-one _ _ _ _ _ c.from_ref.ensures.value c.requires) c.write_items.ensures.applies
