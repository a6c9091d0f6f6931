use Rattle.sat_act.specs.declared.act.Act.TheVariants as act
use Rattle.sat_world.proofs.Writing.{writes-all}
use Rattle.sat_world.proofs.world.World.handed_many.Goals as goal

pub handed_write-requires : goal.handed_write-requires
handed_write-requires c = (act.Writes _ _ _, writes-all _ _ _ _ _ c.in_ok-values.ensures c.requires)

pub returns : goal.returns
returns c = c.handed_write.ensures (act.Writes _ _ _) (writes-all _ _ _ _ _ c.in_ok-values.ensures c.requires)
