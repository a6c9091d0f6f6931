use Rattle.std.proofs.Common.{◌≡◌, ◌≤◌, ◌<◌, ◌*◌, None}
use Rattle.sat_act.specs.declared.act.Act.TheVariants as act
use Rattle.sat_world.specs.Again.{Again}
use Rattle.sat_world.proofs.world.World.bulks.Given as goal

abbrev pub invariant-loop : goal.invariant-loop
invariant-loop l =
    Again (act.Bulk l.from l.gear l.to None) l.initial.self l.done l.self
    × (l.self.deployment ≡ l.initial.self.deployment)
    × (l.done ≤ l.counter * 256)
    × (0 < l.most)
    × (l.most ≤ 256)
