use Rattle.std.proofs.Common.{take}
use Rattle.sat_act.specs.declared.act.Act.{Act}
use Rattle.sat_act.specs.Deployed.{Deployed}
use Rattle.sat_act.specs.Settling.{for_each, until_refused}
use Rattle.sat_settle.specs.Kept.{Keeps}
use Rattle.sat_settle.proofs.Loops.{Steps}
use Rattle.sat_settle.proofs.keeping.round_keeping.Given as goal

abbrev pub invariant-loop-act : goal.invariant-loop-act
invariant-loop-act l =
    Steps (λ (d : Deployed) (a : Act). until_refused d a) l.fn.world (take l.act-index l.acts) l.done l.world
    × Keeps l.fn.world (for_each (until_refused l.fn.world.deployment) (take l.act-index l.acts)) l.fn.entries.items l.entries.items
