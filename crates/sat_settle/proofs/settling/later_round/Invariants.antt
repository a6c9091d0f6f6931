use Rattle.std.proofs.Common.{take}
use Rattle.sat_act.specs.declared.act.Act.{Act}
use Rattle.sat_act.specs.Deployed.{Deployed}
use Rattle.sat_act.specs.Settling.{until_refused}
use Rattle.sat_settle.proofs.Loops.{Steps}
use Rattle.sat_settle.proofs.settling.later_round.Given as goal

abbrev pub invariant-loop-act : goal.invariant-loop-act
invariant-loop-act l = Steps (λ (d : Deployed) (a : Act). until_refused d a) l.initial.world (take l.act-index l.acts) l.done l.world
