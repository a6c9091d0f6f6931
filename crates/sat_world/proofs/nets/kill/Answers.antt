use Rattle.std.proofs.lemmas.Bool.{cases_Bool}
use Rattle.std.proofs.Common.{inl, inr}
use Rattle.sat_net.specs.Nets.{is_dead}
use Rattle.sat_world.proofs.Finds.{alive, killed, killed-before}
use Rattle.sat_world.proofs.nets.kill.Goals as goal

pub returns-in-Ok : goal.returns-in-Ok
returns-in-Ok c = killed _ _ _ (alive _ (λ dead. let e = c.in-Ok.ensures.already dead in absurd (cc))) c.in-Ok.ensures.after

pub returns-in-Err : goal.returns-in-Err
returns-in-Err c = elim (cases_Bool (is_dead c.args.net.now c.args.serializer)) [
  | inl dead ↦ killed-before _ _ _ dead c.in-Err.ensures.err
  | inr alive ↦ absurd (let e = c.in-Err.ensures.ok alive in cc)
]
