use Rattle.std.proofs.lemmas.Bool.{cases_Bool}
use Rattle.std.proofs.Common.{inl, inr}
use Rattle.sat_net.specs.Nets.{is_dead}
use Rattle.sat_world.proofs.Finds.{alive, found-none, found, found-dead}
use Rattle.sat_world.proofs.nets.hop.Goals as goal

pub returns-in-Ok-None-clause-ok : goal.returns-in-Ok-None-clause-ok
returns-in-Ok-None-clause-ok c =
    found-none _ _ _ _ _ (alive _ (λ dead. let e = c.in-Ok-None.ensures.dead dead in absurd (cc))) (rw c.in-Ok-None.field-0-is at c.in-Ok-None.ensures.ok)

pub returns-in-Ok-Some-clause-ok : goal.returns-in-Ok-Some-clause-ok
returns-in-Ok-Some-clause-ok c =
    found _ _ _ _ _ _ _ (alive _ (λ dead. let e = c.in-Ok-Some.ensures.dead dead in absurd (cc))) (rw (c.in-Ok-Some.field-0-is, ← c.in-Ok-Some.label-is, ← c.in-Ok-Some.nodes-is) at c.in-Ok-Some.ensures.ok)

pub returns-in-Err-Dead-clause-ok : goal.returns-in-Err-Dead-clause-ok
returns-in-Err-Dead-clause-ok c = elim (cases_Bool (is_dead c.args.net.now c.args.to)) [
  | inl dead ↦ found-dead _ _ _ _ _ dead c.in-Err-Dead.ensures.err
  | inr alive ↦ absurd (let e = c.in-Err-Dead.ensures.alive alive in let f = c.in-Err-Dead.field-0-is in cc)
]
