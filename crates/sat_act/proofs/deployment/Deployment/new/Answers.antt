use Rattle.std.proofs.Common.{refl, sym}
use Rattle.sat_act.proofs.Sound.{sound}
use Rattle.sat_act.proofs.deployment.Deployment.new.Goals as goal

pub invariant_of-result : goal.invariant_of-result
invariant_of-result c =
    rw (← c.deref.ensures.value, ← c.deref-2.ensures.value, ← c.deref-3.ensures.value) (sound _ (sym c.in-None.ensures.flaw) (c.in-None.ensures.trees refl))
