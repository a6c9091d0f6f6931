use Rattle.sat_lasting.proofs.Starting.{new-lasts, new-places}
use Rattle.sat_lasting.proofs.lasting.Lasting.new.Goals as goal

pub invariant_of-result : goal.invariant_of-result
invariant_of-result c = new-places _ _ _ _ c.in_ok-world.ensures.deployment c.in_ok-slots.ensures c.in_ok-cuts.ensures

pub returns-clause-stands : goal.returns-clause-stands
returns-clause-stands c = new-lasts _ _ _ _ c.in_ok-world.ensures.deployment c.in_ok-world.ensures.stands c.in_ok-slots.ensures c.in_ok-cuts.ensures
