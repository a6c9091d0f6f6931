use Rattle.sat_hub.proofs.Sound.{pulse-hub}
use Rattle.sat_hub.proofs.hub.Hub.pulse.Goals as goal

pub invariant_of-self : goal.invariant_of-self
invariant_of-self c = pulse-hub _ _ c.self.invariant c.pulse.ensures.new
