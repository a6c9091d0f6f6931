use Rattle.sat_hub.proofs.Sound.{close-hub}
use Rattle.sat_hub.proofs.hub.Hub.close.Goals as goal

pub invariant_of-self : goal.invariant_of-self
invariant_of-self c = close-hub _ _ _ _ c.self.invariant c.sound.ensures.views c.cut-cut.ensures.cut c.in-Ok.ensures.ok c.closed.ensures.new
