use Rattle.sat_hub.proofs.Sound.{pulse-label}
use Rattle.sat_hub.proofs.hub.Hub.sends_pulse.Goals as goal

pub leaving-requires : goal.leaving-requires
leaving-requires c = pulse-label _ _ c.next_pulse.result c.self.view_is c.self.invariant c.next_pulse.ensures
