use Rattle.sat_hub.proofs.Sound.{close-sent}
use Rattle.sat_hub.proofs.hub.Hub.sends_close.Goals as goal

pub leaving-requires : goal.leaving-requires
leaving-requires c = close-sent _ _ c.next_close.result c.self.view_is c.self.invariant c.next_close.ensures
