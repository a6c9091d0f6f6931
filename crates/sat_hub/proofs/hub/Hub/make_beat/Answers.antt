use Rattle.sat_hub.proofs.Sound.{beaten-hub}
use Rattle.sat_hub.proofs.hub.Hub.make_beat.Goals as goal

pub invariant_of-self-2 : goal.invariant_of-self-2
invariant_of-self-2 c = beaten-hub _ _ c.args.to _ _ _ c.self.view_is c.self.invariant c.requires c.index_mut-made.ensures.value c.in_ok-beat.ensures.beat c.in_ok-number.ensures.new
