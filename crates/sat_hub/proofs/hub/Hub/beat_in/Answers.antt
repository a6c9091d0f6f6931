use Rattle.sat_hub.proofs.Peers.{beat-hub}
use Rattle.sat_hub.proofs.hub.Hub.beat_in.Goals as goal

pub invariant_of-self : goal.invariant_of-self
invariant_of-self c = beat-hub _ c.beat_in-taken.result c.beat_in-taken.new.self c.args.from c.args.number c.args.beat c.self.invariant c.sound.ensures.proxy c.beat_in-taken.ensures.new c.beat_in-taken.ensures.err
