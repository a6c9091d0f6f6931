use Rattle.std.proofs.Common.{subst, sym}
use Rattle.sat_hub.specs.Seen.{HubSeen, IsGuest}
use Rattle.sat_hub.proofs.Peers.{bulk-hub}
use Rattle.sat_hub.proofs.hub.Hub.bulk.Goals as goal

pub invariant_of-self : goal.invariant_of-self
invariant_of-self c =
    bulk-hub _ c.bulk-taken.result c.bulk-taken.new.self c.args.from c.args.gear c.args.number c.args.payload c.self.invariant (subst (λ (x : HubSeen). IsGuest x.shape c.args.payload) (sym c.self.view_is) c.requires.guest) c.sound.ensures.proxy c.bulk-taken.ensures.new c.bulk-taken.ensures.err
