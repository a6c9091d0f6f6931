use Rattle.std.proofs.Common.{subst, sym}
use Rattle.sat_hub.specs.Seen.{HubSeen}
use Rattle.sat_hub.specs.Inputs.{BulksFit}
use Rattle.sat_hub.proofs.Peers.{bulks-hub}
use Rattle.sat_hub.proofs.hub.Hub.bulk_all.Goals as goal

pub invariant_of-self : goal.invariant_of-self
invariant_of-self c =
    bulks-hub _ c.bulk_all-count.new.self c.args.from c.args.gear c.args.first c.bulk_all-count.result c.args.payloads.items c.self.invariant (subst (λ (x : HubSeen). BulksFit x c.args.from c.args.gear c.args.first c.args.payloads.items) (sym c.self.view_is) c.requires) c.bulk_all-count.ensures.count c.bulk_all-count.ensures.new
