use Rattle.sat_queue.specs.Queued.{members_of}
use Rattle.std.proofs.Common.{map}
use Rattle.sat_gear.proofs.Targets.{count-at, counts-are}
use Rattle.sat_gear.proofs.lanes.Lanes.count.Goals as goal

pub returns : goal.returns
returns c = count-at c.self.inside.counts.items c.args.self.now c.args.site c.index.result.now (counts-are c.self.inside.made.items (map members_of c.self.inside.lanes.items) c.self.inside.counts.items c.args.self.now c.self.invariant c.self.view_is) c.requires c.index.ensures
