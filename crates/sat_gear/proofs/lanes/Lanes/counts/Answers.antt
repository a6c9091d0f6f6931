use Rattle.std.proofs.Common.{◌∙◌, map, arith}
use Rattle.std.proofs.lemmas.List.{take_all}
use Rattle.sat_queue.specs.Queued.{members_of}
use Rattle.sat_gear.proofs.Targets.{counts-are}
use Rattle.sat_gear.proofs.lanes.Lanes.counts.Goals as goal

pub returns : goal.returns
returns c =
    c.loop-count.invariant
    ∙ (take_all c.loop-count.count-index c.deref-count-items.result.now (omega arith)
    ∙ (c.deref-count-items.ensures.value ∙ counts-are c.self.inside.made.items (map members_of c.self.inside.lanes.items) c.self.inside.counts.items c.args.self.now c.self.invariant c.self.view_is))
