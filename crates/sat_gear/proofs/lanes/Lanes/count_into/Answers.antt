use Rattle.std.proofs.Common.{◌∙◌, ◌++◌, ℕ, List, ap, map}
use Rattle.sat_queue.specs.Queued.{members_of}
use Rattle.sat_gear.proofs.Targets.{counts-are}
use Rattle.sat_gear.proofs.lanes.Lanes.count_into.Goals as goal

pub returns : goal.returns
returns c =
    c.in_ok-extend_from_slice.ensures.items
    ∙ (ap (λ (ns : List ℕ). ns ++ c.deref.result.now) c.clear.ensures.items
    ∙ (c.deref.ensures.value ∙ counts-are c.self.inside.made.items (map members_of c.self.inside.lanes.items) c.self.inside.counts.items c.args.self.now c.self.invariant c.self.view_is))
