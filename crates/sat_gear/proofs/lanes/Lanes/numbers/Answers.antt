use Rattle.std.proofs.Common.{ℕ, ap, ◌∙◌, List, map, sym}
use Rattle.sat_label.specs.Words.{bit}
use Rattle.sat_bulk.specs.Payloads.{Payload}
use Rattle.sat_queue.specs.Queued.{Queued, members_of}
use Rattle.sat_gear.specs.Lanes.{numbers_where}
use Rattle.sat_gear.proofs.Spreads.{numbers_picked}
use Rattle.sat_gear.proofs.lanes.Lanes.numbers.Goals as goal

pub returns : goal.returns
returns c =
    c.in_ok-numbers.ensures
    ∙ (ap (λ (ls : List (Queued ℕ)). numbers_where (bit c.args.targets.bits) 0 (map members_of ls)) c.deref.ensures.value
    ∙ (sym (numbers_picked c.self.inside.made.items (bit c.args.targets.bits) 0 (map members_of c.self.inside.lanes.items) c.self.invariant.below)
    ∙ ap (λ (ls : List (List Payload)). numbers_where (bit c.args.targets.bits) 0 ls) c.self.view_is))
