use Rattle.std.proofs.Common.{ap, ◌∙◌, List}
use Rattle.sat_bulk.specs.Payloads.{Payload}
use Rattle.sat_pool.specs.Pool.{at_point}
use Rattle.sat_pool.proofs.Keyed.{looked_up}
use Rattle.sat_pool.proofs.others.Others.find.Goals as goal

pub returns : goal.returns
returns c = c.get.ensures.value ∙ (looked_up _ c.args.point.now c.self.invariant ∙ ap (λ (ps : List Payload). at_point ps c.args.point.now) c.self.view_is)
