use Rattle.std.proofs.Common.{ap, ◌∙◌, List}
use Rattle.sat_bulk.specs.Payloads.{Payload}
use Rattle.sat_pool.specs.Pool.{at_point}
use Rattle.sat_pool.proofs.Keyed.{looked_up, removed_kept}
use Rattle.sat_pool.proofs.others.Others.remove.Goals as goal

pub invariant_of-self : goal.invariant_of-self
invariant_of-self c = removed_kept _ _ c.args.point.now c.self.invariant c.remove.ensures.entries

pub returns-clause-found : goal.returns-clause-found
returns-clause-found c = c.remove.ensures.value ∙ (looked_up _ c.args.point.now c.self.invariant ∙ ap (λ (ps : List Payload). at_point ps c.args.point.now) c.self.view_is)
