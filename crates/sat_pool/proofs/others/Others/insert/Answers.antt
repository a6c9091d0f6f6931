use Rattle.std.proofs.Common.{ap, ◌∙◌, List}
use Rattle.sat_bulk.specs.Payloads.{Payload}
use Rattle.sat_pool.specs.Pool.{at_point, placed}
use Rattle.sat_pool.proofs.Keyed.{looked_up, inserted_kept, inserted_seen}
use Rattle.sat_pool.proofs.others.Others.insert.Goals as goal

pub invariant_of-self-2 : goal.invariant_of-self-2
invariant_of-self-2 c = inserted_kept _ _ c.args.payload c.self.invariant c.in_ok-before.ensures.ok

pub returns-clause-before : goal.returns-clause-before
returns-clause-before c = c.in_ok-before.ensures.before ∙ (looked_up _ c.args.payload.label.point c.self.invariant ∙ ap (λ (ps : List Payload). at_point ps c.args.payload.label.point) c.self.view_is)

pub returns-clause-ok : goal.returns-clause-ok
returns-clause-ok c = inserted_seen _ _ c.args.payload c.self.invariant c.in_ok-before.ensures.ok ∙ ap (λ (ps : List Payload). placed ps c.args.payload) c.self.view_is
