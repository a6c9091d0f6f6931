use Rattle.std.proofs.Common.{List, subst}
use Rattle.sat_bulk.specs.Payloads.{Payload}
use Rattle.sat_pool.specs.Rows.{Ascends}
use Rattle.sat_pool.proofs.Parts.{view-ascends}
use Rattle.sat_pool.proofs.row.Row.first.Goals as goal

pub returns-clause-ascends : goal.returns-clause-ascends
returns-clause-ascends c = subst (λ (ps : List Payload). Ascends ps) c.self.view_is (view-ascends _ _ c.self.invariant.parts)

pub returns-then-self-clause-ascends : goal.returns-then-self-clause-ascends
returns-then-self-clause-ascends c = subst (λ (ps : List Payload). Ascends ps) c.self.view_is (view-ascends _ _ c.self.invariant.parts)
