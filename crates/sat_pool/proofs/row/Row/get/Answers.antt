use Rattle.std.proofs.Common.{List, Some, None, ap, refl, ◌∙◌}
use Rattle.sat_bulk.specs.Payloads.{Payload}
use Rattle.sat_pool.specs.Pool.{at_point}
use Rattle.sat_pool.proofs.Parts.{found_or}
use Rattle.sat_pool.proofs.row.Row.get.Goals as goal

pub returns-in-Some : goal.returns-in-Some
returns-in-Some c =
    found_or c.self.inside.rising.items c.self.inside.others c.args.point.now (Some c.in-Some.payload.now) (at_point c.self.inside.others c.args.point.now) c.self.invariant.parts c.in-Some.ensures refl
    ∙ ap (λ (ps : List Payload). at_point ps c.args.point.now) c.self.view_is

pub returns-in-None : goal.returns-in-None
returns-in-None c =
    found_or c.self.inside.rising.items c.self.inside.others c.args.point.now None _ c.self.invariant.parts c.in-None.ensures c.get.ensures
    ∙ ap (λ (ps : List Payload). at_point ps c.args.point.now) c.self.view_is
