use Rattle.std.proofs.Common.{List, false, ap, refl, sym, ◌∙◌}
use Rattle.sat_bulk.specs.Payloads.{Payload}
use Rattle.sat_pool.specs.Pool.{row_after_take_of, row_waiting_of}
use Rattle.sat_pool.proofs.Parts.{kept_not, out_front}
use Rattle.sat_pool.proofs.row.Row.take_if.Goals as goal

pub invariant_of-self : goal.invariant_of-self
invariant_of-self c = kept_not _ _ _ false (out_front _ _ _ c.args.label.now c.take_front-front.result c.self.invariant.parts c.take_front-front.ensures.found c.take_front-front.ensures.same c.take_front-front.ensures.new (sym c.is_some.ensures ∙ c.if-is_some.true)).parts refl

pub returns-then-is_some-clause-found : goal.returns-then-is_some-clause-found
returns-then-is_some-clause-found c = (out_front _ _ _ c.args.label.now c.take_front-front.result c.self.invariant.parts c.take_front-front.ensures.found c.take_front-front.ensures.same c.take_front-front.ensures.new (sym c.is_some.ensures ∙ c.if-is_some.true)).found ∙ ap (λ (ps : List Payload). row_waiting_of ps c.args.label.now) c.self.view_is

pub returns-then-is_some-clause-new : goal.returns-then-is_some-clause-new
returns-then-is_some-clause-new c = (out_front _ _ _ c.args.label.now c.take_front-front.result c.self.invariant.parts c.take_front-front.ensures.found c.take_front-front.ensures.same c.take_front-front.ensures.new (sym c.is_some.ensures ∙ c.if-is_some.true)).view ∙ ap (λ (ps : List Payload). row_after_take_of ps c.args.label.now (row_waiting_of ps c.args.label.now)) c.self.view_is
