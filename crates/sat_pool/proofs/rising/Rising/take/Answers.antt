use Rattle.std.proofs.Common.{refl, sym, ◌∙◌}
use Rattle.sat_pool.proofs.Places.{first_done, first_found, take_ascends}
use Rattle.sat_pool.proofs.rising.Rising.take.Goals as goal

pub invariant_of-self : goal.invariant_of-self
invariant_of-self c = take_ascends c.self.inside.waiting.items _ c.args.point.now c.self.invariant (first_done c.self.inside.waiting.items _ _ c.args.point.now c.self.invariant refl (sym c.waits_at.ensures ∙ c.if-waits_at.true) c.take_first.ensures.new)

pub returns-then-waits_at-clause-found : goal.returns-then-waits_at-clause-found
returns-then-waits_at-clause-found c = first_found c.self.inside.waiting.items c.args.self.now c.args.point.now c.take_first.result c.self.invariant c.self.view_is (sym c.waits_at.ensures ∙ c.if-waits_at.true) c.take_first.ensures.found

pub returns-then-waits_at-clause-new : goal.returns-then-waits_at-clause-new
returns-then-waits_at-clause-new c = first_done c.self.inside.waiting.items c.args.self.now _ c.args.point.now c.self.invariant c.self.view_is (sym c.waits_at.ensures ∙ c.if-waits_at.true) c.take_first.ensures.new
