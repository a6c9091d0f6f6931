use Rattle.std.proofs.Common.{refl, sym, ◌∙◌}
use Rattle.sat_pool.proofs.Places.{take_ascends, take_done, take_found, take_leaves, take_misses, within}
use Rattle.sat_pool.proofs.rising.Rising.take_behind.Goals as goal

pub returns-then-not-waits_at-clause-found : goal.returns-then-not-waits_at-clause-found
returns-then-not-waits_at-clause-found c = take_misses c.self.inside.waiting.items c.args.self.now c.args.point.now c.place_of-place.result c.self.invariant c.self.view_is c.place_of-place.ensures (sym c.waits_at.ensures ∙ c.if-not-waits_at.true)

pub returns-then-not-waits_at-clause-new : goal.returns-then-not-waits_at-clause-new
returns-then-not-waits_at-clause-new c = take_leaves c.self.inside.waiting.items c.args.self.now c.args.point.now c.place_of-place.result c.self.invariant c.self.view_is c.place_of-place.ensures (sym c.waits_at.ensures ∙ c.if-not-waits_at.true)

pub take_at-requires : goal.take_at-requires
take_at-requires c = within c.self.inside.waiting.items c.place_of-place.result c.args.point.now (sym c.waits_at.ensures ∙ c.if-not-waits_at.false)

pub invariant_of-self : goal.invariant_of-self
invariant_of-self c = take_ascends c.self.inside.waiting.items _ c.args.point.now c.self.invariant (take_done c.self.inside.waiting.items _ _ c.args.point.now c.place_of-place.result c.self.invariant refl c.place_of-place.ensures (sym c.waits_at.ensures ∙ c.if-not-waits_at.false) c.take_at.ensures.new)

pub returns-clause-found : goal.returns-clause-found
returns-clause-found c = take_found c.self.inside.waiting.items c.args.self.now c.args.point.now c.place_of-place.result c.take_at.result c.self.invariant c.self.view_is c.place_of-place.ensures (sym c.waits_at.ensures ∙ c.if-not-waits_at.false) c.take_at.ensures.found

pub returns-clause-new : goal.returns-clause-new
returns-clause-new c = take_done c.self.inside.waiting.items c.args.self.now _ c.args.point.now c.place_of-place.result c.self.invariant c.self.view_is c.place_of-place.ensures (sym c.waits_at.ensures ∙ c.if-not-waits_at.false) c.take_at.ensures.new
