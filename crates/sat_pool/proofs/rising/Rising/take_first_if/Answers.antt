use Rattle.std.proofs.Common.{refl, sym, ◌∙◌}
use Rattle.sat_pool.proofs.Places.{labelled_done, labelled_found, labelled_left, labelled_same, labelled_some, take_ascends}
use Rattle.sat_pool.proofs.rising.Rising.take_first_if.Goals as goal

pub invariant_of-self : goal.invariant_of-self
invariant_of-self c = take_ascends c.self.inside.waiting.items _ c.args.label.now.point c.self.invariant (labelled_left c.self.inside.waiting.items _ _ c.args.label.now c.self.invariant refl (sym c.starts_with.ensures ∙ c.if-not-starts_with.false) c.take_first.ensures.new)

pub returns-clause-found : goal.returns-clause-found
returns-clause-found c = labelled_found c.self.inside.waiting.items c.args.self.now c.args.label.now c.take_first.result c.self.invariant c.self.view_is (sym c.starts_with.ensures ∙ c.if-not-starts_with.false) c.take_first.ensures.found

pub returns-clause-same : goal.returns-clause-same
returns-clause-same c = labelled_same _ c.take_first.result c.args.label.now c.take_first.ensures.found (sym c.starts_with.ensures ∙ c.if-not-starts_with.false)

pub returns-clause-new : goal.returns-clause-new
returns-clause-new c = labelled_done c.self.inside.waiting.items c.args.self.now _ c.args.label.now c.take_first.result c.self.invariant c.self.view_is (sym c.starts_with.ensures ∙ c.if-not-starts_with.false) c.take_first.ensures.new

pub returns-clause-none : goal.returns-clause-none
returns-clause-none c = labelled_some c.self.inside.waiting.items c.args.self.now _ c.args.label.now c.take_first.result (sym c.starts_with.ensures ∙ c.if-not-starts_with.false) c.take_first.ensures.found
