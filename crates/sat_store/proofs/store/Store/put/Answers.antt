use Rattle.std.proofs.Common.{◌∙◌}
use Rattle.sat_store.proofs.Placing.{above, adds, adds-is, below, compared, goes, stays}
use Rattle.sat_store.proofs.store.Store.put.Goals as goal

pub invariant_of-self : goal.invariant_of-self
invariant_of-self c =
    adds _ _ _ _ c.args.item _ c.self.view_is c.self.invariant c.requires c.as_slice.ensures.value _ c.in_default.is
    _ _ _ (c.len.ensures ∙ c.self.inside.versions.ok.0) c.push_reserved.ensures.items c.push_reserved.ensures.capacity

pub returns-in_default-clause-new : goal.returns-in_default-clause-new
returns-in_default-clause-new c =
    adds-is _ _ _ _ c.args.item _ c.self.view_is c.self.invariant c.requires c.as_slice.ensures.value _ c.in_default.is
    _ _ (c.len.ensures ∙ c.self.inside.versions.ok.0) c.push_reserved.ensures.items

pub returns-then-not-is_below-clause-new : goal.returns-then-not-is_below-clause-new
returns-then-not-is_below-clause-new c =
    stays _ _ _ _ c.args.item _ c.self.view_is c.self.invariant c.requires c.as_slice.ensures.value _ _ c.in-Some.is c.index_mut-kept.ensures.value
    c.args.version (compared _ _ _ _ _ _ c.is_below.ensures c.label.ensures c.label-2.ensures c.if-not-is_below.true)

pub returns-then-not-is_below-clause-kept : goal.returns-then-not-is_below-clause-kept
returns-then-not-is_below-clause-kept c =
    below _ _ _ _ c.args.item _ c.self.view_is c.self.invariant c.requires c.as_slice.ensures.value _ _ c.in-Some.is c.index_mut-kept.ensures.value
    c.args.version.label (compared _ _ _ _ _ _ c.is_below.ensures c.label.ensures c.label-2.ensures c.if-not-is_below.true)

pub returns-clause-new : goal.returns-clause-new
returns-clause-new c =
    goes _ _ _ _ c.args.item _ c.self.view_is c.self.invariant c.requires c.as_slice.ensures.value _ _ c.in-Some.is c.index_mut-kept.ensures.value
    c.args.version (compared _ _ _ _ _ _ c.is_below.ensures c.label.ensures c.label-2.ensures c.if-not-is_below.false)

pub returns-clause-kept : goal.returns-clause-kept
returns-clause-kept c =
    above _ _ _ _ c.args.item _ c.self.view_is c.self.invariant c.requires c.as_slice.ensures.value _ _ c.in-Some.is c.index_mut-kept.ensures.value
    c.args.version.label (compared _ _ _ _ _ _ c.is_below.ensures c.label.ensures c.label-2.ensures c.if-not-is_below.false)
