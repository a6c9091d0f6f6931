use Rattle.std.proofs.Common.{Option, Some, ap, ◌∙◌}
use Rattle.sat_net.specs.Nets.{NetSeen}
use Rattle.sat_world.proofs.Lists.{index-at}
use Rattle.sat_world.proofs.Turning.{given-back}
use Rattle.sat_world.proofs.nets.restore_at.Goals as goal

pub unreachable-requires : goal.unreachable-requires
unreachable-requires c = let e = rw c.in_default.is at (c.requires.there _ (index-at _ _ _ c.requires.within c.index_mut.ensures.value)) in cc

pub restore_to-requires : goal.restore_to-requires
restore_to-requires c = c.requires.seat _ (index-at _ _ _ c.requires.within c.index_mut.ensures.value ∙ ap (λ (o : Option NetSeen). Some o) c.in-Some.is)

pub returns : goal.returns
returns c = given-back _ _ _ _ _ _ (index-at _ _ _ c.requires.within c.index_mut.ensures.value ∙ ap (λ (o : Option NetSeen). Some o) c.in-Some.is) c.restore_to.ensures.after
