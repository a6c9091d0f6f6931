use Rattle.std.proofs.Common.{Option, Some, ap, ◌∙◌}
use Rattle.sat_net.specs.Nets.{NetSeen}
use Rattle.sat_world.proofs.Lists.{index-at}
use Rattle.sat_world.proofs.nets.lend_at.Goals as goal

pub unreachable-requires : goal.unreachable-requires
unreachable-requires c = let e = rw c.in_default.is at (c.requires.there _ (index-at _ _ _ c.requires.within c.index_mut.ensures.value)) in cc

pub lend_to-requires : goal.lend_to-requires
lend_to-requires c = c.requires.seat _ (index-at _ _ _ c.requires.within c.index_mut.ensures.value ∙ ap (λ (o : Option NetSeen). Some o) c.in-Some.is)

pub returns : goal.returns
returns c = record {
  before = c.in-Some.net;
  at = index-at _ _ _ c.requires.within c.index_mut.ensures.value ∙ ap (λ (o : Option NetSeen). Some o) c.in-Some.is;
  labels = c.lend_to.ensures.labels;
  rest = rw c.lend_to.ensures.rest;
}
