use Rattle.std.proofs.Common.{Option, Some, ap, ◌∙◌, refl}
use Rattle.sat_net.specs.Nets.{NetSeen}
use Rattle.sat_world.proofs.Lists.{index-at}
use Rattle.sat_world.proofs.nets.hop_at.Goals as goal

pub unreachable-requires : goal.unreachable-requires
unreachable-requires c = let e = rw c.in_default.is at (c.requires.there _ (index-at _ _ _ c.requires.within c.index_mut.ensures.value)) in cc

pub hop-requires : goal.hop-requires
hop-requires c = c.requires.hop _ (index-at _ _ _ c.requires.within c.index_mut.ensures.value ∙ ap (λ (o : Option NetSeen). Some o) c.in-Some.is)

pub returns-clause-ok : goal.returns-clause-ok
returns-clause-ok c = record {
  before = c.in-Some.net;
  after = c.hop.new.net;
  at = index-at _ _ _ c.requires.within c.index_mut.ensures.value ∙ ap (λ (o : Option NetSeen). Some o) c.in-Some.is;
  hop = c.in_ok-answer.ensures.ok;
  rest = refl;
}
