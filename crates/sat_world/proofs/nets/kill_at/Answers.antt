use Rattle.std.proofs.Common.{Option, Some, ap, ◌∙◌, refl}
use Rattle.sat_net.specs.Nets.{NetSeen}
use Rattle.sat_world.proofs.Lists.{index-at}
use Rattle.sat_world.proofs.nets.kill_at.Goals as goal

pub unreachable-requires : goal.unreachable-requires
unreachable-requires c = let e = rw c.in_default.is at (c.requires.there _ (index-at _ _ _ c.requires.within c.index_mut.ensures.value)) in cc

pub kill-requires : goal.kill-requires
kill-requires c = c.requires.serializer _ (index-at _ _ _ c.requires.within c.index_mut.ensures.value ∙ ap (λ (o : Option NetSeen). Some o) c.in-Some.is)

pub returns : goal.returns
returns c = record {
  before = c.in-Some.net;
  after = c.kill.new.net;
  at = index-at _ _ _ c.requires.within c.index_mut.ensures.value ∙ ap (λ (o : Option NetSeen). Some o) c.in-Some.is;
  kill = c.kill.ensures;
  rest = refl;
}
