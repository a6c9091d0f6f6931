use Rattle.std.proofs.Common.{Option, Some, ap, ◌∙◌, refl}
use Rattle.sat_net.specs.Nets.{NetSeen}
use Rattle.sat_world.proofs.Again.{hops-some, on-err}
use Rattle.sat_world.proofs.Lists.{index-at}
use Rattle.sat_world.proofs.nets.hops_at.Goals as goal

pub unreachable-requires : goal.unreachable-requires
unreachable-requires c = let e = rw c.in_default.is at (c.requires.there _ (index-at _ _ _ c.requires.within c.index_mut.ensures.value)) in cc

pub hop_all-requires : goal.hop_all-requires
hop_all-requires c = c.requires.hops _ (index-at _ _ _ c.requires.within c.index_mut.ensures.value ∙ ap (λ (o : Option NetSeen). Some o) c.in-Some.is)

pub returns-clause-ok : goal.returns-clause-ok
returns-clause-ok c = record {
  before = c.in-Some.net;
  after = c.hop_all.new.self;
  at = index-at _ _ _ c.requires.within c.index_mut.ensures.value ∙ ap (λ (o : Option NetSeen). Some o) c.in-Some.is;
  hops = c.in_ok-done.ensures.ok;
  rest = refl;
}

pub returns-in_err-done-clause-err : goal.returns-in_err-done-clause-err
returns-in_err-done-clause-err c =
    on-err _ _ (hops-some _ _ _ _ _ _ (index-at _ _ _ c.requires.within c.index_mut.ensures.value ∙ ap (λ (o : Option NetSeen). Some o) c.in-Some.is) c.in_err-done.ensures.err)
