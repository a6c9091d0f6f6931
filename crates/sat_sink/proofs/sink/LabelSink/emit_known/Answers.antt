use Rattle.std.proofs.Common.{refl, arith}
use Rattle.sat_sink.proofs.Deeds.{emits, next-queue}
use Rattle.sat_sink.proofs.sink.LabelSink.emit_known.Goals as goal

pub index_mut-requires : goal.index_mut-requires
index_mut-requires c = let w = next-queue _ _ c.self.inside.pending.items _ c.self.view_is c.self.invariant c.requires refl in omega (arith, w)

pub invariant_of-self : goal.invariant_of-self
invariant_of-self c = (emits _ _ c.self.inside.pending.items c.index_mut.result.now c.take.new.self _ c.self.view_is c.self.invariant c.requires refl c.index_mut.ensures.value c.take.ensures.rest).sink

pub returns-clause-new : goal.returns-clause-new
returns-clause-new c = (emits _ _ c.self.inside.pending.items c.index_mut.result.now c.take.new.self _ c.self.view_is c.self.invariant c.requires refl c.index_mut.ensures.value c.take.ensures.rest).new

pub returns-clause-above : goal.returns-clause-above
returns-clause-above c = (emits _ _ c.self.inside.pending.items c.index_mut.result.now c.take.new.self _ c.self.view_is c.self.invariant c.requires refl c.index_mut.ensures.value c.take.ensures.rest).above

pub returns-clause-upto : goal.returns-clause-upto
returns-clause-upto c = (emits _ _ c.self.inside.pending.items c.index_mut.result.now c.take.new.self _ c.self.view_is c.self.invariant c.requires refl c.index_mut.ensures.value c.take.ensures.rest).upto

pub returns-clause-cut : goal.returns-clause-cut
returns-clause-cut c = (emits _ _ c.self.inside.pending.items c.index_mut.result.now c.take.new.self _ c.self.view_is c.self.invariant c.requires refl c.index_mut.ensures.value c.take.ensures.rest).cut
