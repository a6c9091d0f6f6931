use Rattle.std.proofs.Common.{subst, sym, refl}
use Rattle.sat_sink.specs.Pending.{AllRise}
use Rattle.sat_sink.specs.Found.{InGearOrder}
use Rattle.sat_sink.proofs.Finding.{queues-order}
use Rattle.sat_sink.proofs.Fronts.{queues-rise}
use Rattle.sat_sink.proofs.sink.LabelSink.next.Goals as goal

pub least_up_to-requires-clause-rise : goal.least_up_to-requires-clause-rise
least_up_to-requires-clause-rise c = subst AllRise (sym c.deref.ensures.value) (queues-rise _ c.self.inside.pending.items refl c.self.invariant)

pub least_up_to-requires-clause-order : goal.least_up_to-requires-clause-order
least_up_to-requires-clause-order c = subst InGearOrder (sym c.deref.ensures.value) (queues-order _ c.self.inside.pending.items refl c.self.invariant)
