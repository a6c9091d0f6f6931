use Rattle.sat_sink.proofs.Deeds.{closes}
use Rattle.sat_sink.proofs.sink.LabelSink.closed.Goals as goal

pub invariant_of-self : goal.invariant_of-self
invariant_of-self c = (closes _ _ _ c.self.view_is c.self.invariant c.cut-self-inside.ensures.cut).sink

pub returns-clause-cut : goal.returns-clause-cut
returns-clause-cut c = (closes _ _ _ c.self.view_is c.self.invariant c.cut-self-inside.ensures.cut).cut
