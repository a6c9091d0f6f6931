use Rattle.std.proofs.Common.{ap}
use Rattle.sat_stream.specs.Stream.{Came, WholeLines}
use Rattle.sat_stream.proofs.Drained.{drained_script, drained_stays, drained_lacks}
use Rattle.sat_stream.proofs.stream.ScriptReader.drain.Goals as goal

pub returns-clause-script : goal.returns-clause-script
returns-clause-script c =
    rw (← c.self.view_is)
    (drained_script (record { lines = c.self.inside.lines; begun = c.self.inside.begun.items }) (record { lines = c.drain.new.self; begun = c.self.inside.begun.items }) c.drain.result
    (ap (λ (l : WholeLines). (let r : Came = record { lines = l; begun = c.self.inside.begun.items } in r)) c.drain.ensures.rest) c.drain.ensures.acts)

pub returns-clause-stays : goal.returns-clause-stays
returns-clause-stays c =
    rw (← c.self.view_is)
    (drained_stays (record { lines = c.self.inside.lines; begun = c.self.inside.begun.items }) (record { lines = c.drain.new.self; begun = c.self.inside.begun.items })
    (ap (λ (l : WholeLines). (let r : Came = record { lines = l; begun = c.self.inside.begun.items } in r)) c.drain.ensures.rest)
    (λ d begun more e. rw c.drain.ensures.rest at c.drain.ensures.stays d begun more e))

pub returns-clause-lacks : goal.returns-clause-lacks
returns-clause-lacks c =
    rw (← c.self.view_is)
    (drained_lacks (record { lines = c.self.inside.lines; begun = c.self.inside.begun.items }) (record { lines = c.drain.new.self; begun = c.self.inside.begun.items })
    (ap (λ (l : WholeLines). (let r : Came = record { lines = l; begun = c.self.inside.begun.items } in r)) c.drain.ensures.rest) c.self.invariant.short c.self.invariant.ended)
