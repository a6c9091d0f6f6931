use Rattle.sat_durable.proofs.Lifting.{settled_empty, keeps_none}
use Rattle.sat_durable.proofs.creation.create.Goals as goal

pub invariant_of-result : goal.invariant_of-result
invariant_of-result g c = record { settled = settled_empty (g.D.Disk.state c.begin.new.disk) c.in_default-begin.ensures.content c.in_default-begin.ensures.synced }

pub returns-clause-created : goal.returns-clause-created
returns-clause-created g c = keeps_none g.M.Machine.meaning c.args.fresh (g.D.Disk.state c.begin.new.disk) c.in_default-begin.ensures.content c.in_default-begin.ensures.synced
