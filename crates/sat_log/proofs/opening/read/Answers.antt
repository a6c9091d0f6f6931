use Rattle.std.proofs.Common.{sym, ap, ◌∙◌}
use Rattle.sat_durable.specs.Durables.{machine_of}
use Rattle.sat_durable.specs.Machine.{recovered}
use Rattle.sat_log.specs.Logs.{LogSeen, log_meaning}
use Rattle.sat_log.proofs.Gathering.{all_gathered, not_torn}
use Rattle.sat_log.proofs.opening.read.Goals as goal

pub returns-in-Ok-clause-bodies : goal.returns-in-Ok-clause-bodies
returns-in-Ok-clause-bodies g c =
    let content = (g.D.Disk.state c.args.disk).content in
    all_gathered content (record { machine = machine_of c.in-Ok.made.durable; inputs = c.in-Ok.made.inputs; last = c.in-Ok.made.last })
    (ap (λ (s : LogSeen). recovered log_meaning s content) (sym c.gathering.ensures) ∙ c.in-Ok.ensures.recovered)

pub returns-in-Err-clause-never_torn : goal.returns-in-Err-clause-never_torn
returns-in-Err-clause-never_torn g c bodies recovers =
    not_torn (g.D.Disk.state c.args.disk).content bodies c.gathering.result _ c.in-Err.fault c.gathering.ensures recovers c.in-Err.ensures.faults
