use Rattle.sat_process.specs.Serials.{asked_at_serializer, took_at_serializer}
use Rattle.sat_process.proofs.SerialTurns.{kill_taken, killed_is}
use Rattle.sat_process.proofs.Takings.{acts_taken, on_err, on_ok}
use Rattle.sat_process.proofs.serial.take_kill.Goals as goal
use Rattle.sat_process.proofs.serial.take_kill.Goals.{in-Ok, in-Err-Memory}

pub returns-clause-taken : goal.returns-clause-taken
returns-clause-taken g c =
    let is = killed_is c.args.lamport c.args.host.now.node.number (kill_taken c.args.host.now c.args.lamport c.requires) in
    elim c.match-kill_at_serializer.branch [ in-Ok w ↦ on_ok _ _ (acts_taken asked_at_serializer took_at_serializer _ _ _ _ _ c.args.host.now c.kill_at_serializer.new.host is w.in-Ok.ensures.taken) | in-Err-Memory w ↦ on_err _ _ _ w.result-is ]
