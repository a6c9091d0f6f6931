use Rattle.std.proofs.Common.{◌≤◌, length}
use Rattle.sat_process.specs.Serials.{serial_link_count}
use Rattle.sat_process.proofs.serial.neighbours.Given as goal

abbrev pub invariant-loop-count : goal.invariant-loop-count
invariant-loop-count g l = l.count ≤ serial_link_count l.host.node.machine
