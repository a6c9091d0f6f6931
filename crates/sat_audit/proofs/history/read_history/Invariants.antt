use Rattle.std.proofs.Common.{length}
use Rattle.sat_audit.proofs.Read.{IsOn}
use Rattle.sat_audit.proofs.history.read_history.Given as goal

abbrev pub invariant-lines : goal.invariant-lines
invariant-lines l = IsOn l.bytes l.reader l.noted l.rest

abbrev pub decreases-lines : goal.decreases-lines
decreases-lines l = length l.rest
