use Rattle.std.proofs.Common.{◌≡◌, Ok, Some, rules}
use Rattle.sat_script.specs.State.{deployment_of}
use Rattle.sat_audit.proofs.Read.{closes_fresh, end_sound}
use Rattle.sat_audit.proofs.history.read_history.Goals as goal

pub returns-clause-history : goal.returns-clause-history
returns-clause-history c =
    let is : deployment_of c.close.new.self.state ≡ Some c.in-Some-into_deployment.deployment = search rules in
    end_sound c.args.bytes.now c.lines.reader c.close.new.self c.lines.noted c.lines.rest.now c.in-Some-into_deployment.deployment c.lines.invariant c.in_default.ensures
    (closes_fresh c.lines.reader.fault c.lines.reader.state c.close.new.self (Ok c.in_default-close.field-0) c.lines.rest.now c.lines.invariant.fresh c.in_default-close.ensures) is c.into_heard.result c.into_heard.ensures
