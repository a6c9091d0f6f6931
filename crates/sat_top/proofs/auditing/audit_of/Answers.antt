use Rattle.sat_top.proofs.Audits.{judged, unjudged}
use Rattle.sat_top.proofs.auditing.audit_of.Goals as goal

pub returns-in_ok-output-in-Ok : goal.returns-in_ok-output-in-Ok
returns-in_ok-output-in-Ok c =
    judged c.args.bytes.now c.in-Ok.history c.in_ok-output-in-Ok.output.text.items c.in_ok-output-in-Ok.output.status c.in-Ok.ensures.ok c.in_ok-output-in-Ok.ensures.text c.in_ok-output-in-Ok.ensures.status c.in_ok-output-in-Ok.ensures.verdict

pub returns-in_ok-output-in-Err : goal.returns-in_ok-output-in-Err
returns-in_ok-output-in-Err c =
    let is = c.in_ok-output-in-Err.ensures in
    unjudged c.args.bytes.now c.in-Err.fault c.in_ok-output-in-Err.output.text.items c.in_ok-output-in-Err.output.status (c.in-Err.ensures.err is.0) is.1 is.2
