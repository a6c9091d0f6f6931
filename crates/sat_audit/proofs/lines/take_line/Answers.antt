use Rattle.std.proofs.Common.{Ok, sym}
use Rattle.sat_audit.specs.Steps.{hearing}
use Rattle.sat_audit.proofs.Answering.{plain_taken, takes_fresh}
use Rattle.sat_audit.proofs.lines.take_line.Goals as goal

pub returns-clause-ok : goal.returns-clause-ok
returns-clause-ok c =
    plain_taken (hearing c.args.reader.now.state c.args.noted) c.args.line.now c.in_default.field-0 c.line.new.self (sym c.if-is_of_act.ensures)
    (takes_fresh c.args.reader.now.fault c.args.reader.now.state c.line.new.self (Ok c.in_default.field-0) c.args.line.now c.requires.fresh c.in_default.ensures)
