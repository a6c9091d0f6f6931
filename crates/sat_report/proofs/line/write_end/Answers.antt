use Rattle.std.proofs.Common.{rules}
use Rattle.std.proofs.lemmas.List.{drop_all}
use Rattle.sat_report.proofs.Frames.{end_none, end_some}
use Rattle.sat_report.proofs.line.write_end.Goals as goal

pub returns-then-is_number-clause-written : goal.returns-then-is_number-clause-written
returns-then-is_number-clause-written g c = end_some c.args.number.now _ _ (search rules) (drop_all _ c.args.text.now (search rules)) c.write_byte.ensures.written

pub returns-else-is_number-clause-written : goal.returns-else-is_number-clause-written
returns-else-is_number-clause-written g c = end_none c.args.number.now _ (search rules) (drop_all _ c.args.text.now (search rules))
