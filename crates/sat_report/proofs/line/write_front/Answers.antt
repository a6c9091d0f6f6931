use Rattle.std.proofs.Common.{rules, ap, ◌++◌, ◌∙◌}
use Rattle.sat_report.proofs.Frames.{front_none, front_some}
use Rattle.sat_report.proofs.line.write_front.Goals as goal

pub returns-then-is_number-clause-written : goal.returns-then-is_number-clause-written
returns-then-is_number-clause-written g c =
    front_some c.args.number.now c.write_word.new.text _ _ c.parts-start.result.1 c.write_word.result (search rules) c.parts-start.ensures.long c.parts-start.ensures.start c.parts-start.ensures.digits
    (c.write_word.ensures.written ∙ ap (λ rest. c.parts-start.result.0.now ++ rest) c.write_byte-space.ensures.written)

pub returns-else-is_number-clause-written : goal.returns-else-is_number-clause-written
returns-else-is_number-clause-written g c = front_none c.args.number.now _ (search rules)
