use Rattle.sat_session.specs.declared.noted.Noted.{Noted}
use Rattle.sat_parts_notes.specs.Collecting.{alone_line, alone_lines}
use Rattle.sat_parts_notes.proofs.Loops.{grow-alone, alone-step}
use Rattle.sat_parts_notes.proofs.journals.alone.Goals as goal

pub loop-noted-preserved : goal.loop-noted-preserved
loop-noted-preserved c =
    grow-alone alone_lines (λ (n : Noted). alone_line n n.at) alone-step c.args.notes.now c.loop-noted.noted-index c.noted-item.result c.loop-noted-test.true c.noted-item.is c.loop-noted.list c.add_alone.new.list c.loop-noted.invariant
    c.in_ok-add_alone.ensures
