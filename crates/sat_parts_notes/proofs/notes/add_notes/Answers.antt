use Rattle.sat_session.specs.declared.noted.Noted.{Noted}
use Rattle.sat_session.specs.Notes.{at_node, own_notes}
use Rattle.sat_parts_notes.specs.Filing.{owner_in}
use Rattle.sat_parts_notes.proofs.Loops.{grow, own-step}
use Rattle.sat_parts_notes.proofs.notes.add_notes.Goals as goal

pub loop-noted-preserved : goal.loop-noted-preserved
loop-noted-preserved c =
    grow (own_notes (owner_in c.args.client)) (λ (n : Noted). at_node (owner_in c.args.client) n n.at) (own-step (owner_in c.args.client)) c.args.notes.now c.loop-noted.noted-index c.noted-item.result c.loop-noted-test.true c.noted-item.is
    c.args.list.now.items c.loop-noted.list.items c.add_note.new.list.items c.loop-noted.invariant c.in_ok-add_note.ensures
