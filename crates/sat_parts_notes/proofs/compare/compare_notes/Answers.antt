use Rattle.std.proofs.Common.{List, subst}
use Rattle.sat_session.specs.Owned.{Owned}
use Rattle.sat_parts_notes.specs.Comparing.{IsCompared}
use Rattle.sat_parts_notes.specs.Notes.{part_notes}
use Rattle.sat_parts_notes.proofs.compare.compare_notes.Goals as goal

pub returns : goal.returns
returns g c =
    subst (λ (ys : List Owned). IsCompared (part_notes c.args.hubs.now c.args.gears.now c.args.serials.now) ys c.in_ok-found.found) c.in_ok-noted.ensures
    (subst (λ (xs : List Owned). IsCompared xs c.in_ok-noted.noted.items c.in_ok-found.found) c.in_ok-nodes.ensures c.in_ok-found.ensures)
