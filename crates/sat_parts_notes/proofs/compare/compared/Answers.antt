use Rattle.std.proofs.Common.{List, subst}
use Rattle.sat_session.specs.Owned.{Owned}
use Rattle.sat_parts_notes.specs.Comparing.{IsCompared}
use Rattle.sat_parts_notes.proofs.Walks.{compared-moves}
use Rattle.sat_parts_notes.proofs.compare.compared.Goals as goal

pub returns : goal.returns
returns c =
    compared-moves c.args.nodes.now.items c.sort.new.list.items c.args.noted.now.items c.sort-2.new.list.items c.in_ok-found.found c.in_ok-sort.ensures.same c.in_ok-sort-2.ensures.same
    (subst (λ (xs : List Owned). IsCompared xs c.sort-2.new.list.items c.in_ok-found.found) c.as_slice-kept.ensures.value
    (subst (λ (ys : List Owned). IsCompared c.as_slice-kept.result.now ys c.in_ok-found.found) c.as_slice-told.ensures.value c.in_ok-found.ensures))
