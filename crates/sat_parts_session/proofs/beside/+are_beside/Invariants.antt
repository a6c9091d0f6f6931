use Rattle.sat_parts_session.proofs.beside.+are_beside.Given as goal

abbrev pub decreases-are_beside : goal.decreases-are_beside
decreases-are_beside g l = l.below
