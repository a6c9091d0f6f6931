use Rattle.std.proofs.Common.{sym, ◌∙◌}
use Rattle.sat_parts_notes.proofs.Keys.{under-same}
use Rattle.sat_parts_notes.proofs.Walks.{both-more}
use Rattle.sat_parts_notes.proofs.compare.is_same_at.Goals as goal

pub returns : goal.returns
returns c = λ same taken.
    both-more c.args.nodes.now c.args.sessions.now c.args.place c.in-Some.node.now c.in-Some-filed_at.session.now c.in-Some.ensures c.in-Some-filed_at.ensures
    (under-same c.in-Some.node.now c.in-Some-filed_at.session.now (sym c.is_before.ensures ∙ c.if-is_before.false) (sym c.is_before-else-is_before.ensures ∙ c.if-is_before-2.false))
    (sym c.noted.ensures ∙ (c.same_noted.ensures.0 same ∙ c.noted-2.ensures)) taken
