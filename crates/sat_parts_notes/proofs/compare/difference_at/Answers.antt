use Rattle.std.proofs.Common.{sym, ◌∙◌}
use Rattle.sat_label.proofs.Members.{In-get}
use Rattle.sat_parts_notes.proofs.Keys.{under-same}
use Rattle.sat_parts_notes.proofs.Walks.{behind-first, pair-differs}
use Rattle.sat_parts_notes.proofs.compare.difference_at.Goals as goal

pub node_alone-requires-then-is_before-clause-behind : goal.node_alone-requires-then-is_before-clause-behind
node_alone-requires-then-is_before-clause-behind c =
    behind-first c.args.sessions.now c.args.place c.in-Some-filed_at.session.now c.in-Some.node.now c.requires.sessions c.in-Some-filed_at.ensures (sym c.is_before.ensures ∙ c.if-is_before.true)

pub session_alone-requires-clause-behind : goal.session_alone-requires-clause-behind
session_alone-requires-clause-behind c =
    behind-first c.args.nodes.now c.args.place c.in-Some.node.now c.in-Some-filed_at.session.now c.requires.nodes c.in-Some.ensures (sym c.is_before-2.ensures ∙ c.if-is_before-2.true)

pub returns : goal.returns
returns c =
    pair-differs c.args.nodes.now c.args.sessions.now c.in-Some.node.now c.in-Some-filed_at.session.now c.in_ok-found-4.found (In-get c.args.nodes.now c.args.place c.in-Some.node.now c.in-Some.ensures)
    (In-get c.args.sessions.now c.args.place c.in-Some-filed_at.session.now c.in-Some-filed_at.ensures)
    (under-same c.in-Some.node.now c.in-Some-filed_at.session.now (sym c.is_before.ensures ∙ c.if-is_before.false) (sym c.is_before-2.ensures ∙ c.if-is_before-2.false)) c.in_ok-found-4.ensures
