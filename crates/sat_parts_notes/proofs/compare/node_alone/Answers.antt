use Rattle.std.proofs.Common.{List, None, Some, drop, take, subst, sym, ◌∙◌}
use Rattle.std.proofs.lemmas.List.{take-append-drop}
use Rattle.sat_label.proofs.Members.{In-get}
use Rattle.sat_label.specs.Members.{In}
use Rattle.sat_session.specs.declared.noted.Noted.{Noted}
use Rattle.sat_session.specs.Owned.{Owned}
use Rattle.sat_parts_notes.specs.Filing.{AllBefore}
use Rattle.sat_parts_notes.specs.Differences.{IsDifference}
use Rattle.sat_parts_notes.proofs.Walks.{node-only, in-taken, pair-differs}
use Rattle.sat_parts_notes.proofs.compare.node_alone.Goals as goal

pub returns-in_ok-found-in-Some : goal.returns-in_ok-found-in-Some
returns-in_ok-found-in-Some c =
    pair-differs c.args.nodes.now c.args.sessions.now c.args.node.now c.in-Some.session.now c.in_ok-found-in-Some.found (In-get c.args.nodes.now c.args.place c.args.node.now c.requires.here)
    (in-taken c.args.sessions.now c.args.place c.in-Some.session.now (subst (λ (zs : List Owned). In zs c.in-Some.session.now) c.requires.same c.in-Some.ensures.0)) c.in-Some.ensures.1 c.in_ok-found-in-Some.ensures

pub returns-in_ok-node-in-None : goal.returns-in_ok-node-in-None
returns-in_ok-node-in-None c =
    subst (λ (n : Noted). IsDifference c.args.nodes.now c.args.sessions.now (Some n) None) (sym (c.in_ok-node-in-None.ensures ∙ c.noted.ensures))
    (node-only c.args.nodes.now c.args.sessions.now (take c.args.place c.args.sessions.now) (drop c.args.place c.args.sessions.now) c.args.node.now
    (In-get c.args.nodes.now c.args.place c.args.node.now c.requires.here) (sym (take-append-drop c.args.place c.args.sessions.now))
    (subst (λ (zs : List Owned). AllBefore zs c.args.node.now) c.requires.same c.in-None.ensures) c.requires.behind)
