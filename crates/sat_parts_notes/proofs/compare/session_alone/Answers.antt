use Rattle.std.proofs.Common.{List, None, Some, drop, take, subst, sym, ◌∙◌}
use Rattle.std.proofs.lemmas.List.{take-append-drop}
use Rattle.sat_label.proofs.Members.{In-get}
use Rattle.sat_session.specs.declared.noted.Noted.{Noted}
use Rattle.sat_session.specs.Owned.{Owned}
use Rattle.sat_parts_notes.specs.Filing.{AllBefore}
use Rattle.sat_parts_notes.specs.Differences.{IsDifference}
use Rattle.sat_parts_notes.proofs.Walks.{session-only}
use Rattle.sat_parts_notes.proofs.compare.session_alone.Goals as goal

pub returns-in_ok-session-in-None : goal.returns-in_ok-session-in-None
returns-in_ok-session-in-None c =
    subst (λ (n : Noted). IsDifference c.args.nodes.now c.args.sessions.now None (Some n)) (sym (c.in_ok-session-in-None.ensures ∙ c.noted.ensures))
    (session-only c.args.nodes.now c.args.sessions.now (take c.args.place c.args.nodes.now) (drop c.args.place c.args.nodes.now) c.args.session.now
    (In-get c.args.sessions.now c.args.place c.args.session.now c.requires.here) (sym (take-append-drop c.args.place c.args.nodes.now))
    (subst (λ (zs : List Owned). AllBefore zs c.args.session.now) (sym c.requires.same) c.in-None.ensures) c.requires.behind)
