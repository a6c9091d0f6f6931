use Rattle.std.proofs.Common.{map, ◌∙◌, List, length, sym, ap}
use Rattle.sat_label.specs.declared.label.Label.{Label}
use Rattle.sat_tree.specs.Cut.{neighbours}
use Rattle.sat_queue.specs.Queued.{members_of}
use Rattle.sat_serial.specs.Outboxes.{SerializerSeen, outbox}
use Rattle.sat_serial.proofs.Boxes.{length-labels, no-box, many-of}
use Rattle.sat_serial.proofs.serializer.Serializer.kept.Goals as goal

pub returns-in_default-clause-kept : goal.returns-in_default-clause-kept
returns-in_default-clause-kept c =
    sym (ap (λ (xs : List Label). length xs)
    (no-box c.args.to (neighbours c.self.inside.router.tree c.self.inside.router.number) (map members_of c.self.inside.outboxes.items) (sym c.place.ensures ∙ c.in_default.is)))
    ∙ ap (λ (s : SerializerSeen). length (outbox s c.args.to)) c.self.view_is

pub returns-clause-kept : goal.returns-clause-kept
returns-clause-kept c =
    many-of c.args.to (neighbours c.self.inside.router.tree c.self.inside.router.number) c.self.inside.outboxes.items c.in-Some.place c.index.result.now c.len.result
    (sym (length-labels c.self.inside.outboxes.items) ∙ c.self.invariant.each) (sym c.place.ensures ∙ c.in-Some.is) c.index.ensures c.len.ensures
    ∙ ap (λ (s : SerializerSeen). length (outbox s c.args.to)) c.self.view_is
