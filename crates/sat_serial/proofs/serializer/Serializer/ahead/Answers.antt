use Rattle.std.proofs.Common.{map, ◌∙◌, List, slice_get, sym, ap}
use Rattle.sat_label.specs.declared.label.Label.{Label}
use Rattle.sat_tree.specs.Cut.{neighbours}
use Rattle.sat_queue.specs.Queued.{members_of}
use Rattle.sat_serial.specs.Outboxes.{SerializerSeen, outbox}
use Rattle.sat_serial.proofs.Boxes.{length-labels, no-box, label-of}
use Rattle.sat_serial.proofs.serializer.Serializer.ahead.Goals as goal

pub returns-in_default-clause-label : goal.returns-in_default-clause-label
returns-in_default-clause-label c =
    sym (ap (λ (xs : List Label). slice_get xs c.args.count)
    (no-box c.args.to (neighbours c.self.inside.router.tree c.self.inside.router.number) (map members_of c.self.inside.outboxes.items) (sym c.place.ensures ∙ c.in_default.is)))
    ∙ ap (λ (s : SerializerSeen). slice_get (outbox s c.args.to) c.args.count) c.self.view_is

pub returns-clause-label : goal.returns-clause-label
returns-clause-label c =
    label-of c.args.to (neighbours c.self.inside.router.tree c.self.inside.router.number) c.self.inside.outboxes.items c.in-Some.place c.index.result.now c.args.count c.get.result
    (sym (length-labels c.self.inside.outboxes.items) ∙ c.self.invariant.each) (sym c.place.ensures ∙ c.in-Some.is) c.index.ensures c.get.ensures
    ∙ ap (λ (s : SerializerSeen). slice_get (outbox s c.args.to) c.args.count) c.self.view_is
