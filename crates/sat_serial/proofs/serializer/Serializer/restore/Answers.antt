use Rattle.std.proofs.Common.{map, ◌∙◌, List, sym, ap}
use Rattle.sat_label.specs.declared.label.Label.{Label}
use Rattle.sat_tree.specs.Cut.{neighbours}
use Rattle.sat_queue.specs.Queued.{members_of}
use Rattle.sat_serial.specs.Outboxes.{SerializerSeen, with_box}
use Rattle.sat_serial.proofs.Boxes.{length-labels}
use Rattle.sat_serial.proofs.Lent.{none-put, queue-put}
use Rattle.sat_serial.proofs.serializer.Serializer.restore.Goals as goal

pub returns-in-Some-clause-after : goal.returns-in-Some-clause-after
returns-in-Some-clause-after c =
    ap (λ (boxes : List (List Label)). record { tree = c.self.inside.router.tree; number = c.self.inside.router.number; killed = c.self.inside.killed; outboxes = boxes })
    (queue-put c.args.to (neighbours c.self.inside.router.tree c.self.inside.router.number) c.self.inside.outboxes.items c.in-Some.place c.args.labels
    (sym (length-labels c.self.inside.outboxes.items) ∙ c.self.invariant.each) (sym c.place.ensures ∙ c.in-Some.is))
    ∙ ap (λ (s : SerializerSeen). with_box s c.args.to c.args.labels.members) c.self.view_is

pub returns-in_default-clause-after : goal.returns-in_default-clause-after
returns-in_default-clause-after c =
    sym c.self.view_is
    ∙ (ap (λ (boxes : List (List Label)). record { tree = c.self.inside.router.tree; number = c.self.inside.router.number; killed = c.self.inside.killed; outboxes = boxes })
    (sym (none-put c.args.to c.args.labels.members (neighbours c.self.inside.router.tree c.self.inside.router.number) (map members_of c.self.inside.outboxes.items) (sym c.place.ensures ∙ c.in_default.is)))
    ∙ ap (λ (s : SerializerSeen). with_box s c.args.to c.args.labels.members) c.self.view_is)
