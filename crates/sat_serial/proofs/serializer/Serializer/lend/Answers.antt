use Rattle.std.proofs.Common.{map, ◌∙◌, List, [], sym, ap}
use Rattle.sat_label.specs.declared.label.Label.{Label}
use Rattle.sat_tree.specs.Cut.{neighbours}
use Rattle.sat_queue.specs.Queued.{members_of}
use Rattle.sat_serial.specs.Outboxes.{SerializerSeen, box_in, outbox, with_box}
use Rattle.sat_serial.proofs.Boxes.{length-labels, no-box, queue-of}
use Rattle.sat_serial.proofs.Lent.{none-put, queue-put}
use Rattle.sat_serial.proofs.serializer.Serializer.lend.Goals as goal

pub returns-in_default-clause-labels : goal.returns-in_default-clause-labels
returns-in_default-clause-labels c =
    c.new-none.ensures
    ∙ (sym (no-box c.args.to (neighbours c.self.inside.router.tree c.self.inside.router.number) (map members_of c.self.inside.outboxes.items) (sym c.place.ensures ∙ c.in_default.is))
    ∙ ap (λ (s : SerializerSeen). outbox s c.args.to) c.self.view_is)

pub returns-in_default-clause-rest : goal.returns-in_default-clause-rest
returns-in_default-clause-rest c =
    sym c.self.view_is
    ∙ (ap (λ (boxes : List (List Label)). record { tree = c.self.inside.router.tree; number = c.self.inside.router.number; killed = c.self.inside.killed; outboxes = boxes })
    (sym (none-put c.args.to [] (neighbours c.self.inside.router.tree c.self.inside.router.number) (map members_of c.self.inside.outboxes.items) (sym c.place.ensures ∙ c.in_default.is)))
    ∙ ap (λ (s : SerializerSeen). with_box s c.args.to []) c.self.view_is)

pub returns-clause-labels : goal.returns-clause-labels
returns-clause-labels c =
    ap members_of c.replace.ensures.value
    ∙ (queue-of c.args.to (neighbours c.self.inside.router.tree c.self.inside.router.number) c.self.inside.outboxes.items c.in-Some.place c.index_mut.result.now
    (sym (length-labels c.self.inside.outboxes.items) ∙ c.self.invariant.each) (sym c.place.ensures ∙ c.in-Some.is) c.index_mut.ensures.value
    ∙ ap (λ (s : SerializerSeen). outbox s c.args.to) c.self.view_is)

pub returns-clause-rest : goal.returns-clause-rest
returns-clause-rest c =
    ap (λ (boxes : List (List Label)). record { tree = c.self.inside.router.tree; number = c.self.inside.router.number; killed = c.self.inside.killed; outboxes = boxes })
    (queue-put c.args.to (neighbours c.self.inside.router.tree c.self.inside.router.number) c.self.inside.outboxes.items c.in-Some.place c.replace.new.dest
    (sym (length-labels c.self.inside.outboxes.items) ∙ c.self.invariant.each) (sym c.place.ensures ∙ c.in-Some.is)
    ∙ ap (λ (ls : List Label). box_in c.args.to ls (neighbours c.self.inside.router.tree c.self.inside.router.number) (map members_of c.self.inside.outboxes.items)) (ap members_of c.replace.ensures.after ∙ c.new-none.ensures))
    ∙ ap (λ (s : SerializerSeen). with_box s c.args.to []) c.self.view_is
