use Rattle.std.proofs.Common.{map, ◌∙◌, List, slice_get, sym, ap}
use Rattle.sat_label.specs.declared.label.Label.{Label}
use Rattle.sat_tree.specs.Cut.{neighbours}
use Rattle.sat_queue.specs.Queued.{members_of}
use Rattle.sat_serial.specs.Outboxes.{SerializerSeen, outbox, after_ship}
use Rattle.sat_serial.proofs.Boxes.{length-labels, no-box, no-change, taken-first, taken-rest}
use Rattle.sat_serial.proofs.serializer.Serializer.ship.Goals as goal

pub returns-in_default-clause-label : goal.returns-in_default-clause-label
returns-in_default-clause-label c =
    sym (ap (λ (xs : List Label). slice_get xs 0)
    (no-box c.args.to (neighbours c.self.inside.router.tree c.self.inside.router.number) (map members_of c.self.inside.outboxes.items) (sym c.place.ensures ∙ c.in_default.is)))
    ∙ ap (λ (s : SerializerSeen). slice_get (outbox s c.args.to) 0) c.self.view_is

pub returns-in_default-clause-rest : goal.returns-in_default-clause-rest
returns-in_default-clause-rest c =
    sym c.self.view_is
    ∙ (ap (λ (boxes : List (List Label)). record { tree = c.self.inside.router.tree; number = c.self.inside.router.number; killed = c.self.inside.killed; outboxes = boxes })
    (sym (no-change c.args.to (neighbours c.self.inside.router.tree c.self.inside.router.number) (map members_of c.self.inside.outboxes.items) (sym c.place.ensures ∙ c.in_default.is)))
    ∙ ap (λ (s : SerializerSeen). after_ship s c.args.to) c.self.view_is)

pub returns-clause-label : goal.returns-clause-label
returns-clause-label c =
    taken-first c.args.to (neighbours c.self.inside.router.tree c.self.inside.router.number) c.self.inside.outboxes.items c.in-Some.place c.index_mut.result.now c.take.result c.take.new.self.members
    (sym (length-labels c.self.inside.outboxes.items) ∙ c.self.invariant.each) (sym c.place.ensures ∙ c.in-Some.is) c.index_mut.ensures.value c.take.ensures.member c.take.ensures.rest
    ∙ ap (λ (s : SerializerSeen). slice_get (outbox s c.args.to) 0) c.self.view_is

pub returns-clause-rest : goal.returns-clause-rest
returns-clause-rest c =
    ap (λ (boxes : List (List Label)). record { tree = c.self.inside.router.tree; number = c.self.inside.router.number; killed = c.self.inside.killed; outboxes = boxes })
    (taken-rest c.args.to (neighbours c.self.inside.router.tree c.self.inside.router.number) c.self.inside.outboxes.items c.in-Some.place c.index_mut.result.now c.take.new.self
    (sym (length-labels c.self.inside.outboxes.items) ∙ c.self.invariant.each) (sym c.place.ensures ∙ c.in-Some.is) c.index_mut.ensures.value c.take.ensures.rest)
    ∙ ap (λ (s : SerializerSeen). after_ship s c.args.to) c.self.view_is
