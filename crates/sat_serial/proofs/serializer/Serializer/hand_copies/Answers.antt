use Rattle.std.proofs.Common.{◌∙◌, ◌++◌, ◌∷◌, [], ap, sym, map, length, refl, arith}
use Rattle.std.proofs.lemmas.List.{take_at}
use Rattle.sat_tree.specs.Cut.{neighbours}
use Rattle.sat_queue.specs.Queued.{members_of}
use Rattle.sat_serial.specs.Routes.{goes}
use Rattle.sat_serial.proofs.Boxes.{length-labels, handled-by}
use Rattle.sat_serial.proofs.Places.{all-inside, all-ascend, changed-by}
use Rattle.sat_serial.proofs.serializer.Serializer.hand_copies.Goals as goal

pub make_room-requires : goal.make_room-requires
make_room-requires c =
    let nodes = neighbours c.self.inside.router.tree c.self.inside.router.number in
    let test = goes c.args.interest.now c.self.inside.router.tree c.self.inside.router.number c.args.from c.args.label.now in
    all-inside test nodes c.as_slice.result.now (length c.deref_mut.result.now) (c.as_slice.ensures ∙ c.hits-hits.ensures)
    (ap length c.deref_mut.ensures.value ∙ (sym (length-labels c.self.inside.outboxes.items) ∙ c.self.invariant.each))

pub push_at-requires-clause-inside : goal.push_at-requires-clause-inside
push_at-requires-clause-inside c =
    let nodes = neighbours c.self.inside.router.tree c.self.inside.router.number in
    let test = goes c.args.interest.now c.self.inside.router.tree c.self.inside.router.number c.args.from c.args.label.now in
    all-inside test nodes c.as_slice-2.result.now (length c.deref_mut-2.result.now) (c.as_slice-2.ensures ∙ c.hits-hits.ensures)
    (ap length (c.deref_mut-2.ensures.value ∙ take_at _ _ _ (omega arith)) ∙ (c.make_room.auto.outboxes ∙ (ap length c.deref_mut.ensures.value ∙ (sym (length-labels c.self.inside.outboxes.items) ∙ c.self.invariant.each))))

pub push_at-requires-clause-apart : goal.push_at-requires-clause-apart
push_at-requires-clause-apart c =
    let nodes = neighbours c.self.inside.router.tree c.self.inside.router.number in
    let test = goes c.args.interest.now c.self.inside.router.tree c.self.inside.router.number c.args.from c.args.label.now in
    all-ascend test nodes c.as_slice-2.result.now (c.as_slice-2.ensures ∙ c.hits-hits.ensures)

pub returns-clause-ok : goal.returns-clause-ok
returns-clause-ok c =
    let nodes = neighbours c.self.inside.router.tree c.self.inside.router.number in
    let test = goes c.args.interest.now c.self.inside.router.tree c.self.inside.router.number c.args.from c.args.label.now in
    handled-by _ c.args.self.now c.args.interest.now c.args.from c.args.label.now _ _ _ _ c.self.view_is refl refl refl
    (ap (map members_of) (take_at _ _ _ (omega arith))
    ∙ changed-by test (λ box. box ++ c.args.label.now ∷ []) nodes c.as_slice-2.result.now (map members_of c.deref_mut-2.result.now) (map members_of c.self.inside.outboxes.items) (map members_of c.push_at.new.outboxes)
    (c.as_slice-2.ensures ∙ c.hits-hits.ensures)
    (ap (map members_of) (c.deref_mut-2.ensures.value ∙ take_at _ _ _ (omega arith)) ∙ (c.make_room.ensures.members ∙ ap (map members_of) c.deref_mut.ensures.value))
    c.self.invariant.each c.push_at.ensures)
