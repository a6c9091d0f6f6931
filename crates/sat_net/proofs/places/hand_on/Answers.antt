use Rattle.std.proofs.Common.{◌∙◌, ap}
use Rattle.sat_serial.specs.Routes.{routes}
use Rattle.sat_serial.specs.Outboxes.{SerializerSeen, after_handle}
use Rattle.sat_net.proofs.Lists.{index-at, both-are, put-change}
use Rattle.sat_net.proofs.places.hand_on.Goals as goal

pub handle-requires : goal.handle-requires
handle-requires c = c.requires.arrives c.index_mut-serializer.result.now (index-at _ _ _ c.requires.within c.index_mut-serializer.ensures.value)

pub unreachable-requires : goal.unreachable-requires
unreachable-requires c =
    let e = c.in-Err-Dead.ensures.alive (c.requires.alive c.index_mut-serializer.result.now (index-at _ _ _ c.requires.within c.index_mut-serializer.ensures.value)) in
    let f = c.in-Err-Dead.field-0-is in cc

pub returns-in-Ok-clause-nodes : goal.returns-in-Ok-clause-nodes
returns-in-Ok-clause-nodes c = λ s at. c.in-Ok.ensures.nodes ∙ ap (λ (q : SerializerSeen). routes c.args.interest.now q.tree q.number c.args.from c.args.label) (both-are _ _ _ (index-at _ _ _ c.requires.within c.index_mut-serializer.ensures.value) at)

pub returns-in-Ok-clause-ok : goal.returns-in-Ok-clause-ok
returns-in-Ok-clause-ok c = put-change (λ (s : SerializerSeen). after_handle s c.args.interest.now c.args.from c.args.label) _ _ _ _ c.requires.within c.index_mut-serializer.ensures.value c.in-Ok.ensures.ok
