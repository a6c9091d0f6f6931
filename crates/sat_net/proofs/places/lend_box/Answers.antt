use Rattle.std.proofs.Common.{[], ◌∙◌, ap}
use Rattle.sat_serial.specs.Outboxes.{SerializerSeen, outbox, with_box}
use Rattle.sat_net.proofs.Lists.{index-at, both-are, put-change}
use Rattle.sat_net.proofs.places.lend_box.Goals as goal

pub lend-requires : goal.lend-requires
lend-requires c = c.requires.neighbour c.index_mut-serializer.result.now (index-at _ _ _ c.requires.within c.index_mut-serializer.ensures.value)

pub returns-clause-labels : goal.returns-clause-labels
returns-clause-labels c = λ s at. c.lend.ensures.labels ∙ ap (λ (q : SerializerSeen). outbox q c.args.to) (both-are _ _ _ (index-at _ _ _ c.requires.within c.index_mut-serializer.ensures.value) at)

pub returns-clause-rest : goal.returns-clause-rest
returns-clause-rest c = put-change (λ (s : SerializerSeen). with_box s c.args.to []) _ _ _ _ c.requires.within c.index_mut-serializer.ensures.value c.lend.ensures.rest
