use Rattle.std.proofs.Common.{◌∙◌, ap, slice_get}
use Rattle.sat_serial.specs.Outboxes.{SerializerSeen, outbox}
use Rattle.sat_net.proofs.Lists.{index-at, both-are}
use Rattle.sat_net.proofs.places.ahead.Goals as goal

pub ahead-requires : goal.ahead-requires
ahead-requires c = c.requires.neighbour _ (index-at _ _ _ c.requires.within c.index-serializers-place.is)

pub returns : goal.returns
returns c = λ s at. c.ahead.ensures.label ∙ ap (λ (q : SerializerSeen). slice_get (outbox q c.args.to) c.args.count) (both-are _ _ _ (index-at _ _ _ c.requires.within c.index-serializers-place.is) at)
