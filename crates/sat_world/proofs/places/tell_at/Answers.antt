use Rattle.std.proofs.Common.{◌∙◌, ap, set}
use Rattle.sat_world.specs.Steps.{told}
use Rattle.sat_world.proofs.Lists.{both-are, index-at}
use Rattle.sat_world.proofs.places.tell_at.Goals as goal

pub tell-requires : goal.tell-requires
tell-requires c = c.requires.may _ (index-at _ _ _ c.requires.within c.index_mut.ensures.value)

pub returns : goal.returns
returns c = λ x at. ap (set c.args.clients.now.items c.args.place) (c.tell.ensures ∙ ap (told c.args.answer.now) (both-are _ _ _ (index-at _ _ _ c.requires.within c.index_mut.ensures.value) at))
