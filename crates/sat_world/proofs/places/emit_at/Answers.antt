use Rattle.sat_world.proofs.Handed.{does-at}
use Rattle.sat_world.proofs.Lists.{index-at}
use Rattle.sat_world.proofs.places.emit_at.Goals as goal

pub emit_known-requires : goal.emit_known-requires
emit_known-requires c = c.requires.next _ (index-at _ _ _ c.requires.within c.index_mut-site.ensures.value)

pub returns : goal.returns
returns c = does-at _ _ _ _ _ _ c.requires.within c.index_mut-site.ensures.value c.sound.ensures c.requires.fits c.emit_known.ensures
