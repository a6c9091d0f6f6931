use Rattle.sat_store.proofs.Placing.{starts}
use Rattle.sat_store.proofs.store.Store.new.Goals as goal

pub returns : goal.returns
returns c = starts c.in_ok-versions.versions.items c.args.items _ _ _ c.in_ok-resize.ensures.items c.new-places.ensures.items c.new-places.ensures.len
