use Rattle.sat_net.proofs.Lists.{index-at}
use Rattle.sat_net.proofs.Handed.{some-handed, all-handed}
use Rattle.sat_net.proofs.places.hand_all.Goals as goal

pub handle_all-requires-clause-arrives : goal.handle_all-requires-clause-arrives
handle_all-requires-clause-arrives c = λ l is. c.requires.arrives c.index_mut-serializer.result.now l (index-at _ _ _ c.requires.within c.index_mut-serializer.ensures.value) is

pub returns-in-Err-clause-err : goal.returns-in-Err-clause-err
returns-in-Err-clause-err c =
    (c.in-Err.ensures.err.0, some-handed _ _ _ _ _ _ _ _ _ c.requires.within c.index_mut-serializer.ensures.value c.in-Err.ensures.err.1)

pub returns-clause-ok : goal.returns-clause-ok
returns-clause-ok c = all-handed _ _ _ _ _ _ _ _ c.requires.within c.index_mut-serializer.ensures.value c.in_default.ensures.after c.in_default.ensures.empty
