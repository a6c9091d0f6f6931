use Rattle.std.proofs.lemmas.Bool.Decides.{Decides-at}
use Rattle.sat_finish.proofs.Equals.{labels-decide}
use Rattle.sat_finish.proofs.same.same_labels.Goals as goal

pub returns : goal.returns
returns c = Decides-at _ _ c.eq.ensures (labels-decide c.args.a.now c.args.b.now)
