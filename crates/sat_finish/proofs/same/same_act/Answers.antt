use Rattle.std.proofs.lemmas.Bool.Decides.{Decides-at}
use Rattle.sat_parts_notes.proofs.SameActs.{act-decides}
use Rattle.sat_finish.proofs.same.same_act.Goals as goal

pub returns : goal.returns
returns c = Decides-at _ _ c.eq.ensures (act-decides c.args.a.now c.args.b.now)
