use Rattle.std.proofs.lemmas.Bool.Decides.{Decides-at}
use Rattle.sat_parts_notes.proofs.SameAnswers.{answer-decides}
use Rattle.sat_finish.proofs.same.same_answer.Goals as goal

pub returns : goal.returns
returns c = Decides-at _ _ c.eq.ensures (answer-decides c.args.a.now c.args.b.now)
