use Rattle.std.proofs.Common.{◌∙◌, sym}
use Rattle.sat_parts_notes.proofs.SameActs.{act-decides}
use Rattle.sat_live.proofs.notes.is_same.Goals as goal

pub returns : goal.returns
returns c = λ e. (act-decides c.args.a.now c.args.b.now).0 (sym c.eq.ensures ∙ e)
