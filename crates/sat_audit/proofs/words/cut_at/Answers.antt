use Rattle.sat_audit.proofs.Cuts.{cut, uncut}
use Rattle.sat_audit.proofs.words.cut_at.Goals as goal

pub returns-in-Some : goal.returns-in-Some
returns-in-Some c = cut c.args.byte c.args.text.now c.in-Some.at c.in-Some.ensures

pub returns-in-None : goal.returns-in-None
returns-in-None c = uncut c.args.byte c.args.text.now c.in-None.ensures
