use Rattle.std.proofs.Common.{◌≡◌, length, rules, sym}
use Rattle.sat_audit.proofs.Texting.{answered_none}
use Rattle.sat_audit.proofs.answers.answered.Goals as goal

pub returns-in_default : goal.returns-in_default
returns-in_default c = let none : length c.args.words.now ≡ 0 = search rules in sym (answered_none c.args.d.now c.args.act.now c.args.words.now none)
