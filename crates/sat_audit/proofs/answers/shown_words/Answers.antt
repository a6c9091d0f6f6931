use Rattle.std.proofs.Common.{sym}
use Rattle.sat_audit.proofs.Texting.{shown_few, shown_many}
use Rattle.sat_audit.proofs.answers.shown_words.Goals as goal

pub returns-in_default : goal.returns-in_default
returns-in_default c = sym (shown_few c.args.d.now c.args.words.now c.in_default.len_below)

pub returns-in_default-2 : goal.returns-in_default-2
returns-in_default-2 c = sym (shown_many c.args.d.now c.args.words.now c.in_default.len_at_least)
