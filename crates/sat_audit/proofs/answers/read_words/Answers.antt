use Rattle.std.proofs.Common.{sym}
use Rattle.sat_audit.proofs.Texting.{read_few, read_many}
use Rattle.sat_audit.proofs.answers.read_words.Goals as goal

pub returns-in_default : goal.returns-in_default
returns-in_default c = sym (read_few c.args.d.now c.args.words.now c.in_default.len_below)

pub returns-in_default-2 : goal.returns-in_default-2
returns-in_default-2 c = sym (read_many c.args.d.now c.args.words.now c.in_default.len_at_least)
