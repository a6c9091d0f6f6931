use Rattle.sat_lasting_script.proofs.Quick.{plain_said}
use Rattle.sat_lasting_script.proofs.line.lasting_line.Goals as goal

pub returns-in-Some : goal.returns-in-Some
returns-in-Some c = plain_said c.args.reader.now.state c.args.line.now c.in-Some.act c.in-Some.ensures
