use Rattle.sat_lasting_script.proofs.Sound.{lasting_lines_make}
use Rattle.sat_lasting_script.proofs.law.lasting_lines_make_texts.Goals as goal

pub returns : goal.returns
returns c = lasting_lines_make
