use Rattle.sat_lasting_script.proofs.Sound.{good_text}
use Rattle.sat_lasting_script.proofs.law.good_lasting_texts.Goals as goal

pub returns : goal.returns
returns c = good_text c.lastings_are_good.ensures.good
