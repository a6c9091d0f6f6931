use Rattle.sat_chain_script.proofs.Sound.{good_text}
use Rattle.sat_chain_script.proofs.law.good_chain_texts.Goals as goal

pub returns : goal.returns
returns c = good_text c.chains_are_good.ensures
