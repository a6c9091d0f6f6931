use Rattle.sat_chain_rules.proofs.Whole.{lines_make}
use Rattle.sat_chain_rules.proofs.law.chain_lines_make_texts.Goals as goal

pub returns : goal.returns
returns c = λ t r. lines_make t r
