use Rattle.sat_script.proofs.Cuts.{cut_line}
use Rattle.sat_script.proofs.words.cut_line.Goals as goal

pub returns : goal.returns
returns c = cut_line c.args.line.now _ _ _ _ _ _ c.in_ok-word.ensures c.in_ok-one.ensures c.in_ok-two.ensures
