use Rattle.std.proofs.Common.{arith}
use Rattle.sat_chain_script.proofs.QuickActs.{step_said}
use Rattle.sat_chain_script.proofs.quick.step_at.Goals as goal

pub returns-in-2 : goal.returns-in-2
returns-in-2 c = step_said c.args.replicas c.args.reader.now.state c.args.line.now _ _ c.step_of_three.result c.requires.takes (omega (arith, c.requires.short)) c.three_words.ensures c.step_of_three.ensures

pub returns-in-3 : goal.returns-in-3
returns-in-3 c = step_said c.args.replicas c.args.reader.now.state c.args.line.now _ _ c.step_of_four.result c.requires.takes (omega (arith, c.requires.short)) c.four_words.ensures c.step_of_four.ensures
