use Rattle.std.proofs.Common.{subst}
use Rattle.sat_chain_script.specs.ChainLines.{saying}
use Rattle.sat_chain_runs.specs.Held.{IsHeld}
use Rattle.sat_chain_runs.proofs.Doing.{when_ok}
use Rattle.sat_chain_runs.proofs.Going.{act_saying, act_there, good_act}
use Rattle.sat_chain_runs.proofs.chain_lines.ChainLines.answer_good.Goals as goal

pub answer-requires-clause-body : goal.answer-requires-clause-body
answer-requires-clause-body c = (act_there c.args.self.now c.args.line.now (saying c.args.act.now) c.args.act.now (subst IsHeld c.self.view_is c.self.invariant) c.requires.says (act_saying c.args.act.now)).body

pub answer-requires-clause-room : goal.answer-requires-clause-room
answer-requires-clause-room c = (act_there c.args.self.now c.args.line.now (saying c.args.act.now) c.args.act.now (subst IsHeld c.self.view_is c.self.invariant) c.requires.says (act_saying c.args.act.now)).room

pub answer-requires-clause-act : goal.answer-requires-clause-act
answer-requires-clause-act c = (act_there c.args.self.now c.args.line.now (saying c.args.act.now) c.args.act.now (subst IsHeld c.self.view_is c.self.invariant) c.requires.says (act_saying c.args.act.now)).fits

pub returns-clause-ok : goal.returns-clause-ok
returns-clause-ok c = when_ok c.answer.result c.answer.ensures.ok (λ goes.
    good_act c.args.self.now c.answer.new.self c.args.line.now (saying c.args.act.now) c.args.act.now c.args.text.now.items c.answer.new.text.items (subst IsHeld c.self.view_is c.self.invariant) c.requires.says (act_saying c.args.act.now) goes)
