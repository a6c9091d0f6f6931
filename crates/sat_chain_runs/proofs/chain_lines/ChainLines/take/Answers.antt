use Rattle.std.proofs.Common.{sym, subst}
use Rattle.sat_chain_runs.specs.Held.{IsHeld}
use Rattle.sat_chain_runs.proofs.Doing.{when_ok}
use Rattle.sat_chain_runs.proofs.Going.{act_there, good_act, good_keep}
use Rattle.sat_chain_runs.proofs.chain_lines.ChainLines.take.Goals as goal

pub answer-requires-clause-body : goal.answer-requires-clause-body
answer-requires-clause-body c = (act_there c.args.self.now c.args.line.now c.args.parsed c.in-Some.act (subst IsHeld c.self.view_is c.self.invariant) c.requires.says (sym c.in-Some.ensures)).body

pub answer-requires-clause-room : goal.answer-requires-clause-room
answer-requires-clause-room c = (act_there c.args.self.now c.args.line.now c.args.parsed c.in-Some.act (subst IsHeld c.self.view_is c.self.invariant) c.requires.says (sym c.in-Some.ensures)).room

pub answer-requires-clause-act : goal.answer-requires-clause-act
answer-requires-clause-act c = (act_there c.args.self.now c.args.line.now c.args.parsed c.in-Some.act (subst IsHeld c.self.view_is c.self.invariant) c.requires.says (sym c.in-Some.ensures)).fits

pub returns-in-Some-clause-ok : goal.returns-in-Some-clause-ok
returns-in-Some-clause-ok c = when_ok c.answer.result c.answer.ensures.ok (λ goes.
    good_act c.args.self.now c.answer.new.self c.args.line.now c.args.parsed c.in-Some.act c.args.text.now.items c.answer.new.text.items (subst IsHeld c.self.view_is c.self.invariant) c.requires.says (sym c.in-Some.ensures) goes)

pub returns-in-None-clause-ok : goal.returns-in-None-clause-ok
returns-in-None-clause-ok c = when_ok c.keep.result c.keep.ensures.ok (λ keeps.
    good_keep c.args.self.now c.keep.new.self c.args.line.now c.args.parsed c.args.text.now.items (subst IsHeld c.self.view_is c.self.invariant) c.requires.says (sym c.in-None.ensures) keeps)
