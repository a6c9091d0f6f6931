use Rattle.std.proofs.Common.{sym, subst}
use Rattle.sat_lasting_laws.specs.Ranges.{IsLastingActOf}
use Rattle.sat_lasting_script.specs.Forms.{lasting_acts}
use Rattle.sat_lasting_script.proofs.Sound.{lasting_sound}
use Rattle.sat_lasting_runs.specs.LastingTexts.{lasting_telling}
use Rattle.sat_lasting_runs.specs.Held.{IsLastingHeld, deployed, AtAnyTime, HistoryOf}
use Rattle.sat_own_acts.proofs.Going.{act_there, good_act, good_keep}
use Rattle.sat_lasting_runs.proofs.Entering.{when_ok}
use Rattle.sat_lasting_runs.proofs.lasting_lines.LastingLines.take.Goals as goal

pub answer-requires-clause-body : goal.answer-requires-clause-body
answer-requires-clause-body c =
    let held : IsLastingHeld c.args.self.now = subst IsLastingHeld c.self.view_is c.self.invariant in
    (act_there lasting_acts IsLastingActOf lasting_sound deployed AtAnyTime HistoryOf c.args.self.now c.args.line.now c.args.parsed c.in-Some.act held c.requires.says (sym c.in-Some.ensures)).body

pub answer-requires-clause-room : goal.answer-requires-clause-room
answer-requires-clause-room c =
    let held : IsLastingHeld c.args.self.now = subst IsLastingHeld c.self.view_is c.self.invariant in
    (act_there lasting_acts IsLastingActOf lasting_sound deployed AtAnyTime HistoryOf c.args.self.now c.args.line.now c.args.parsed c.in-Some.act held c.requires.says (sym c.in-Some.ensures)).room

pub answer-requires-clause-act : goal.answer-requires-clause-act
answer-requires-clause-act c =
    let held : IsLastingHeld c.args.self.now = subst IsLastingHeld c.self.view_is c.self.invariant in
    (act_there lasting_acts IsLastingActOf lasting_sound deployed AtAnyTime HistoryOf c.args.self.now c.args.line.now c.args.parsed c.in-Some.act held c.requires.says (sym c.in-Some.ensures)).fits

pub returns-in-Some : goal.returns-in-Some
returns-in-Some c =
    let held : IsLastingHeld c.args.self.now = subst IsLastingHeld c.self.view_is c.self.invariant in
    record {
      ok = when_ok c.answer.result c.answer.ensures.ok (λ goes. good_act lasting_acts IsLastingActOf lasting_sound lasting_telling deployed AtAnyTime HistoryOf c.args.self.now c.answer.new.self c.args.line.now c.args.parsed c.in-Some.act c.args.text.now.items c.answer.new.text.items
          held c.requires.says (sym c.in-Some.ensures) goes);
    }

pub returns-in-None : goal.returns-in-None
returns-in-None c =
    let held : IsLastingHeld c.args.self.now = subst IsLastingHeld c.self.view_is c.self.invariant in
    record {
      ok = when_ok c.keep.result c.keep.ensures.ok (λ keeps. good_keep lasting_acts IsLastingActOf lasting_sound lasting_telling deployed AtAnyTime HistoryOf c.args.self.now c.keep.new.self c.args.line.now c.args.parsed c.args.text.now.items
          held c.requires.says (sym c.in-None.ensures) keeps);
    }
