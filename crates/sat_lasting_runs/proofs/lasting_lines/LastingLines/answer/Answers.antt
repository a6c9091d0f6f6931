use Rattle.std.proofs.Common.{◌≡◌, ℕ, ◌+◌, ◌-◌, ◌^◌, min, Option, sym, ap, subst, ◌∙◌}
use Rattle.sat_script.specs.State.{Seen, with_one_act}
use Rattle.sat_lasting_laws.specs.Ranges.{IsLastingActOf}
use Rattle.sat_lasting_script.specs.Forms.{lasting_acts}
use Rattle.sat_lasting_runs.specs.LastingTexts.{lasting_telling}
use Rattle.sat_lasting.specs.Lasts.{LastingSeen}
use Rattle.sat_lasting_runs.specs.Held.{AsksAct, LastingHeld, IsLastingHeld, deployed, AtAnyTime, HistoryOf}
use Rattle.sat_lasting_runs.proofs.Entering.{asks, number_is, ready_there}
use Rattle.sat_own_acts.proofs.Doing.{held_failed, held_done, goes_by}
use Rattle.sat_lasting_runs.proofs.lasting_lines.LastingLines.answer.Goals as goal

pub answer_in-requires : goal.answer_in-requires
answer_in-requires c =
    let held : IsLastingHeld c.args.self.now = subst IsLastingHeld c.self.view_is c.self.invariant in
    subst (λ (o : Option LastingSeen). AsksAct o c.args.act.now) (ap (λ (v : LastingHeld). v.machine) (sym c.self-2.view_is))
    (asks c.args.self.now c.start.new.self.machine c.args.act.now held c.in_ok-start.ensures.started c.requires.act)

pub invariant_of-self : goal.invariant_of-self
invariant_of-self c =
    let held : IsLastingHeld c.args.self.now = subst IsLastingHeld c.self.view_is c.self.invariant in
    let reader : c.self-2.inside.reader ≡ c.args.self.now.reader = ap (λ (v : LastingHeld). v.reader) c.self-2.view_is ∙ c.start.ensures.reader in
    held_failed lasting_acts IsLastingActOf deployed AtAnyTime HistoryOf c.args.self.now _ c.args.act.now held c.requires.body c.requires.room c.requires.act
    (c.count_act.ensures ∙ ap (λ (s : Seen). record { state = with_one_act s.state; fault = s.fault }) reader) c.in_err-answer_in.ensures.err (ap (λ (v : LastingHeld). v.answered) c.self-2.view_is ∙ c.start.ensures.answered)

pub invariant_of-self-2 : goal.invariant_of-self-2
invariant_of-self-2 c =
    let entered = c.in_ok-answer_in.ensures.ok in
    let ready = ready_there c.args.self.now c.start.new.self.machine entered.before c.in_ok-start.ensures.started (ap (λ (v : LastingHeld). v.machine) (sym c.self-2.view_is) ∙ entered.was) in
    let held : IsLastingHeld c.args.self.now = subst IsLastingHeld c.self.view_is c.self.invariant in
    let reader : c.self-2.inside.reader ≡ c.args.self.now.reader = ap (λ (v : LastingHeld). v.reader) c.self-2.view_is ∙ c.start.ensures.reader in
    let answered : c.self-2.inside.answered ≡ c.args.self.now.answered = ap (λ (v : LastingHeld). v.answered) c.self-2.view_is ∙ c.start.ensures.answered in
    held_done lasting_acts IsLastingActOf deployed AtAnyTime HistoryOf c.args.self.now _ c.args.act.now held c.requires.body c.requires.room c.requires.act
    (c.count_act.ensures ∙ ap (λ (s : Seen). record { state = with_one_act s.state; fault = s.fault }) reader) lasting_telling entered.before entered.after c.args.text.now.items c.answer_in.new.text.items ready
    entered.enters entered.now (number_is c.args.self.now c.saturating_add-number.result held (c.saturating_add-number.ensures ∙ ap (λ (n : ℕ). min (n + 1) (2 ^ 64 - 1)) answered)) tt

pub returns : goal.returns
returns c =
    let entered = c.in_ok-answer_in.ensures.ok in
    let ready = ready_there c.args.self.now c.start.new.self.machine entered.before c.in_ok-start.ensures.started (ap (λ (v : LastingHeld). v.machine) (sym c.self-2.view_is) ∙ entered.was) in
    let held : IsLastingHeld c.args.self.now = subst IsLastingHeld c.self.view_is c.self.invariant in
    let reader : c.self-2.inside.reader ≡ c.args.self.now.reader = ap (λ (v : LastingHeld). v.reader) c.self-2.view_is ∙ c.start.ensures.reader in
    let answered : c.self-2.inside.answered ≡ c.args.self.now.answered = ap (λ (v : LastingHeld). v.answered) c.self-2.view_is ∙ c.start.ensures.answered in
    record {
      ok = goes_by lasting_acts IsLastingActOf deployed AtAnyTime HistoryOf c.args.self.now _ c.args.act.now held c.requires.body c.requires.room c.requires.act
          (c.count_act.ensures ∙ ap (λ (s : Seen). record { state = with_one_act s.state; fault = s.fault }) reader) lasting_telling entered.before entered.after c.args.text.now.items c.answer_in.new.text.items ready
          entered.enters entered.now (number_is c.args.self.now c.saturating_add-number.result held (c.saturating_add-number.ensures ∙ ap (λ (n : ℕ). min (n + 1) (2 ^ 64 - 1)) answered));
    }
