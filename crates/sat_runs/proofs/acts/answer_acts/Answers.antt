use Rattle.std.proofs.Common.{ap, ℕ, ◌<◌, get_or, ◌≡◌, ◌∷◌, ◌++◌, ◌+◌, ◌∙◌, [], Some, refl, sym, rules, take, length, arith}
use Rattle.std.proofs.lemmas.List.{take_more, take_all}
use Rattle.sat_act.specs.declared.act.Act.{Act}
use Rattle.sat_act.specs.Ranges.{IsActOf}
use Rattle.sat_report.proofs.NextDigit.{goes_on}
use Rattle.sat_runs.proofs.Running.{behind_text, lines_next, lines_start, lines_stop, on_err, rest_all}
use Rattle.sat_runs.proofs.acts.answer_acts.Goals as goal

pub loop-act-init : goal.loop-act-init
loop-act-init c = record { deployment = refl; rest = c.requires.acts; lines = lines_start c.args.world.now c.args.before c.args.text.now.items; line = c.of-line.ensures ∙ ap (λ (n : ℕ). Some n) (omega arith) }

pub returns-in_err-answer_numbered-clause-err : goal.returns-in_err-answer_numbered-clause-err
returns-in_err-answer_numbered-clause-err c =
    let had = c.loop-act.invariant in
    let here : get_or c.args.acts.now c.loop-act.act-index c.act-item.result ≡ c.act-item.result = search rules in
    on_err _ _ (lines_stop c.args.world.now c.loop-act.world c.answer_numbered.new.world c.args.text.now.items c.loop-act.text.items c.answer_numbered.new.text.items c.args.before c.loop-act.act-index c.args.acts.now c.act-item.result
    had.deployment (omega (arith, c.loop-act-test.true)) here had.lines c.in_err-answer_numbered.ensures.text c.in_err-answer_numbered.ensures.world)

pub loop-act-preserved : goal.loop-act-preserved
loop-act-preserved c =
    let had = c.loop-act.invariant in
    let inside : c.loop-act.act-index < length c.args.acts.now = omega (arith, c.loop-act-test.true) in
    let here : get_or c.args.acts.now c.loop-act.act-index c.act-item.result ≡ c.act-item.result = search rules in
    let long : length (take c.loop-act.act-index c.args.acts.now) ≡ c.loop-act.act-index = search rules in
    let next : c.advance.new.self ≡ Some ((c.args.before + c.loop-act.act-index) + 1) = c.advance.ensures ∙ sym (goes_on (c.args.before + c.loop-act.act-index) c.loop-act.line had.line (omega (arith, inside, c.requires.few))) in
    let counts : (c.args.before + c.loop-act.act-index) + 1 ≡ c.args.before + (c.loop-act.act-index + 1) = omega arith in
    record {
      deployment = c.answer_numbered.ensures.deployment ∙ had.deployment;
      rest = rest_all (λ a. IsActOf c.args.world.now.deployment a) c.args.acts.now c.loop-act.act-index c.act-item.result inside had.rest;
      lines = lines_next c.args.world.now c.loop-act.world c.answer_numbered.new.world c.args.text.now.items c.loop-act.text.items c.answer_numbered.new.text.items c.args.before c.loop-act.act-index c.advance.new.self
          (take c.loop-act.act-index c.args.acts.now) (take (c.loop-act.act-index + 1) c.args.acts.now) c.act-item.result had.deployment long (take_more c.args.acts.now c.loop-act.act-index c.act-item.result inside ∙ ap (λ (a : Act). take c.loop-act.act-index c.args.acts.now ++ a ∷ []) here) next had.lines c.in_ok-answer_numbered.ensures.line;
      line = next ∙ ap (λ (n : ℕ). Some n) counts;
    }

pub returns-clause-lines : goal.returns-clause-lines
returns-clause-lines c = let all : take c.loop-act.act-index c.args.acts.now ≡ c.args.acts.now = take_all c.loop-act.act-index c.args.acts.now (omega (arith, c.loop-act-test.false)) in rw all at c.loop-act.invariant.lines

pub returns-clause-running : goal.returns-clause-running
returns-clause-running c = λ front done counted now. let all : take c.loop-act.act-index c.args.acts.now ≡ c.args.acts.now = take_all c.loop-act.act-index c.args.acts.now (omega (arith, c.loop-act-test.false)) in
    behind_text c.args.world.now c.loop-act.world c.args.before c.args.acts.now c.args.text.now.items c.loop-act.text.items front done (rw all at c.loop-act.invariant.lines) counted now
