use Rattle.std.proofs.Common.{rules, ◌≡◌, ◌∷◌, map, sym, ◌∙◌}
use Rattle.std.proofs.lemmas.List.{nil_from_length}
use Rattle.sat_script.specs.Grammar.{line_at}
use Rattle.sat_own_acts.specs.Lines.{of_script, own_line}
use Rattle.sat_lasting_script.specs.Forms.{lasting_acts, step_words}
use Rattle.sat_lasting_script.proofs.LinesSay.{gives_same, gives_step, gives_cause, by_words, by_no_words, nothing_found}
use Rattle.sat_lasting_script.proofs.line.words_line.Goals as goal

pub returns-in_default : goal.returns-in_default
returns-in_default c =
    gives_same c.plain_line.result (own_line lasting_acts c.args.reader.now.state c.args.line.now) (of_script (line_at c.args.reader.now.state c.args.line.now))
    (by_no_words c.args.reader.now.state c.args.line.now c.args.words.now c.requires.body c.requires.words (nothing_found c.args.words.now (nil_from_length c.args.words.now c.in_default.ensures.cases))) c.plain_line.ensures

pub returns-in-Ok : goal.returns-in-Ok
returns-in-Ok c =
    let split : c.args.words.now ≡ c.in-Some._word.now ∷ c.in-Some.rest.now = search rules in
    by_words c.args.reader.now.state c.args.line.now c.in-Some-lasting_form.form c.in-Some._word.now c.args.words.now c.in-Some.rest.now c.requires.body c.requires.short c.requires.text c.requires.words split (sym c.in-Some-lasting_form.ensures)
    ∙ gives_step c.step_words.result (step_words c.args.reader.now.state c.in-Some-lasting_form.form (map (λ word. word.now) c.in-Some.rest.now)) c.in-Ok.act c.in-Ok.is c.step_words.ensures

pub returns-in-Err : goal.returns-in-Err
returns-in-Err c = λ other.
    let split : c.args.words.now ≡ c.in-Some._word.now ∷ c.in-Some.rest.now = search rules in
    by_words c.args.reader.now.state c.args.line.now c.in-Some-lasting_form.form c.in-Some._word.now c.args.words.now c.in-Some.rest.now c.requires.body c.requires.short c.requires.text c.requires.words split (sym c.in-Some-lasting_form.ensures)
    ∙ gives_cause c.step_words.result (step_words c.args.reader.now.state c.in-Some-lasting_form.form (map (λ word. word.now) c.in-Some.rest.now)) c.in-Err.cause c.in-Err.is c.step_words.ensures other

pub returns-in-None : goal.returns-in-None
returns-in-None c =
    gives_same c.plain_line-in-None.result (own_line lasting_acts c.args.reader.now.state c.args.line.now) (of_script (line_at c.args.reader.now.state c.args.line.now))
    (by_no_words c.args.reader.now.state c.args.line.now c.args.words.now c.requires.body c.requires.words (sym c.in-None.ensures)) c.plain_line-in-None.ensures
