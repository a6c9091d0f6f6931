use Rattle.std.proofs.Common.{arith}
use Rattle.std.proofs.lemmas.Bool.{false≢true}
use Rattle.sat_script.specs.Grammar.{line_at}
use Rattle.sat_own_acts.specs.Lines.{of_script, own_line}
use Rattle.sat_own_acts.proofs.LinesSay.{outside_body, too_long, not_text}
use Rattle.sat_lasting_script.specs.Forms.{lasting_acts}
use Rattle.sat_lasting_script.proofs.LinesSay.{gives_same}
use Rattle.sat_lasting_script.proofs.line.any_line.Goals as goal

pub returns-then-not-is_in_body : goal.returns-then-not-is_in_body
returns-then-not-is_in_body c =
    gives_same c.plain_line.result (own_line lasting_acts c.args.reader.now.state c.args.line.now) (of_script (line_at c.args.reader.now.state c.args.line.now))
    (outside_body lasting_acts c.args.reader.now.state c.args.line.now (λ body. false≢true (rw c.if-not-is_in_body.true at (c.is_in_body.ensures.1 body)))) c.plain_line.ensures

pub returns-then-line-gt-LONGEST_LINE : goal.returns-then-line-gt-LONGEST_LINE
returns-then-line-gt-LONGEST_LINE c = λ _. too_long lasting_acts c.args.reader.now.state c.args.line.now (c.is_in_body.ensures.0 c.if-not-is_in_body.false) (omega (arith, c.if-line-gt-LONGEST_LINE.true))

pub returns-then-not-first_words : goal.returns-then-not-first_words
returns-then-not-first_words c =
    λ _. not_text lasting_acts c.args.reader.now.state c.args.line.now (c.is_in_body.ensures.0 c.if-not-is_in_body.false) (omega (arith, c.if-line-gt-LONGEST_LINE.false)) c.if-not-first_words.ensures
