use Rattle.std.proofs.Common.{rules, ◌≡◌, ◌++◌, ◌∙◌, sym}
use Rattle.sat_tree.specs.PlanLine.{spaced}
use Rattle.sat_tree.proofs.PlanLine.{joined-spaced}
use Rattle.sat_script.specs.Table.{act_words, args_of, form_of, kinds_of, texts, word_of}
use Rattle.sat_script.proofs.write_lines.act_line.Goals as goal

pub returns : goal.returns
unfolding act_words
returns c =
    let words = texts c.args.d.now (kinds_of (form_of c.args.act.now)) (args_of c.args.act.now) in
    let whole : c.add_texts.new.line.items ≡ word_of (form_of c.args.act.now) ++ spaced words = search rules in
    whole ∙ sym (joined-spaced (word_of (form_of c.args.act.now)) words)
