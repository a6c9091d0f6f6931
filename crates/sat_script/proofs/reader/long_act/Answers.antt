use Rattle.std.proofs.Common.{◌≡◌, ◌∙◌, arith, rules}
use Rattle.std.specs.Prelude.{codes}
use Rattle.sat_script.specs.Dialect.{has_form}
use Rattle.sat_script.specs.Said.{TakesActs}
use Rattle.sat_script.specs.declared.form.Form.TheVariants.{Hop}
use Rattle.sat_script.proofs.Quick.{same_word, long_said}
use Rattle.sat_script.proofs.reader.long_act.Goals as goal

pub returns : goal.returns
returns c =
    let takes : TakesActs c.args.place.now = search rules in
    let literal : c.as_slice.result.now ≡ codes "write" = search rules in
    let is : c.in_ok-word.word.now ≡ codes "write" = same_word _ _ _ c.ne.ensures c.if-ne.false ∙ literal in
    long_said c.args.place.now c.args.line.now (codes "write") c.in_ok-word.client.now c.in_ok-word.item.now c.in_ok-word.value.now c.long_write_of.result takes (omega (arith, c.if-line-gt-LONGEST_LINE.false)) (rw is at c.in_ok-word.ensures)
    (rw c.header.ensures.header at (c.long_write_of.ensures (has_form c.args.place.now.dialect Hop)))
