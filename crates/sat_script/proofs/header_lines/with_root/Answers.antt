use Rattle.std.proofs.Common.{sym, ap, ◌∙◌, ◌∷◌, ◌++◌, [], map, None, Some, get_or}
use Rattle.std.proofs.lemmas.List.{map_more, take_all}
use Rattle.sat_script.proofs.header_lines.with_root.Goals as goal

pub loop-number-preserved : goal.loop-number-preserved
loop-number-preserved c =
    let number = get_or c.args.numbers.now c.loop-number.number-index 0 in
    c.in_ok-push-2.ensures.items
    ∙ ap (λ ps. ps ++ Some number ∷ []) c.loop-number.invariant
    ∙ ap (λ ps. None ∷ ps) (sym (map_more Some c.args.numbers.now c.loop-number.number-index 0 c.loop-number-test.true))

pub returns : goal.returns
returns c = c.loop-number.invariant ∙ ap (λ ns. None ∷ map Some ns) (take_all c.loop-number.number-index c.args.numbers.now c.loop-number-test.false)
