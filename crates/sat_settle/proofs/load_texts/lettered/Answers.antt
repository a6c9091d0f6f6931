use Rattle.std.proofs.Common.{◌≡◌, ◌≤◌, ◌-◌, ◌∙◌, [], drop, length, arith, rules}
use Rattle.std.specs.Fmt.{decimal}
use Rattle.std.proofs.Math.ListN.{drop_of_length-le}
use Rattle.sat_settle.proofs.LoadTexts.{all_behind, few_digits, digits_behind}
use Rattle.sat_settle.proofs.load_texts.lettered.Goals as goal

pub write_digits-start-requires : goal.write_digits-start-requires
write_digits-start-requires c =
    let short : length (decimal c.from.result) ≤ 10 = few_digits _ c.args.number (search rules) (omega (arith, c.ranges.number.fits)) in
    (omega (arith, short), search rules)

pub overflow_sub-start : goal.overflow_sub-start
overflow_sub-start c =
    let short : length (decimal c.from.result) ≤ 10 = few_digits _ c.args.number (search rules) (omega (arith, c.ranges.number.fits)) in
    omega (arith, short, c.write_digits-start.ensures.start)

pub returns : goal.returns
returns c =
    let short : length (decimal c.from.result) ≤ 10 = few_digits _ c.args.number (search rules) (omega (arith, c.ranges.number.fits)) in
    let long : length c.args.text.now ≤ 11 = search rules in
    let same : length c.write_digits-start.new.buf ≡ 11 = search rules in
    let none : drop 11 c.args.text.now ≡ [] = drop_of_length-le c.args.text.now long in
    all_behind c.write_digits-start.new.buf (c.write_digits-start.result - 1) c.args.letter same
    ∙ digits_behind c.write_digits-start.new.buf c.write_digits-start.result c.args.letter c.from.result c.args.number _ (omega (arith, short, c.write_digits-start.ensures.start)) (search rules) (search rules) none c.write_digits-start.ensures.written
