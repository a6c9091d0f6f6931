use Rattle.std.proofs.Common.{arith, rules}
use Rattle.sat_report.proofs.Digits.{one_digit, short_part, some_part}
use Rattle.sat_report.proofs.line.write_small.Goals as goal

pub returns-then-number-lt10-clause-written : goal.returns-then-number-lt10-clause-written
returns-then-number-lt10-clause-written g c = one_digit c.args.number _ _ c.if-number-lt10.true (search rules)

pub write_digits-requires : goal.write_digits-requires
write_digits-requires g c =
    (omega (arith, short_part c.from.result c.args.number (search rules) (omega (arith, c.ranges.number.fits)), c.requires), search rules)

pub returns-clause-near : goal.returns-clause-near
returns-clause-near g c =
    omega (arith, short_part c.from.result c.args.number (search rules) (omega (arith, c.ranges.number.fits)), c.write_digits.ensures.start)

pub returns-clause-start : goal.returns-clause-start
returns-clause-start g c =
    omega (arith, some_part c.from.result c.args.number (search rules) (omega (arith, c.ranges.number.fits)), c.write_digits.ensures.start)
