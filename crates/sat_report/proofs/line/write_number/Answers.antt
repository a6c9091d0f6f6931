use Rattle.std.proofs.Common.{arith, rules}
use Rattle.sat_report.proofs.Digits.{short_number}
use Rattle.sat_report.proofs.line.write_number.Goals as goal

pub write_digits-requires : goal.write_digits-requires
write_digits-requires g c = (omega (arith, short_number c.args.number c.ranges.number.fits, c.requires), search rules)

pub returns-clause-near : goal.returns-clause-near
returns-clause-near g c = omega (arith, short_number c.args.number c.ranges.number.fits, c.write_digits.ensures.start)
