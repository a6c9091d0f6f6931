use Rattle.std.proofs.Common.{arith}
use Rattle.sat_report.proofs.Digits.{short_number}
use Rattle.sat_lasting_texts.proofs.lines.append_number.Goals as goal

pub write_digits-start-requires : goal.write_digits-start-requires
write_digits-start-requires c = (short_number c.args.number c.ranges.number.fits, omega arith)
