use Rattle.std.proofs.Common.{arith, sym, ◌∙◌, ◌+◌, ◌&&◌, ap, drop}
use Rattle.std.proofs.lemmas.List.{at_drop_more}
use Rattle.std.specs.Str.{all_ascii_digits}
use Rattle.sat_script.proofs.number.all_digits.Goals as goal

pub loop-byte-preserved : goal.loop-byte-preserved
loop-byte-preserved c =
    let e = at_drop_more all_ascii_digits c.args.word.now c.loop-byte.byte-index 0 (omega arith) in
    ap (λ b. b && all_ascii_digits (drop (c.loop-byte.byte-index + 1) c.args.word.now)) c.if-not-is_ascii_digit.ensures.value ∙ sym e ∙ c.loop-byte.invariant
