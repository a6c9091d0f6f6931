use Rattle.std.proofs.Common.{arith, sym, ◌∙◌, ◌+◌, refl, ◌&&◌, ap, drop}
use Rattle.std.proofs.lemmas.List.{at_drop_more}
use Rattle.std.specs.Str.{all_ascii_digits}
use Rattle.sat_script.proofs.Numbers.{value_step}
use Rattle.sat_script.proofs.number.digits.Goals as goal

pub loop-byte-preserved : goal.loop-byte-preserved
loop-byte-preserved c =
    let e = at_drop_more all_ascii_digits c.args.word.now c.loop-byte.byte-index 0 (omega arith) in
    let d = c.if-not-is_ascii_digit.ensures in (
      ap (λ b. b && all_ascii_digits (drop (c.loop-byte.byte-index + 1) c.args.word.now)) d.value ∙ sym e ∙ c.loop-byte.invariant.0,
      value_step c.args.word.now c.loop-byte.byte-index c.loop-byte.value c.saturating_mul.result _ _ (omega arith) d.cases.0 d.cases.1 refl c.loop-byte.invariant.1 c.saturating_mul.ensures
          (rw (← c.from.ensures) c.saturating_add-value.ensures),
    )
