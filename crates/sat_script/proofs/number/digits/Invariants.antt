use Rattle.std.proofs.Common.{◌≡◌, ◌-◌, ◌^◌, min, take, drop}
use Rattle.std.specs.Str.{all_ascii_digits}
use Rattle.sat_script.specs.Words.{value_of}
use Rattle.sat_script.proofs.number.digits.Given as goal

abbrev pub invariant-loop-byte : goal.invariant-loop-byte
invariant-loop-byte l =
    (all_ascii_digits (drop l.byte-index l.word) ≡ all_ascii_digits l.word) × (l.value ≡ min (value_of (take l.byte-index l.word)) (2 ^ 64 - 1))
