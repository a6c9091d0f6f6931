use Rattle.std.proofs.Common.{◌≡◌, true, map, take}
use Rattle.sat_script.specs.Words.{are_below, value_of}
use Rattle.sat_script.proofs.list.numbers_below.Given as goal

abbrev pub invariant-loop-word : goal.invariant-loop-word
invariant-loop-word l =
    (are_below l.limit (map (λ word. word.now) (take l.word-index l.words)) ≡ true) × (l.numbers.items ≡ map value_of (map (λ word. word.now) (take l.word-index l.words)))
