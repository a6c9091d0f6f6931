-- The first words of a line, as a text.
use Rattle.std.specs.Prelude.{ℕ, ◌+◌, ◌-◌, List, [], ◌∷◌, ◌==◌, if◌then◌else◌}

-- where a line ends behind its first n words
unfoldable pub front_end : ℕ → List ℕ → ℕ
front_end n [] = 0
front_end n (byte ∷ line) =
    if byte == 32 then (if n == 1 then 0 else front_end (n - 1) line + 1) else front_end n line + 1
