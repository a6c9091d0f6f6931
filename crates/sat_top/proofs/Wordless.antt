-- The words of no command, by their number.
use Rattle.std.proofs.Common.{◌≡◌, ◌≤◌, ℕ, List, [], ◌∷◌, length, None, refl, arith}
use Rattle.sat_top.specs.Words.{command_of}

pub many_words : (words : List (List ℕ)) → 4 ≤ length words → None ≡ command_of words
unfolding command_of
many_words [] least = absurd (omega (arith, least))
many_words (a ∷ []) least = absurd (omega (arith, least))
many_words (a ∷ b ∷ []) least = absurd (omega (arith, least))
many_words (a ∷ b ∷ c ∷ []) least = absurd (omega (arith, least))
many_words (a ∷ b ∷ c ∷ d ∷ words) least = refl
