-- Lines make texts.
use Rattle.std.specs.Prelude.{ℕ, ◌≡◌}
use Rattle.sat_follow.specs.Rules.{meaning_of}
use Rattle.sat_chain_rules.specs.Texts.{ChainTexts, chain_meaning}
use Rattle.sat_chain_rules.specs.Steps.{chain_rules}

-- what is made of a text line by line is what is made of the whole
abbrev pub LinesMakeTexts : Type 0
LinesMakeTexts = (t : ChainTexts) (r : ℕ) → meaning_of (chain_rules t r) ≡ chain_meaning t r
