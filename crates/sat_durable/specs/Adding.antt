-- What the tests' machine, which adds up bytes, writes for an input: one byte.
use Rattle.std.specs.Prelude.{◌≡◌, ℕ, List, [], ◌∷◌, Option, Some, None}
use Rattle.sat_durable.specs.Journal.{AreBytes}

-- the one byte
abbrev pub one_byte : List ℕ → Option ℕ
one_byte [] = None
one_byte (byte ∷ []) = Some byte
one_byte (byte ∷ other ∷ bytes) = None

pub only_one : (body : List ℕ) (input : ℕ) → AreBytes body → one_byte body ≡ Some input → body ≡ input ∷ []
only_one [] input small is = absurd (cc)
only_one (byte ∷ []) input small is = cc
only_one (byte ∷ other ∷ bytes) input small is = absurd (cc)
