-- What an endless source has, and where it is.
use Rattle.std.specs.Prelude.{ℕ, List}
use Rattle.sat_outside.specs.declared.endless.LoopSource.{LoopSource}

-- the bytes that it gives again and again
abbrev pub loop_bytes : LoopSource → List ℕ
loop_bytes s = s.bytes.items

-- the place of the byte that comes next
abbrev pub loop_at : LoopSource → ℕ
loop_at s = s.at
