use Rattle.std.specs.Prelude.{◌≡◌, length}
use Rattle.sat_verdict.specs.Greatest.{AreFresh}
use Rattle.sat_verdict.proofs.readers.fresh_entries.Given as goal

abbrev pub invariant-loop-reader : goal.invariant-loop-reader
invariant-loop-reader l = (length l.fresh.items ≡ length l.tales) × (length l.noted.items ≡ 65536) × AreFresh l.tales l.numbers l.rows l.fresh.items
