use Rattle.std.specs.Prelude.{◌≡◌, ◌-◌, length}
use Rattle.sat_verdict.specs.Tables.{HasClients}
use Rattle.sat_verdict.specs.Greatest.{AreFresh, AreRead}
use Rattle.sat_verdict.proofs.readers.mark_fresh.Given as goal

abbrev pub invariant-loop-at : goal.invariant-loop-at
invariant-loop-at l =
    (length l.fresh.items ≡ length l.tales) × (length l.noted.items ≡ 65536) × HasClients (length l.places) l.tales ×
    AreRead l.tales l.numbers l.noted.items l.reader l.places × AreFresh l.tales l.numbers l.rows l.fresh.items

abbrev pub decreases-loop-at : goal.decreases-loop-at
decreases-loop-at l = length l.tales - l.at
