use Rattle.std.specs.Prelude.{◌≡◌, ◌<◌, ℕ, [], length, get_or}
use Rattle.sat_verdict.specs.Walks.{IsPast}
use Rattle.sat_verdict.specs.Greatest.{AreRead}
use Rattle.sat_verdict.proofs.readers.catch_up_all.Given as goal

abbrev pub invariant-loop-client : goal.invariant-loop-client
invariant-loop-client l =
    (length l.places ≡ l.client-end) × (length l.noted.items ≡ 65536) × AreRead l.tales l.numbers l.noted.items l.reader l.places ×
    ((c : ℕ) → c < l.client → IsPast l.tales (get_or (get_or l.rows l.place []) c 0) (get_or l.places c 0))
