use Rattle.std.specs.Prelude.{◌≡◌, ◌<◌, ℕ, [], length, get_or}
use Rattle.sat_verdict.specs.Walks.{IsDone, IsPast}
use Rattle.sat_verdict.proofs.walks.moves_on.Given as goal

abbrev pub invariant-loop-client : goal.invariant-loop-client
invariant-loop-client l =
    (length l.done ≡ l.client-end) × IsDone l.tales l.numbers l.unshown l.site l.done ×
    ((c : ℕ) → c < l.client → IsPast l.tales (get_or (get_or l.rows l.made []) c 0) (get_or l.done c 0))
