-- What waits after a payload comes or is taken, over all values.
use Rattle.std.specs.Prelude.{ℕ, ◌≡◌, ◌⊎◌, ◌<◌, ◌+◌, ◌↔◌, false, [], length, Some, None}
use Rattle.sat_label.specs.declared.point.Point.{Point}
use Rattle.sat_label.specs.Order.{point_eq}
use Rattle.sat_label.specs.Members.{In}
use Rattle.sat_bulk.specs.Payloads.{Payload}
use Rattle.sat_pool.specs.Pool.{Waiting, none_waiting, all_waiting, waiting_at, after_add, after_take, IsPool}

-- a payload of a new point is one more of those that wait
abbrev pub AddMembers : Type 0
AddMembers = (w : Waiting) (p q : Payload) → IsPool w → p.label.point.site < length w.rows
    → waiting_at w p.label.point ≡ None → In (all_waiting (after_add w p)) q ↔ ((q ≡ p) ⊎ In (all_waiting w) q)

abbrev pub AddCounts : Type 0
AddCounts = (w : Waiting) (p : Payload) → p.label.point.site < length w.rows → waiting_at w p.label.point ≡ None
    → length (all_waiting (after_add w p)) ≡ length (all_waiting w) + 1

-- where it is taken, all others wait on
abbrev pub TakeMembers : Type 0
TakeMembers = (w : Waiting) (q : Point) (x : Payload) → IsPool w → In (all_waiting (after_take w q)) x
    ↔ (In (all_waiting w) x × (point_eq x.label.point q ≡ false))

abbrev pub TakeCounts : Type 0
TakeCounts = (w : Waiting) (q : Point) (p : Payload) → IsPool w → waiting_at w q ≡ Some p
    → length (all_waiting (after_take w q)) + 1 ≡ length (all_waiting w)

abbrev pub TakeOfNone : Type 0
TakeOfNone = (w : Waiting) (q : Point) → waiting_at w q ≡ None → after_take w q ≡ w

-- what is found waits, and what waits is found
abbrev pub FoundWaits : Type 0
FoundWaits =
    (w : Waiting) (q : Point) (p : Payload) → waiting_at w q ≡ Some p → In (all_waiting w) p × (p.label.point ≡ q)

-- what waits is found by the point of its label
abbrev pub WaitingIsFound : Type 0
WaitingIsFound = (w : Waiting) (p : Payload) → IsPool w → In (all_waiting w) p → waiting_at w p.label.point ≡ Some p

-- what is true of a pool stays so, and it has as many sites as before
abbrev pub AddKeeps : Type 0
AddKeeps = (w : Waiting) (p : Payload) → IsPool w → p.label.point.site < length w.rows
    → IsPool (after_add w p) × (length (after_add w p).rows ≡ length w.rows)

abbrev pub TakeKeeps : Type 0
TakeKeeps =
    (w : Waiting) (q : Point) → IsPool w → IsPool (after_take w q) × (length (after_take w q).rows ≡ length w.rows)

-- of so many sites nothing waits
abbrev pub NoneWaits : Type 0
NoneWaits = (n : ℕ) → IsPool (none_waiting n) × (all_waiting (none_waiting n) ≡ [])
