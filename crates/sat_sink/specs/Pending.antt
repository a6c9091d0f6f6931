-- Pending labels: the least of them, those of all gears, and what is left without one.
use Rattle.std.specs.Prelude.{ℕ, ◌≤◌, ◌+◌, ◌<◌, Bool, not, List, [], ◌∷◌, ◌++◌, length, get_or, map, filter, nat_le}
use Rattle.std.specs.Prelude.{min, fold}
use Rattle.std.specs.List.{flat_map}
use Rattle.sat_label.specs.declared.label.Label.{Label}
use Rattle.sat_label.specs.Order.{label_eq}
use Rattle.sat_queue.specs.Queued.{Queued}
use Rattle.sat_bulk.specs.declared.Drained.{Drained}
use Rattle.sat_bulk.specs.Drains.{Rises}

-- the least of some numbers, 0 where there are none
abbrev pub least : List ℕ → ℕ
least [] = 0
least (p ∷ ps) = fold min p ps

-- whether a label's timestamp is up to this one
abbrev pub is_up_to : ℕ → Label → Bool
is_up_to t l = nat_le l.point.ts t

-- the labels of all queues
abbrev pub all_of : List (List Label) → List Label
all_of queues = flat_map (λ ls. ls) queues

-- the queues without a label
abbrev pub without : Label → List (List Label) → List (List Label)
without l queues = map (filter (λ m. not (label_eq l m))) queues

-- each queue with the list of its place behind it
abbrev pub joined : List (List Label) → List (List Label) → List (List Label)
joined [] more = []
joined (ls ∷ queues) [] = ls ∷ queues
joined (ls ∷ queues) (ms ∷ more) = (ls ++ ms) ∷ joined queues more

-- each queue rises
abbrev pub AllRise : List (Queued Label) → Type 0
AllRise queues = (g : ℕ) (q : Queued Label) → g < length queues → Rises (get_or queues g q).members

-- what was drained, and what was promised
abbrev pub labels_of : Drained → List Label
labels_of d = d.labels

abbrev pub promise_of : Drained → ℕ
promise_of d = d.promise

-- from the n-th queue on each has room for what was drained for it
abbrev pub HaveRoomFrom : ℕ → List (Queued Label) → List Drained → Type 0
HaveRoomFrom n queues drained = (g : ℕ) (q : Queued Label) (d : Drained) → n ≤ g → g < length queues
    → length (get_or queues g q).members + length (get_or drained g d).labels ≤ (get_or queues g q).room
