-- Which queue the least label stands in, as it is looked for, one queue after another.
use Rattle.std.specs.Prelude.{ℕ, ◌≡◌, ◌≤◌, ◌<◌, Bool, true, List, [], get_or, map, take, slice_get, nat_le, nat_lt}
use Rattle.std.specs.Prelude.{Option, Some, None}
use Rattle.sat_label.specs.declared.label.Label.{Label}
use Rattle.sat_label.specs.Order.{label_lt}
use Rattle.sat_label.specs.Members.{In}
use Rattle.sat_label.specs.Least.{least_label}
use Rattle.sat_queue.specs.Queued.{Queued, members_of}
use Rattle.sat_sink.specs.Pending.{is_up_to, all_of}
use Rattle.sat_sink.specs.declared.queue.Found.{Found}

-- what stands in the queue of gear g
abbrev pub queue_at : List (Queued Label) → ℕ → List Label
queue_at queues g = get_or (map members_of queues) g []

-- of two labels with one timestamp that of the lower gear is the lesser
abbrev pub InGearOrder : List (Queued Label) → Type 0
InGearOrder queues = (g h : ℕ) (l m : Label) → g < h → In (queue_at queues g) l → In (queue_at queues h) m
    → l.point.ts ≤ m.point.ts → label_lt l m ≡ true

-- whether a front with this timestamp goes before what was found, or, where nothing was, is up to t
abbrev pub goes_before : ℕ → Option Found → ℕ → Bool
goes_before n None t = nat_le n t
goes_before n (Some f) t = nat_lt n f.ts

-- the least label up to t of the first n queues is the front of the queue that was found
abbrev pub IsFound : ℕ → List (Queued Label) → ℕ → Option Found → Type 0
IsFound t queues n None = least_label (is_up_to t) (all_of (map members_of (take n queues))) ≡ None
IsFound t queues n (Some f) =
    (l : Label) × (least_label (is_up_to t) (all_of (map members_of (take n queues))) ≡ Some l) × (f.ts ≡ l.point.ts)
    × (slice_get (queue_at queues f.place) 0 ≡ Some l) × (f.place < n)
