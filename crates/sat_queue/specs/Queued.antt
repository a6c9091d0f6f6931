-- Queues with room.
use Rattle.std.specs.Prelude.{ℕ, ◌≤◌, ◌+◌, List, length}

-- the members of a queue, the front first, and for how many it has room
pub record Queued (T : Type 0) : Type 0 where
  pub members : List T
  pub room : ℕ

-- the members alone
abbrev pub members_of : {T : Type 0} → Queued T → List T
members_of queue = queue.members

-- there is room for so many more
abbrev pub HasRoomFor : {T : Type 0} → ℕ → Queued T → Type 0
HasRoomFor more queue = length queue.members + more ≤ queue.room

-- there is room for one more
abbrev pub HasRoom : {T : Type 0} → Queued T → Type 0
HasRoom queue = HasRoomFor 1 queue
