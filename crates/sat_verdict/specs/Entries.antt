-- What one entry of a given history tells.
use Rattle.std.specs.Prelude.{ℕ, Bool, false, ◌==◌, Option, Some, None}
use Rattle.sat_label.specs.declared.point.Point.{Point}
use Rattle.sat_verdict.specs.declared.tale.Tale.{Tale}
use Rattle.sat_verdict.specs.declared.tale.Tale.TheVariants.{Wrote, Moved, ReadNone, ReadSome}
use Rattle.sat_label.specs.Order.{point_eq}

-- the point that was made: of an update or a move
abbrev pub made_in : Tale → Option Point
made_in (Wrote c xs b) = Some b
made_in (Moved c b) = Some b
made_in _ = None

-- the point that its client wrote or read
abbrev pub added_in : Tale → Option Point
added_in (Wrote c xs b) = Some b
added_in (ReadSome c x p) = Some p
added_in _ = None

-- the client of an entry of a client
abbrev pub client_of : Tale → Option ℕ
client_of (Wrote c xs b) = Some c
client_of (Moved c b) = Some c
client_of (ReadNone c x) = Some c
client_of (ReadSome c x p) = Some c
client_of _ = None

-- an entry of client c
abbrev pub is_of : Tale → ℕ → Bool
is_of e c = elim (client_of e) [ None ↦ false | Some b ↦ b == c ]

-- an entry that made the point
abbrev pub makes : Tale → Point → Bool
makes e b = elim (made_in e) [ None ↦ false | Some p ↦ point_eq p b ]
