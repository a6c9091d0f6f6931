-- What a client carries, and what its acts make of it.
use Rattle.std.specs.Prelude.{ℕ, Bool, true, false, Option, Some, None}
use Rattle.sat_label.specs.declared.point.Point.{Point}
use Rattle.sat_label.specs.declared.label.Kind.{Kind}
use Rattle.sat_label.specs.declared.label.Kind.TheVariants as kind
use Rattle.sat_label.specs.declared.label.Label.{Label}
use Rattle.sat_label.specs.Order.{greater_point, zero_point}
use Rattle.sat_client.specs.declared.client.Client.{Client}

-- whether a label is that of a move
abbrev pub is_move : Kind → Bool
is_move (kind.Update x) = false
is_move (kind.Move j) = true
is_move kind.Pulse = false
is_move (kind.Close e) = false

-- the site that a move's label names
abbrev pub destination : Kind → Option ℕ
destination (kind.Update x) = None
destination (kind.Move j) = Some j
destination kind.Pulse = None
destination (kind.Close e) = None

-- before a client's first act: it saw nothing, and sits at its first site
abbrev pub first_seat : ℕ → Client
first_seat site = record { carried = record { point = zero_point; moving = None }; seat = Some site }

-- after a write, or a read of a version: the greater point is carried
abbrev pub after_observe : Client → Point → Client
after_observe c p = record c { carried = record { point = greater_point p c.carried.point; moving = c.carried.moving } }

-- after a move: its label is carried, to the site that it names, and there is no seat
abbrev pub after_move : Client → Label → Client
after_move c l = record { carried = record { point = l.point; moving = destination l.kind }; seat = None }

-- after a leave: the point is carried to wherever the client joins next
abbrev pub after_leave : Client → Client
after_leave c = record { carried = record { point = c.carried.point; moving = None }; seat = None }

-- after a granted attach
abbrev pub after_join : Client → ℕ → Client
after_join c site = record { carried = record { point = c.carried.point; moving = None }; seat = Some site }
