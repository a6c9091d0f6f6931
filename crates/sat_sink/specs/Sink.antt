-- What a sink keeps, what is read off it, and what its calls make of it.
use Rattle.std.specs.Prelude.{ℕ, ◌≡◌, ◌≤◌, ◌<◌, ◌-◌, ◌==◌, Bool, true, ◌&&◌, not, List, [], ◌∷◌, length, get_or, map}
use Rattle.std.specs.Prelude.{replicate, Option, Some, None, is_some, nat_le, nat_lt}
use Rattle.sat_label.specs.declared.point.Point.{Point}
use Rattle.sat_label.specs.declared.label.Kind.TheVariants.{Pulse}
use Rattle.sat_label.specs.declared.label.Label.{Label}
use Rattle.sat_label.specs.declared.limits.TheConstants.{PULSE_GEAR}
use Rattle.sat_label.specs.Order.{point_at, point_lt, point_le, mark, greater_point}
use Rattle.sat_bulk.specs.declared.Drained.{Drained}
use Rattle.sat_label.specs.Members.{In, is_made}
use Rattle.sat_bulk.specs.Drains.{Rises, IsNew}
use Rattle.sat_sink.specs.Pending.{least, is_up_to, all_of, without, joined, labels_of, promise_of}
use Rattle.sat_label.specs.Least.{least_label}

-- the site, by gear the gathered promise and the gathered labels that were not emitted, the point of the label that was
-- sent last, and the timestamp of the last pulse
pub record Sink : Type 0 where
  pub site : ℕ
  pub promises : List ℕ
  pub pending : List (List Label)
  pub last : Point
  pub pulse : ℕ

-- before the first gather
abbrev pub fresh_sink : ℕ → ℕ → Sink
fresh_sink site gears =
    record {
      site = site;
      promises = replicate gears 0;
      pending = replicate gears [];
      last = point_at 0 site 0;
      pulse = 0;
    }

-- the least gathered promise
abbrev pub stable_of : Sink → ℕ
stable_of s = least s.promises

-- the label that would be emitted next: the least pending one with a timestamp up to the stable one
abbrev pub ready_of : Sink → Option Label
ready_of s = least_label (is_up_to (stable_of s)) (all_of s.pending)

-- every made label of the site at or below this point was emitted, and none above it
abbrev pub cut_of : Sink → Point
cut_of s =
    elim (ready_of s) [
      | None ↦ mark (stable_of s) s.site
      | Some l ↦ greater_point s.last (mark (l.point.ts - 1) s.site)
    ]

-- a pulse tells a stable timestamp above that of the last one, where no label would tell it
abbrev pub may_pulse : Sink → Bool
may_pulse s = not (is_some (ready_of s)) && nat_lt s.pulse (stable_of s)

abbrev pub pulse_of : Sink → Label
pulse_of s = record { point = point_at (stable_of s) s.site PULSE_GEAR; kind = Pulse }

-- ---- what the calls make of it

abbrev pub after_gather : Sink → List Drained → Sink
after_gather s drained =
    record s { promises = map promise_of drained; pending = joined s.pending (map labels_of drained) }

abbrev pub after_emit_of : Sink → Label → Sink
after_emit_of s l = record s { pending = without l s.pending; last = l.point }

abbrev pub after_pulse : Sink → Sink
after_pulse s = record s { last = (pulse_of s).point; pulse = stable_of s }

abbrev pub after_close : Sink → Sink
after_close s = record s { last = cut_of s }

abbrev pub after_emit : Sink → Sink
after_emit s = elim (ready_of s) [ None ↦ s | Some l ↦ after_emit_of s l ]

-- ---- what it asks of what it gathers

-- what was drained from gear g: its promise doesn't fall, and its labels are new and rise
pub record IsDrainOf (s : Sink) (g : ℕ) (d : Drained) : Type 0 where
  pub promise : get_or s.promises g 0 ≤ d.promise
  pub rises : Rises d.labels
  pub labels : (l : Label) → In d.labels l → IsNew s.site g (get_or s.promises g 0) d.promise l

-- what was drained from each gear, in their order
pub record IsDrain (s : Sink) (drained : List Drained) : Type 0 where
  pub count : length drained ≡ length s.promises
  pub each : (g : ℕ) (d : Drained) → g < length drained → IsDrainOf s g (get_or drained g d)

-- ---- the same as tests

-- a made label of site i and gear g, above one timestamp and up to another
abbrev pub is_new : ℕ → ℕ → ℕ → ℕ → Label → Bool
is_new i g low high l =
    ((l.point.site == i) && (l.point.gear == g))
    && (is_made l.kind && (nat_lt low l.point.ts && nat_le l.point.ts high))

-- each label is a new one, and above those before it
abbrev pub are_new : ℕ → ℕ → ℕ → List Label → ℕ → Bool
are_new i g high [] low = true
are_new i g high (l ∷ ls) low = is_new i g low high l && are_new i g high ls l.point.ts

-- ---- what is true of each sink

-- a pending label of gear g is a made one of it, up to its promise and above all that was sent
pub record IsPending (s : Sink) (g : ℕ) (l : Label) : Type 0 where
  pub new : IsNew s.site g 0 (get_or s.promises g 0) l
  pub unsent : point_lt s.last l.point ≡ true

pub record IsQueue (s : Sink) (g : ℕ) (ls : List Label) : Type 0 where
  pub rises : Rises ls
  pub labels : (l : Label) → In ls l → IsPending s g l

pub record IsSink (s : Sink) : Type 0 where
  pub some : 0 < length s.promises
  pub few : length s.promises < 65536
  pub rows : length s.pending ≡ length s.promises
  pub queues : (g : ℕ) → g < length s.promises → IsQueue s g (get_or s.pending g [])
  pub last : point_le s.last (mark (stable_of s) s.site) ≡ true

-- every pending label is above a point
abbrev pub AllAbove : Point → List (List Label) → Type 0
AllAbove p queues = (g : ℕ) (l : Label) → In (get_or queues g []) l → point_lt p l.point ≡ true
