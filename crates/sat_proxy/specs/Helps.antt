-- Words that the crate's private calls speak of, over the parts alone.
use Rattle.std.specs.Prelude.{ℕ, zero, suc, ◌+◌, ◌*◌, ◌≡◌, ◌<◌, ◌==◌, ◌&&◌, Bool, false, not, nat_lt, List, [], ◌∷◌}
use Rattle.std.specs.Prelude.{◌++◌, get_or, take, drop, Option, Some, None, option_map, if◌then◌else◌}
use Rattle.sat_label.specs.declared.point.Point.{Point}
use Rattle.sat_label.specs.declared.label.Label.{Label}
use Rattle.sat_bulk.specs.Payloads.{Payload}
use Rattle.sat_bulk.specs.Windows.{Numbers, after_take, has_number}
use Rattle.sat_label.specs.declared.carried.Carried.{Carried}
use Rattle.sat_label.specs.Order.{mark, point_le}
use Rattle.sat_pool.specs.Pool.{Waiting, after_add, row_of, has_ts_to}
use Rattle.sat_beat.specs.Beats.{BeatsSeen, taken_of}
use Rattle.sat_epoch.specs.Epochs.{Epochs, in_stamp}
use Rattle.sat_act.specs.Parts.{BeatNote, best_passes, closed_below, reaches}
use Rattle.sat_model.specs.Next.{raised}
use Rattle.sat_proxy.specs.Proxy.{ProxySeen, noted, close_in, first_point, last_of, AreViewsOf}
use Rattle.sat_proxy.specs.Asks.{others}

-- what the best beat of a site tells, with its number
abbrev pub told_by : BeatsSeen → ℕ → Option (ℕ × BeatNote)
told_by b k = option_map noted (taken_of b k).best

-- the point up to which a site is known
abbrev pub known_to : List Point → ℕ → Point
known_to last k = get_or last k (first_point k)

-- a label is not past the view, by the best beat of its site
abbrev pub in_view : BeatsSeen → ℕ → Label → Bool
in_view b view l = not (best_passes (told_by b l.point.site) (closed_below view l))

-- what waits of the first n sites
unfoldable pub waiting_below : Waiting → ℕ → List Payload
waiting_below w zero = []
waiting_below w (suc n) = waiting_below w n ++ row_of w n

-- the fronts of a site's lanes, among those of all
abbrev pub lane_fronts : List ℕ → ℕ → ℕ → List ℕ
lane_fronts fronts from gears = take gears (drop (from * gears) fronts)

-- what waits of all sites, and the numbers of one lane that were taken
pub record LaneSeen : Type 0 where
  pub waits : Waiting
  pub numbers : Numbers

-- a payload of the lane whose number was taken changes nothing; else it is taken, and the payload waits
abbrev pub lane_after : LaneSeen → ℕ → Payload → LaneSeen
lane_after s n q = if has_number s.numbers n then s
    else record { waits = after_add s.waits q; numbers = after_take s.numbers n }

-- payloads of the lane come one after another, with the numbers from n on
abbrev pub lane_afters : LaneSeen → ℕ → List Payload → LaneSeen
lane_afters s n [] = s
lane_afters s n (q ∷ qs) = lane_afters (lane_after s n q) (n + 1) qs

-- each of the first so many is the next of the lane when it comes
abbrev pub ComeInLane : LaneSeen → ℕ → List Payload → ℕ → Type 0
ComeInLane s n qs count = (k : ℕ) → k < count → (lane_afters s n (take k qs)).numbers.front ≡ n + k

-- the close cut of an epoch: a site's own, or that in the best beat of another
abbrev pub cut_of : BeatsSeen → ℕ → Option Point → ℕ → ℕ → Option Point
cut_of b own close epoch k =
    if k == own then close else elim (taken_of b k).best [ None ↦ None | Some c ↦ close_in c.1 epoch ]

-- a site is known up to its cut, if there is one
abbrev pub raised_to : List Point → (ℕ → Option Point) → ℕ → Point
raised_to last cut k = raised (known_to last k) (cut k)

-- the first n sites are known up to their cuts
abbrev pub raised_first : List Point → (ℕ → Option Point) → ℕ → ℕ → Point
raised_first last cut n k = if nat_lt k n then raised_to last cut k else known_to last k

-- a client that is moving here finds its point known
abbrev pub comes_here : ProxySeen → Carried → Bool
comes_here p c = elim c.moving [ None ↦ false | Some k ↦ (k == p.site) && point_le c.point (last_of p c.point.site) ]

-- in stamp mode each other site's best beat reaches a timestamp, and nothing waits up to it
abbrev pub is_reached_here : Epochs → ProxySeen → ℕ → Bool
is_reached_here views p ts =
    (in_stamp views && others p.sites p.site (λ i. best_passes (told_by p.beats i) (reaches views.view ts i)))
    && not (has_ts_to ts p.pool)

-- each other site is known up to the mark of a timestamp
abbrev pub is_known_here : ProxySeen → ℕ → Bool
is_known_here p ts = others p.sites p.site (λ i. point_le (mark ts i) (last_of p i))

-- it is the same site among as many, of as many gears, and the epochs are its own
pub record StaysHere (p q : ProxySeen) (after : Epochs) : Type 0 where
  pub sites : q.sites ≡ p.sites
  pub gears : q.gears ≡ p.gears
  pub site : q.site ≡ p.site
  pub views : AreViewsOf q after
