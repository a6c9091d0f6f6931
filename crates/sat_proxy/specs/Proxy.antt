-- What a site has of the others, and what is read off it.
use Rattle.std.specs.Prelude.{ℕ, ◌≡◌, ◌<◌, ◌+◌, ◌*◌, ◌-◌, ◌==◌, List, [], length, map, get_or, slice_get, replicate}
use Rattle.std.specs.Prelude.{Option, None, option_map, if◌then◌else◌}
use Rattle.sat_label.specs.declared.point.Point.{Point}
use Rattle.sat_label.specs.Order.{point_at}
use Rattle.sat_label.specs.Words.{below}
use Rattle.sat_bulk.specs.Windows.{Numbers, IsWindow}
use Rattle.sat_pool.specs.Pool.{Waiting, none_waiting, labels_waiting, IsPool}
use Rattle.sat_beat.specs.declared.Beat.{Beat}
use Rattle.sat_beat.specs.Beats.{BeatsSeen, IsBeats, IsBest, fresh_beats, taken_of}
use Rattle.sat_epoch.specs.Epochs.{Epochs, in_stamp}
use Rattle.sat_act.specs.Parts.{BeatNote}
use Rattle.sat_model.specs.Reply.{Outlook}

-- how many sites there are, how many gears each has, and which of them this one is; by sending site and gear, which
-- numbers of that lane it took; the updates that wait here; the beats that it took; and by site the point up to which
-- that one is known here
pub record ProxySeen : Type 0 where
  pub sites : ℕ
  pub gears : ℕ
  pub site : ℕ
  pub windows : List Numbers
  pub pool : Waiting
  pub beats : BeatsSeen
  pub last : List Point

-- before the first payload of a lane
abbrev pub no_numbers : Numbers
no_numbers = record { front = 0; above = [] }

-- the front of a window
abbrev pub front_in : Numbers → ℕ
front_in w = w.front

-- the point up to which a site is known in the beginning
abbrev pub first_point : ℕ → Point
first_point k = point_at 0 k 0

-- nothing came
abbrev pub fresh_proxy : ℕ → ℕ → ℕ → ProxySeen
fresh_proxy sites gears site = record {
  sites = sites;
  gears = gears;
  site = site;
  windows = replicate (sites * gears) no_numbers;
  pool = none_waiting sites;
  beats = fresh_beats sites gears;
  last = map first_point (below sites);
}

-- ---- lanes

-- the place of a lane among all those to a site
abbrev pub lane_place : ProxySeen → ℕ → ℕ → ℕ
lane_place p from gear = from * p.gears + gear

-- the numbers of a lane that were taken
abbrev pub window_of : ProxySeen → ℕ → ℕ → Numbers
window_of p from gear = get_or p.windows (lane_place p from gear) no_numbers

-- the front of a lane
abbrev pub front_at : ProxySeen → ℕ → ℕ → ℕ
front_at p from gear = (window_of p from gear).front

-- the fronts of all lanes of a site
abbrev pub fronts_of : ProxySeen → ℕ → List ℕ
fronts_of p from = map (front_at p from) (below p.gears)

-- ---- beats and what is known

-- the best beat of a site, with its number
abbrev pub best_of : ProxySeen → ℕ → Option (ℕ × Beat)
best_of p k = (taken_of p.beats k).best

-- the point up to which a site is known
abbrev pub last_of : ProxySeen → ℕ → Point
last_of p k = get_or p.last k (first_point k)

-- the close cut of an epoch in a beat, if it has one
abbrev pub close_in : Beat → ℕ → Option Point
close_in beat epoch = if epoch == 0 then None else slice_get beat.closes (epoch - 1)

-- what a beat tells
abbrev pub note_of : Beat → BeatNote
note_of beat = record { cut = beat.cut; closes = close_in beat; counts = λ g. get_or beat.counts g 0 }

abbrev pub noted : ℕ × Beat → ℕ × BeatNote
noted b = (b.0, note_of b.1)

-- what the site reads of the others
abbrev pub outlook_here : Epochs → ProxySeen → Outlook
outlook_here views p = record {
  stamp = in_stamp views;
  view = views.view;
  last = last_of p;
  best = λ k. option_map noted (best_of p k);
  waiting = labels_waiting p.pool;
}

-- ---- what is true of it

-- one window a lane, whose front is the least number that was not taken; one row of updates, one of beats and one point
-- a site; and the best beat of each site is the greatest complete one by the fronts as they are
pub record IsProxy (p : ProxySeen) : Type 0 where
  pub site : p.site < p.sites
  pub windows : length p.windows ≡ p.sites * p.gears
  pub numbers : (n : ℕ) → IsWindow (get_or p.windows n no_numbers)
  pub pool : IsPool p.pool
  pub rows : length p.pool.rows ≡ p.sites
  pub beats : IsBeats p.beats
  pub counted : p.beats.gears ≡ p.gears
  pub senders : length p.beats.rows ≡ p.sites
  pub best : (k : ℕ) → k < p.sites → IsBest (fronts_of p k) (taken_of p.beats k)
  pub last : length p.last ≡ p.sites

-- the epochs of the same site among as many
pub record AreViewsOf (p : ProxySeen) (views : Epochs) : Type 0 where
  pub own : views.site ≡ p.site
  pub heard : length views.heard ≡ p.sites
