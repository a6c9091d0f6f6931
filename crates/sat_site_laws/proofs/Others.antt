-- What a site has of the others stays what it is to be.
use Rattle.std.proofs.Common.{◌≡◌, ◌<◌, ℕ, Bool, true, false, List, length, map, Option, Some, None, if◌then◌else◌, refl, sym, subst, ◌∙◌, length-set}
use Rattle.sat_label.specs.declared.label.Kind.{Kind}
use Rattle.sat_label.specs.declared.label.Kind.TheVariants.{Update, Move, Pulse, Close}
use Rattle.sat_label.specs.declared.label.Label.{Label}
use Rattle.sat_label.specs.declared.point.Point.{Point}
use Rattle.sat_label.specs.Words.{below, has}
use Rattle.sat_bulk.specs.Payloads.{Payload}
use Rattle.sat_pool.specs.Pool.{IsPool, Waiting}
use Rattle.sat_pool.specs.Pool as pool
use Rattle.sat_pool.proofs.Members.{none-pool, take-pool, take-sites}
use Rattle.sat_beat.specs.declared.Beat.{Beat}
use Rattle.sat_beat.specs.Beats.{TakenBeats, after_take, take_answer, taken_of, with_taken}
use Rattle.sat_beat.proofs.Rows.{fresh_is, taken_best, taken_rows}
use Rattle.sat_epoch.specs.Epochs.{Epochs, in_stamp}
use Rattle.sat_proxy.specs.Helps.{lane_fronts}
use Rattle.sat_proxy.specs.Proxy.{IsProxy, ProxySeen, fresh_proxy, front_in}
use Rattle.sat_proxy.specs.Steps.{advance_after, after_beat, front_after, known_after, knowing, left_after, link_after, shown_after, turn_after, waiting_of}
use Rattle.sat_proxy.proofs.Raised.{length-map-below}
use Rattle.sat_proxy.proofs.Sound.{BeatDone, beat-done, fresh-sound}

-- ---- with other points, and with less that waits

last-proxy : (p : ProxySeen) (last : List Point) → IsProxy p → length last ≡ length p.last → IsProxy (record p { last = last })
last-proxy p last is same = record {
  site = is.site;
  windows = is.windows;
  numbers = is.numbers;
  pool = is.pool;
  rows = is.rows;
  beats = is.beats;
  counted = is.counted;
  senders = is.senders;
  best = is.best;
  last = same ∙ is.last;
}

pool-proxy : (p : ProxySeen) (w : Waiting) → IsProxy p → IsPool w → length w.rows ≡ length p.pool.rows → IsProxy (record p { pool = w })
pool-proxy p w is waits same = record {
  site = is.site;
  windows = is.windows;
  numbers = is.numbers;
  pool = waits;
  rows = same ∙ is.rows;
  beats = is.beats;
  counted = is.counted;
  senders = is.senders;
  best = is.best;
  last = is.last;
}

less-proxy : (p : ProxySeen) (q : Point) → IsProxy p → IsProxy (record p { pool = pool.after_take p.pool q })
less-proxy p q is = pool-proxy p (pool.after_take p.pool q) is (take-pool p.pool q is.pool) (take-sites p.pool q)

-- ---- a turn

known-proxy : (p : ProxySeen) (l : Label) → IsProxy p → IsProxy (knowing p l)
known-proxy p l is = last-proxy p (knowing p l).last is (length-set p.last l.point.site _)

shown-proxy : (p : ProxySeen) (l : Label) (o : Option Payload) → IsProxy p → IsProxy (shown_after p l o)
shown-proxy p l None is = is
shown-proxy p l (Some x) is = less-proxy (knowing p l) l.point (known-proxy p l is)

kind-proxy : (p : ProxySeen) (l : Label) (kind : Kind) → IsProxy p → IsProxy (front_after p l kind)
kind-proxy p l (Update items) is = shown-proxy p l (waiting_of p.pool l) is
kind-proxy p l (Move j) is = known-proxy p l is
kind-proxy p l Pulse is = known-proxy p l is
kind-proxy p l (Close e) is = known-proxy p l is

pub turned-proxy : (v : Epochs) (p : ProxySeen) (front : Option Label) → IsProxy p → IsProxy (turn_after v p front)
turned-proxy v p front is = go (in_stamp v) front
  where
    go : (b : Bool) (front : Option Label) → IsProxy (if b then p else link_after p front)
    go true front = is
    go false None = is
    go false (Some l) = kind-proxy p l l.kind is

-- ---- the next update in timestamp order, and an advance

pub left-proxy : (p : ProxySeen) (o : Option Payload) → IsProxy p → IsProxy (left_after p o)
left-proxy p None is = is
left-proxy p (Some x) is = less-proxy p x.label.point is

pub advanced-proxy : (v : Epochs) (p : ProxySeen) → IsProxy p → IsProxy (advance_after v p)
advanced-proxy v p is = go (in_stamp v)
  where
    go : (b : Bool) → IsProxy (if b then record p { last = map (known_after v p) (below p.sites) } else p)
    go true = last-proxy p (map (known_after v p) (below p.sites)) is (length-map-below (known_after v p) p.sites ∙ sym is.last)
    go false = is

-- ---- a beat

pub beat-proxy : (p : ProxySeen) (from n : ℕ) (beat : Beat) → IsProxy p → from < p.sites → length beat.counts ≡ p.gears → IsProxy (after_beat p from n beat)
beat-proxy p from n beat is lt counts = subst (λ (q : ProxySeen). IsProxy q) done.after done.sound
  where
    all : List ℕ
    all = map front_in p.windows

    fronts : List ℕ
    fronts = lane_fronts all from p.gears

    here : from < length p.beats.rows
    here = subst (λ (m : ℕ). from < m) (sym is.senders) lt

    new : TakenBeats
    new = after_take fronts (taken_of p.beats from) n beat

    done : BeatDone p from n beat (take_answer fronts (taken_of p.beats from) n) (with_taken p.beats from new)
    done = beat-done p from n beat all all fronts (take_answer fronts (taken_of p.beats from) n) (with_taken p.beats from new) is lt refl refl refl refl refl (taken_best p.beats from n beat fronts here is.beats)
        (taken_rows p.beats.gears p.beats.rows from n new beat fronts is.beats here (counts ∙ sym is.counted) refl)

-- ---- the start

pub first-proxy : (sites gears site : ℕ) → site < sites → IsProxy (fresh_proxy sites gears site)
first-proxy sites gears site lt = fresh-sound sites gears site lt (none-pool sites) (fresh_is sites gears)
