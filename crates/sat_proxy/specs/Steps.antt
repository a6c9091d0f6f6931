-- What the calls answer, and what they make of it.
use Rattle.std.specs.Prelude.{ℕ, ◌+◌, ◌≡◌, ◌<◌, Bool, ◌==◌, ◌||◌, List, [], ◌∷◌, take, map, get_or, set, Option}
use Rattle.std.specs.Prelude.{Some, None, option_map, false, if◌then◌else◌}
use Rattle.sat_label.specs.declared.point.Point.{Point}
use Rattle.sat_label.specs.declared.label.Label.{Label}
use Rattle.sat_label.specs.declared.label.Kind.{Kind}
use Rattle.sat_label.specs.declared.label.Kind.TheVariants.{Update, Close}
use Rattle.sat_label.specs.Order.{greater_point}
use Rattle.sat_label.specs.Words.{below}
use Rattle.sat_bulk.specs.Payloads.{Payload}
use Rattle.sat_bulk.specs.declared.window.Take.{Take}
use Rattle.sat_bulk.specs.declared.window.Take.TheVariants as take
use Rattle.sat_bulk.specs.Windows.{has_number}
use Rattle.sat_bulk.specs.Windows as windows
use Rattle.sat_pool.specs.Pool.{Waiting, waiting_at}
use Rattle.sat_pool.specs.Pool as pool
use Rattle.sat_beat.specs.declared.Beat.{Beat}
use Rattle.sat_beat.specs.declared.beats.BeatTake.{BeatTake}
use Rattle.sat_beat.specs.declared.beats.BeatTake.TheVariants as came
use Rattle.sat_beat.specs.Beats.{TakenBeats, taken_of, with_taken, refreshed, is_old, has_beat, placed}
use Rattle.sat_epoch.specs.Epochs.{Epochs, in_stamp, close_cut, after_hear}
use Rattle.sat_act.specs.Parts.{known_by}
use Rattle.sat_model.specs.Next.{raised}
use Rattle.sat_proxy.specs.declared.proxy.Turned.{Turned}
use Rattle.sat_proxy.specs.declared.proxy.Turned.TheVariants as turned
use Rattle.sat_proxy.specs.declared.proxy.TurnFault.{TurnFault}
use Rattle.sat_proxy.specs.declared.proxy.TurnFault.TheVariants as turn
use Rattle.sat_proxy.specs.declared.proxy.StampFault.{StampFault}
use Rattle.sat_proxy.specs.declared.proxy.StampFault.TheVariants as stamp
use Rattle.sat_proxy.specs.Proxy.{ProxySeen, front_at, lane_place, window_of, fronts_of, best_of, last_of, close_in}
use Rattle.sat_proxy.specs.Proxy.{outlook_here}
use Rattle.sat_proxy.specs.Asks.{stamp_next_at, may_pass_at}

-- ---- a payload

-- by whether its number was taken
abbrev pub bulk_take : ProxySeen → ℕ → ℕ → ℕ → Take
bulk_take p from gear number = if has_number (window_of p from gear) number then take.Again else take.New

-- a number of a lane is taken, and the update waits
abbrev pub with_payload : ProxySeen → ℕ → ℕ → ℕ → Payload → ProxySeen
with_payload p from gear number payload = record p {
  windows = set p.windows (lane_place p from gear) (windows.after_take (window_of p from gear) number);
  pool = pool.after_add p.pool payload;
}

-- the best beat of a site goes forward to the newest complete one
abbrev pub with_best : ProxySeen → ℕ → ProxySeen
with_best p from = record p { beats = with_taken p.beats from (refreshed (fronts_of p from) (taken_of p.beats from)) }

-- a new payload came
abbrev pub brought : ProxySeen → ℕ → ℕ → ℕ → Payload → ProxySeen
brought p from gear number payload = with_best (with_payload p from gear number payload) from

-- a payload of a number that was taken changes nothing; else it is taken and waits
abbrev pub after_bulk : ProxySeen → ℕ → ℕ → ℕ → Payload → ProxySeen
after_bulk p from gear number payload =
    if has_number (window_of p from gear) number then p else brought p from gear number payload

-- payloads of a lane come one after another, with the numbers from n on
abbrev pub after_bulks : ProxySeen → ℕ → ℕ → ℕ → List Payload → ProxySeen
after_bulks p from gear n [] = p
after_bulks p from gear n (q ∷ qs) = after_bulks (after_bulk p from gear n q) from gear (n + 1) qs

-- each of the first so many is the next of the lane when it comes
abbrev pub ComeNext : ProxySeen → ℕ → ℕ → ℕ → List Payload → ℕ → Type 0
ComeNext p from gear n qs count =
    (k : ℕ) → k < count → front_at (after_bulks p from gear n (take k qs)) from gear ≡ n + k

-- ---- a beat

-- it is old where the best one has its number or a greater one; else it came before, or is new
abbrev pub beat_take : ProxySeen → ℕ → ℕ → BeatTake
beat_take p from number =
    if is_old (best_of p from) number then came.Old
    else (if has_beat (taken_of p.beats from).later number then came.Again else came.New)

-- one beat more of a site
abbrev pub with_beat : TakenBeats → ℕ → Beat → TakenBeats
with_beat t number beat = record { best = t.best; later = placed t.later number beat }

-- a new beat came
abbrev pub beaten : ProxySeen → ℕ → ℕ → Beat → ProxySeen
beaten p from number beat =
    record p {
      beats = with_taken p.beats from
          (refreshed (fronts_of p from) (with_beat (taken_of p.beats from) number beat));
    }

-- a beat that is old or was taken changes nothing; else it is taken
abbrev pub after_beat : ProxySeen → ℕ → ℕ → Beat → ProxySeen
after_beat p from number beat = if is_old (best_of p from) number || has_beat (taken_of p.beats from).later number
    then p else beaten p from number beat

-- ---- a turn: the front of the link to the site

-- the waiting payload of a label
abbrev pub waiting_of : Waiting → Label → Option Payload
waiting_of w l = pool.waiting_of w l

abbrev pub missing : Label → Option Payload → Option TurnFault
missing l None = Some (turn.NoPayload l)
missing l (Some p) = None

-- an update wants its payload
abbrev pub front_fault : Waiting → Label → Kind → Option TurnFault
front_fault w l (Update items) = missing l (waiting_of w l)
front_fault w l _ = None

abbrev pub link_fault : Waiting → Option Label → Option TurnFault
link_fault w None = Some turn.Empty
link_fault w (Some l) = front_fault w l l.kind

-- why a turn does nothing
abbrev pub turn_fault : Epochs → ProxySeen → Option Label → Option TurnFault
turn_fault views p front = if in_stamp views then Some turn.StampOrder else link_fault p.pool front

-- what a turn shows, or takes
abbrev pub front_gives : Waiting → Label → Kind → Option Turned
front_gives w l (Update items) = option_map turned.Show (waiting_of w l)
front_gives w l _ = Some (turned.Took l)

abbrev pub link_gives : Waiting → Option Label → Option Turned
link_gives w None = None
link_gives w (Some l) = front_gives w l l.kind

abbrev pub turn_gives : Epochs → ProxySeen → Option Label → Option Turned
turn_gives views p front = if in_stamp views then None else link_gives p.pool front

-- the payload that a turn shows
abbrev pub front_shows : Waiting → Label → Kind → Option Payload
front_shows w l (Update items) = waiting_of w l
front_shows w l _ = None

abbrev pub link_shows : Waiting → Option Label → Option Payload
link_shows w None = None
link_shows w (Some l) = front_shows w l l.kind

abbrev pub turn_shows : Epochs → ProxySeen → Option Label → Option Payload
turn_shows views p front = if in_stamp views then None else link_shows p.pool front

-- the label's site is known up to it
abbrev pub knowing : ProxySeen → Label → ProxySeen
knowing p l = record p { last = set p.last l.point.site (greater_point (known_by l) (last_of p l.point.site)) }

-- the update waits no more, and its site is known up to it
abbrev pub showing : ProxySeen → Label → ProxySeen
showing p l = record (knowing p l) { pool = pool.after_take p.pool l.point }

abbrev pub shown_after : ProxySeen → Label → Option Payload → ProxySeen
shown_after p l None = p
shown_after p l (Some q) = showing p l

abbrev pub front_after : ProxySeen → Label → Kind → ProxySeen
front_after p l (Update items) = shown_after p l (waiting_of p.pool l)
front_after p l _ = knowing p l

abbrev pub link_after : ProxySeen → Option Label → ProxySeen
link_after p None = p
link_after p (Some l) = front_after p l l.kind

-- after a turn by tree; by timestamps such a turn is refused and changes nothing
abbrev pub turn_after : Epochs → ProxySeen → Option Label → ProxySeen
turn_after views p front = if in_stamp views then p else link_after p front

-- a close is heard
abbrev pub front_views : Epochs → Label → Kind → Epochs
front_views views l (Close e) = after_hear views l.point.site
front_views views l _ = views

abbrev pub link_views : Epochs → Option Label → Epochs
link_views views None = views
link_views views (Some l) = front_views views l l.kind

abbrev pub turn_views : Epochs → Option Label → Epochs
turn_views views front = if in_stamp views then views else link_views views front

-- ---- stamp order

-- the label that is shown next in timestamp order
abbrev pub stamp_label : Epochs → ProxySeen → Option Label
stamp_label views p = stamp_next_at p.sites (outlook_here views p) p.site

abbrev pub not_yet : Option Label → Option StampFault
not_yet None = Some stamp.NotYet
not_yet (Some l) = None

abbrev pub stamp_fault : Epochs → ProxySeen → Option StampFault
stamp_fault views p = if in_stamp views then not_yet (stamp_label views p) else Some stamp.TreeOrder

abbrev pub payload_at : Waiting → Option Label → Option Payload
payload_at w None = None
payload_at w (Some l) = waiting_at w l.point

-- the payload that is shown next
abbrev pub stamp_shows : Epochs → ProxySeen → Option Payload
stamp_shows views p = if in_stamp views then payload_at p.pool (stamp_label views p) else None

abbrev pub left_after : ProxySeen → Option Payload → ProxySeen
left_after p None = p
left_after p (Some q) = record p { pool = pool.after_take p.pool q.label.point }

-- after a turn by timestamps: what it shows waits no more
abbrev pub stamp_after : Epochs → ProxySeen → ProxySeen
stamp_after views p = left_after p (stamp_shows views p)

-- ---- advance

-- whose close of the view was taken from the tree
abbrev pub heard_of : Epochs → ℕ → Bool
heard_of views k = get_or views.heard k false

-- whether the site has all of its view
abbrev pub has_come : Epochs → ProxySeen → Bool
has_come views p = may_pass_at p.sites (outlook_here views p) (heard_of views) p.site

-- the close cut of the view in the best beat of a site, or the site's own
abbrev pub cut_passed : Epochs → ProxySeen → ℕ → Option Point
cut_passed views p k = if k == p.site then close_cut views views.view
    else elim (best_of p k) [ None ↦ None | Some b ↦ close_in b.1 views.view ]

abbrev pub known_after : Epochs → ProxySeen → ℕ → Point
known_after views p k = raised (last_of p k) (cut_passed views p k)

-- in stamp mode each site is known up to its close cut
abbrev pub advance_after : Epochs → ProxySeen → ProxySeen
advance_after views p = if in_stamp views then record p { last = map (known_after views p) (below p.sites) } else p
