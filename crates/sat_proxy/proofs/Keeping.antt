-- What a site has of the others is sound after each payload.
use Rattle.std.specs.Prelude.{ℕ, ◌≡◌, ◌<◌, ◌≤◌, ◌+◌, ◌^◌, ◌||◌, ◌==◌, Bool, true, false, nat_lt, List, length, if◌then◌else◌, refl}
use Rattle.std.proofs.Common.{arith, sym, ◌∙◌, subst}
use Rattle.std.proofs.lemmas.Bool.{eqb-true}
use Rattle.std.proofs.lemmas.Bool.Decides.{nat_tests}
use Rattle.sat_label.specs.Words.{has}
use Rattle.sat_bulk.specs.Payloads.{Payload}
use Rattle.sat_bulk.specs.Windows.{Numbers, has_number, placed, settled, IsWindow, RisesFrom}
use Rattle.sat_bulk.specs.Windows as windows
use Rattle.sat_bulk.proofs.Windows.{placed_rises, settled_window}
use Rattle.sat_pool.specs.Pool.{after_add}
use Rattle.sat_pool.proofs.Members.{add-pool}
use Rattle.sat_beat.specs.Beats.{TakenBeats, refreshed, taken_of, with_taken}
use Rattle.sat_beat.proofs.Rows.{refreshed_rows, refreshed_best}
use Rattle.sat_proxy.specs.Proxy.{ProxySeen, fronts_of, lane_place, window_of, IsProxy}
use Rattle.sat_proxy.specs.Steps.{after_bulk, brought}
use Rattle.sat_proxy.proofs.Fronts.{front-rises, lane-within, with_window}
use Rattle.sat_proxy.proofs.Sound.{added-rows, lane-sound}

window-taken : (w : Numbers) (n : ℕ) → IsWindow w → n + 1 < 2 ^ 64 → IsWindow (windows.after_take w n)
window-taken w n window small = go (has_number w n) (n == w.front) refl refl
  where
    above : (a b : ℕ) (h : Bool) → (nat_lt a b || h) ≡ false → (a == b) ≡ false → b + 1 ≤ a
    above a b true e f = grind (arith, nat_tests)
    above a b false e f = grind (arith, nat_tests)

    go : (b c : Bool) → has_number w n ≡ b → (n == w.front) ≡ c → IsWindow (if b then w else (if c then settled (n + 1) w.above else record { front = w.front; above = placed w.above n }))
    go true c e f = window
    go false true e f = settled_window (n + 1) w.above (subst (λ (m : ℕ). RisesFrom (m + 1) w.above) (sym (eqb-true n w.front f)) window)
    go false false e f = placed_rises (w.front + 1) n w.above (above n w.front (has ◌==◌ w.above n) e f) small window

pub bulk-sound : (p : ProxySeen) (from gear n : ℕ) (q : Payload) → IsProxy p → from < p.sites → gear < p.gears → n + 1 < 2 ^ 64 → q.label.point.site ≡ from → IsProxy (after_bulk p from gear n q)
bulk-sound p from gear n q is lt lg small site = go (has_number (window_of p from gear) n)
  where
    new : Numbers
    new = windows.after_take (window_of p from gear) n

    fronts : List ℕ
    fronts = fronts_of (with_window p (lane_place p from gear) new) from

    t : TakenBeats
    t = refreshed fronts (taken_of p.beats from)

    row : from < length p.beats.rows
    row = subst (λ (m : ℕ). from < m) (sym is.senders) lt

    within : lane_place p from gear < length p.windows
    within = subst (λ (m : ℕ). lane_place p from gear < m) (sym is.windows) (lane-within from gear p.sites p.gears lt lg)

    waits : q.label.point.site < length p.pool.rows
    waits = subst (λ (m : ℕ). q.label.point.site < m) (sym is.rows) (subst (λ (m : ℕ). m < p.sites) (sym site) lt)

    go : (b : Bool) → IsProxy (if b then p else brought p from gear n q)
    go true = is
    go false =
        lane-sound p from gear new (after_add p.pool q) (with_taken p.beats from t) t is
        (window-taken (window_of p from gear) n (is.numbers (lane_place p from gear)) small) (front-rises (window_of p from gear) n) lt lg within
        (add-pool p.pool q is.pool waits) (added-rows p.pool q ∙ is.rows)
        (refreshed_rows p.beats.gears p.beats.rows from t fronts is.beats row refl) refl (refreshed_best p.beats from fronts row is.beats)
