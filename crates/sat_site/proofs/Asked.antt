-- Whether a site would do what it can be asked for.
use Rattle.std.specs.Prelude.{◌≡◌, ℕ, Bool, true, false, ◌&&◌, ◌==◌, List, length, Option, Some, None, is_none, is_some, if◌then◌else◌, refl}
use Rattle.std.proofs.Common.{ap, sym, ◌∙◌}
use Rattle.sat_label.specs.declared.label.Kind.{Kind}
use Rattle.sat_label.specs.declared.label.Kind.TheVariants.{Update, Move, Pulse, Close}
use Rattle.sat_label.specs.declared.label.Label.{Label}
use Rattle.sat_sink.specs.Sink.{Sink, may_pulse, pulse_of}
use Rattle.sat_act.specs.Settling.{is_done}
use Rattle.sat_epoch.specs.declared.views.AdvanceFault.{AdvanceFault}
use Rattle.sat_epoch.specs.declared.views.AdvanceFault.TheVariants as advance
use Rattle.sat_epoch.specs.Epochs.{Epochs, in_stamp}
use Rattle.sat_proxy.specs.declared.proxy.TurnFault.{TurnFault}
use Rattle.sat_proxy.specs.declared.proxy.TurnFault.TheVariants as turn
use Rattle.sat_proxy.specs.declared.proxy.StampFault.TheVariants as stamp
use Rattle.sat_proxy.specs.Proxy.{ProxySeen}
use Rattle.sat_proxy.specs.Steps.{link_fault, not_yet, stamp_fault, stamp_label, turn_fault}
use Rattle.sat_proxy.specs.Answers.{done_answer, front_answer, next_answer, stamp_answer, turn_answer, view_answer}
use Rattle.sat_epoch.specs.Epochs.{advance_fault}
use Rattle.sat_proxy.specs.Steps.{has_come}
use Rattle.sat_sink.specs.Sink.{ready_of}
use Rattle.sat_site.specs.declared.input.SiteInput as code
use Rattle.sat_site.specs.declared.input.SiteInput.TheVariants as input
use Rattle.sat_label.specs.declared.carried.Carried.{Carried}
use Rattle.sat_label.specs.declared.items.Items.{Items}
use Rattle.sat_label.specs.Grouped.{list_of}
use Rattle.sat_bulk.specs.Payloads.{Payload}
use Rattle.sat_beat.specs.declared.Beat.{Beat}
use Rattle.sat_sites.specs.declared.shape.Shape.{Shape}
use Rattle.sat_model.specs.Fits.{is_time}
use Rattle.sat_site.specs.Inputs.{fits_here, fits_in, is_beat_here, is_bulk_here, is_carried_here, is_front_here, is_gear_here, is_group_here, is_item_here, is_other_here, is_site_here}
use Rattle.sat_site.specs.Seen.{SiteSeen}
use Rattle.sat_site.specs.SiteSteps.{emit_answer, may_turn, next_pulse, pulse_answer, site_answers}

pub emit-done : (o : Option Label) → is_some o ≡ is_done (emit_answer o)
emit-done None = refl
emit-done (Some l) = refl

pub pulse-done : (s : Sink) → may_pulse s ≡ is_done (pulse_answer (next_pulse s))
pulse-done s = go (may_pulse s)
  where
    go : (b : Bool) → b ≡ is_done (pulse_answer (if b then Some (pulse_of s) else None))
    go true = refl
    go false = refl

pub turn-none : (views : Epochs) (p : ProxySeen) → false ≡ is_done (turn_answer views p None)
turn-none views p = go (in_stamp views)
  where
    go : (b : Bool) → false ≡ is_done (front_answer (if b then Some turn.StampOrder else link_fault p.pool None) None)
    go true = refl
    go false = refl

kind-done : (l : Label) (kind : Kind) → true ≡ is_done (done_answer l kind)
kind-done l (Update items) = refl
kind-done l (Move j) = refl
kind-done l Pulse = refl
kind-done l (Close e) = refl

front-done : (f : Option TurnFault) (l : Label) → is_none f ≡ is_done (front_answer f (Some l))
front-done None l = kind-done l l.kind
front-done (Some turn.StampOrder) l = refl
front-done (Some turn.Empty) l = refl
front-done (Some (turn.NoPayload m)) l = refl

pub turn-done : (views : Epochs) (p : ProxySeen) (l : Label) → is_none (turn_fault views p (Some l)) ≡ is_done (turn_answer views p (Some l))
turn-done views p l = front-done (turn_fault views p (Some l)) l

pub stamp-done : (views : Epochs) (p : ProxySeen) → is_none (stamp_fault views p) ≡ is_done (stamp_answer views p)
stamp-done views p = go (in_stamp views) (stamp_label views p)
  where
    go : (b : Bool) (o : Option Label) → is_none (if b then not_yet o else Some stamp.TreeOrder) ≡ is_done (next_answer (if b then not_yet o else Some stamp.TreeOrder) o)
    go true None = refl
    go true (Some l) = refl
    go false None = refl
    go false (Some l) = refl

pub view-done : (f : Option AdvanceFault) (view : ℕ) → is_none f ≡ is_done (view_answer f view)
view-done None view = refl
view-done (Some advance.NotClosed) view = refl
view-done (Some advance.NotYet) view = refl

-- ---- by what it is asked for

abbrev pub would : SiteSeen → code.SiteInput → Bool
would x given = fits_in x given && is_done (site_answers x given)

pub same-would : (w x : SiteSeen) (g h : code.SiteInput) → w ≡ x → g ≡ h → would w h ≡ would x g
same-would w x g h same is = (λ i. would (same i) h) ∙ ap (would x) (sym is)

pub emit-would : (x : SiteSeen) → is_some (ready_of x.sink) ≡ would x input.Emit
unfolding fits_here site_answers
emit-would x = emit-done (ready_of x.sink)

pub pulse-would : (x : SiteSeen) → may_pulse x.sink ≡ would x input.Pulse
unfolding fits_here site_answers
pulse-would x = pulse-done x.sink

both : (a b c : Bool) → b ≡ c → (a && b) ≡ ((a && true) && c)
both true b c e = e
both false b c e = refl

pub turn-would : (x : SiteSeen) (front : Option Label) → may_turn x front ≡ would x (input.Turn front)
unfolding fits_here site_answers
turn-would x None = turn-none x.views x.proxy
turn-would x (Some l) = both (is_front_here x.shape x.views.view l) (is_none (turn_fault x.views x.proxy (Some l))) (is_done (turn_answer x.views x.proxy (Some l))) (turn-done x.views x.proxy l)

pub stamp-would : (x : SiteSeen) → is_none (stamp_fault x.views x.proxy) ≡ would x input.Stamp
unfolding fits_here site_answers
stamp-would x = stamp-done x.views x.proxy

pub advance-would : (x : SiteSeen) → is_none (advance_fault x.views (has_come x.views x.proxy)) ≡ would x input.Advance
unfolding fits_here site_answers
advance-would x = view-done (advance_fault x.views (has_come x.views x.proxy)) x.views.view

-- ---- by what the code asks: s is the shape that it read

pub asks-tick : (s : Shape) (x : SiteSeen) (g t : ℕ) (r : Bool) (given : code.SiteInput) → s ≡ x.shape → given ≡ input.Tick g t → r ≡ (is_gear_here s g && is_time t) → r ≡ fits_here x given
unfolding fits_here
asks-tick s x g t r given same is e = e ∙ (ap (λ (s : Shape). is_gear_here s g && is_time t) same ∙ ap (fits_here x) (sym is))

pub asks-write : (s : Shape) (x : SiteSeen) (seen : Carried) (items : Items) (values : List (List ℕ)) (r : Bool) (given : code.SiteInput) → s ≡ x.shape → given ≡ input.Write seen items values → r ≡ (is_carried_here s seen && (is_group_here s items && (length values == length (list_of items)))) → r ≡ fits_here x given
unfolding fits_here
asks-write s x seen items values r given same is e = e ∙ (ap (λ (s : Shape). is_carried_here s seen && (is_group_here s items && (length values == length (list_of items)))) same ∙ ap (fits_here x) (sym is))

pub asks-read : (s : Shape) (x : SiteSeen) (seen : Carried) (n : ℕ) (r : Bool) (given : code.SiteInput) → s ≡ x.shape → given ≡ input.Read seen n → r ≡ (is_carried_here s seen && is_item_here s n) → r ≡ fits_here x given
unfolding fits_here
asks-read s x seen n r given same is e = e ∙ (ap (λ (s : Shape). is_carried_here s seen && is_item_here s n) same ∙ ap (fits_here x) (sym is))

pub asks-move : (s : Shape) (x : SiteSeen) (seen : Carried) (j : ℕ) (r : Bool) (given : code.SiteInput) → s ≡ x.shape → given ≡ input.Move seen j → r ≡ (is_carried_here s seen && is_site_here s j) → r ≡ fits_here x given
unfolding fits_here
asks-move s x seen j r given same is e = e ∙ (ap (λ (s : Shape). is_carried_here s seen && is_site_here s j) same ∙ ap (fits_here x) (sym is))

pub asks-attach : (s : Shape) (x : SiteSeen) (seen : Carried) (r : Bool) (given : code.SiteInput) → s ≡ x.shape → given ≡ input.Attach seen → r ≡ (is_carried_here s seen) → r ≡ fits_here x given
unfolding fits_here
asks-attach s x seen r given same is e = e ∙ (ap (λ (s : Shape). is_carried_here s seen) same ∙ ap (fits_here x) (sym is))

pub asks-beat : (s : Shape) (x : SiteSeen) (j : ℕ) (r : Bool) (given : code.SiteInput) → s ≡ x.shape → given ≡ input.Beat j → r ≡ (is_other_here s j) → r ≡ fits_here x given
unfolding fits_here
asks-beat s x j r given same is e = e ∙ (ap (λ (s : Shape). is_other_here s j) same ∙ ap (fits_here x) (sym is))

pub asks-turn : (w x : SiteSeen) (l : Label) (r : Bool) (given : code.SiteInput) → w ≡ x → given ≡ input.Turn (Some l) → r ≡ (is_front_here w.shape w.views.view l) → r ≡ fits_here x given
unfolding fits_here
asks-turn w x l r given same is e = e ∙ (ap (λ (x : SiteSeen). is_front_here x.shape x.views.view l) same ∙ ap (fits_here x) (sym is))

pub asks-bulk : (w x : SiteSeen) (from gear number : ℕ) (p : Payload) (r : Bool) (given : code.SiteInput) → w ≡ x → given ≡ input.Bulk from gear number p → r ≡ (is_bulk_here w.shape w.proxy from gear number p) → r ≡ fits_here x given
unfolding fits_here
asks-bulk w x from gear number p r given same is e = e ∙ (ap (λ (x : SiteSeen). is_bulk_here x.shape x.proxy from gear number p) same ∙ ap (fits_here x) (sym is))

pub asks-beat-in : (w x : SiteSeen) (from number : ℕ) (beat : Beat) (r : Bool) (given : code.SiteInput) → w ≡ x → given ≡ input.BeatIn from number beat → r ≡ (is_other_here w.shape from && is_beat_here w.shape (length w.views.stamp) beat) → r ≡ fits_here x given
unfolding fits_here
asks-beat-in w x from number beat r given same is e = e ∙ (ap (λ (x : SiteSeen). is_other_here x.shape from && is_beat_here x.shape (length x.views.stamp) beat) same ∙ ap (fits_here x) (sym is))
