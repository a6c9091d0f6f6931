-- Of each site and each input that fits, what the definitions say of a step is what the machine says.
use Rattle.std.specs.Prelude.{◌≡◌, ◌<◌, ◌+◌, ◌==◌, ◌||◌, ℕ, zero, suc, Bool, true, false, List, [], ◌∷◌, ◌++◌, length, map, set, get_or, slice_get, Option, None, Some, if◌then◌else◌, refl}
use Rattle.std.proofs.Common.{subst, ap, sym, ◌∙◌, inl, inr}
use Rattle.std.proofs.lemmas.Nat.{mod_below}
use Rattle.std.proofs.lemmas.List.{length-map, get_or-set_same, get_or-set_other}
use Rattle.std.proofs.lemmas.Bool.{cases_eq, ne_eqb}
use Rattle.sat_site.proofs.Equals.{eqb-self}
use Rattle.sat_label.specs.declared.carried.Carried.{Carried}
use Rattle.sat_label.specs.declared.label.Label.{Label}
use Rattle.sat_label.specs.declared.items.Items.{Items}
use Rattle.sat_label.specs.Grouped.{least_item, list_of}
use Rattle.sat_label.specs.declared.label.Kind.{Kind}
use Rattle.sat_label.specs.declared.label.Kind.TheVariants.{Update, Move, Pulse, Close}
use Rattle.sat_bulk.specs.Payloads.{Payload}
use Rattle.sat_bulk.specs.Windows.{has_number}
use Rattle.sat_beat.specs.declared.Beat.{Beat}
use Rattle.sat_beat.specs.declared.beats.BeatTake.TheVariants as came
use Rattle.sat_beat.specs.Beats.{taken_of, is_old, has_beat}
use Rattle.sat_sites.specs.Interested.{IsLabelOf}
use Rattle.sat_label.specs.Versions.{Version}
use Rattle.sat_gear.specs.Gear.{GearSeen, EachLane, is_spent, stamped, version_of}
use Rattle.sat_sink.specs.Sink as sink
use Rattle.sat_epoch.specs.declared.views.CloseFault.{CloseFault}
use Rattle.sat_epoch.specs.declared.views.CloseFault.TheVariants as close
use Rattle.sat_epoch.specs.declared.views.FallFault.{FallFault}
use Rattle.sat_epoch.specs.declared.views.FallFault.TheVariants as fall
use Rattle.sat_epoch.specs.declared.views.AdvanceFault.{AdvanceFault}
use Rattle.sat_epoch.specs.declared.views.AdvanceFault.TheVariants as advance
use Rattle.sat_epoch.specs.Epochs.{advance_fault, after_advance, close_fault, fall_fault}
use Rattle.sat_act.specs.declared.answer.Answer.{Answer}
use Rattle.sat_act.specs.declared.answer.Answer.TheVariants as ans
use Rattle.sat_act.specs.declared.answer.Refusal.TheVariants as why
use Rattle.sat_act.specs.Deployed.{Deployed}
use Rattle.sat_act.specs.Settling.{is_done}
use Rattle.sat_act.specs.Parts.{BeatNote}
use Rattle.sat_model.specs.Input.{SiteInput}
use Rattle.sat_model.specs.Input as given
use Rattle.sat_model.specs.State.{SiteState}
use Rattle.sat_model.specs.Next.{note_of as machine_note, proxy_next, site_next}
use Rattle.sat_model.specs.Reply.{site_answer}
use Rattle.sat_proxy.specs.Asks.{may_come_at}
use Rattle.sat_proxy.specs.Answers.{came_answer, view_answer}
use Rattle.sat_proxy.specs.Laws.{EachAnswers, EachFollows}
use Rattle.sat_proxy.specs.Proxy.{ProxySeen, best_of, note_of, outlook_here, window_of}
use Rattle.sat_proxy.specs.Stands.{StandsProxy}
use Rattle.sat_proxy.specs.Steps.{advance_after, beaten as proxy_beaten, brought, has_come}
use Rattle.sat_site.specs.declared.input.SiteInput.TheVariants as input
use Rattle.sat_site.specs.Seen.{SiteSeen, IsSite, hub_of}
use Rattle.sat_site.specs.Changes.{beat_for, beaten, closed, count_to, fell, gear_at, gear_for, made_for, HasGear}
use Rattle.sat_site.specs.Inputs.{fits_in, BulkFits, IsFront}
use Rattle.sat_site.specs.Gives.{label_sent}
use Rattle.sat_site.specs.Laws.{EachClock, EachStep, StepHolds}
use Rattle.sat_site.specs.Stands.{StandsSite}
use Rattle.sat_site.specs.SiteSteps.{close_after, close_answer, close_label, emit_after, emit_answer, fall_after, fall_answer, keeps_each, keeps_item, move_after, move_answer, moved_answer, next_close, next_pulse, passed_after, pulse_after, pulse_answer, read_answer, shown_of, show_some, site_after, site_answers, site_sends, stamp_after_of, stamp_answer_of, tick_after, tick_answer, version_answer, write_after, write_answer}
use Rattle.sat_site.specs.Does.{Writes, write_not_here, spends, writes, Reads, read_not_here, reads_none, reads}
use Rattle.sat_site.proofs.Epochs.{close-is, closed-views, fall-is, fell-views, passed-views, sees}
use Rattle.sat_site.proofs.Fitting.{fits-attach, fits-beat, fits-beat-in, fits-bulk, fits-read, fits-tick, fits-turn, fits-write}
use Rattle.sat_site.proofs.Gathers.{each-gear, emits-answer, emits-stand, gathers-answer, gathers-stand, idles-answer, pulses-answer, pulses-stand}
use Rattle.sat_site.proofs.Moves.{moves-answer, moves-refused, moves-stand}
use Rattle.sat_site.proofs.Parts.{count-is, sites-are}
use Rattle.sat_hub.proofs.Quiet.{quiet, sends}
use Rattle.sat_site.proofs.Rows.{cut-same}
use Rattle.sat_hub.proofs.Sound.{close-here, cut-site, label-here, pulse-here, ready-here}
use Rattle.sat_site.proofs.Hubs.{hub-is}
use Rattle.sat_site.proofs.Still.{attaches, clocks-stand, olds, refuses, repeats, ticks-answer, ticks-stand}
use Rattle.sat_site.proofs.Turns.{stamp-quiet, stamp-refused, stamps-stand, turn-quiet, turn-refused, turns-stand}
use Rattle.sat_site.proofs.Writes.{read-answer, read-stand, write-answer, write-stand}

-- the gear of a number, and that of an item
gear-there : (x : SiteSeen) (g : ℕ) → IsSite x → g < x.shape.gears → (gear : GearSeen) × HasGear x g gear
gear-there x g k lt = each-gear x g (subst (λ (n : ℕ). g < n) (sym k.gears.count) lt)

item-there : (x : SiteSeen) (n : ℕ) → IsSite x → (gear : GearSeen) × HasGear x (gear_at x n) gear
item-there x n k = gear-there x (gear_at x n) k (mod_below n x.shape.gears k.shape.gears)

-- ---- a tick

tick-quiet : (o : Option GearSeen) (t : ℕ) → label_sent (tick_answer o t) ≡ None
tick-quiet None t = refl
tick-quiet (Some gear) t = refl

tick-done : (o : Option GearSeen) (t : ℕ) → is_done (tick_answer o t) ≡ true
tick-done None t = refl
tick-done (Some gear) t = refl

tick-shape : (x : SiteSeen) (g t : ℕ) (o : Option GearSeen) → (tick_after x g t o).shape ≡ x.shape
tick-shape x g t None = refl
tick-shape x g t (Some gear) = refl

tick-holds : (x : SiteSeen) (g t : ℕ) → IsSite x → fits_in x (input.Tick g t) ≡ true → StepHolds x (input.Tick g t)
unfolding site_answers site_after site_sends
tick-holds x g t k f =
    let a = gear-there x g k (fits-tick x g t f).0 in
    record {
      answers = λ d i s v st. ap (λ (o : Option GearSeen). tick_answer o t) a.1 ∙ ticks-answer d i x s g t a.0 a.1 st;
      stands = λ d i s v st. subst (λ (o : Option GearSeen). StandsSite d i (tick_after x g t o) (site_next d i s (given.Tick g t) (tick_answer o t))) (sym a.1) (ticks-stand d i x s g t a.0 a.1 st);
      sent = quiet x.shape x.views (tick_answer (slice_get x.gears g) t) (tick-quiet (slice_get x.gears g) t);
      refused = λ e. absurd (let clash : true ≡ false = sym (tick-done (slice_get x.gears g) t) ∙ e in cc);
      shape = tick-shape x g t (slice_get x.gears g);
    }

-- ---- a write and a read

pub write-here : (x : SiteSeen) (seen : Carried) (items : Items) (values : List (List ℕ)) → IsSite x →
    Writes x seen items values (write_answer (keeps_each x (list_of items)) (slice_get x.gears (gear_for x items)) seen.point items) (write_after x (keeps_each x (list_of items)) (slice_get x.gears (gear_for x items)) seen.point items values)
write-here x seen items values k = go (keeps_each x (list_of items)) refl
  where
    a : (gear : GearSeen) × HasGear x (gear_for x items) gear
    a = item-there x (least_item (list_of items)) k

    by : (b : Bool) → is_spent a.0 seen.point ≡ b → keeps_each x (list_of items) ≡ true → Writes x seen items values (stamp_answer_of b (stamped a.0 seen.point (Update items))) (stamp_after_of x b a.0 seen.point items values)
    by true f e = spends a.0 e a.1 f
    by false f e = writes a.0 e a.1 (k.gears.are (gear_for x items) a.0 a.1) f

    go : (b : Bool) → keeps_each x (list_of items) ≡ b → Writes x seen items values (write_answer b (slice_get x.gears (gear_for x items)) seen.point items) (write_after x b (slice_get x.gears (gear_for x items)) seen.point items values)
    go false e = write_not_here e
    go true e = subst (λ (o : Option GearSeen). Writes x seen items values (write_answer true o seen.point items) (write_after x true o seen.point items values)) (sym a.1) (by (is_spent a.0 seen.point) refl e)

pub read-here : (x : SiteSeen) (n : ℕ) → IsSite x → Reads x n (read_answer (keeps_item x n) (slice_get x.gears (gear_at x n)) n)
read-here x n k = go (keeps_item x n) refl
  where
    a : (gear : GearSeen) × HasGear x (gear_at x n) gear
    a = item-there x n k

    by : (o : Option Version) → version_of a.0 n ≡ o → keeps_item x n ≡ true → Reads x n (version_answer o)
    by None f e = reads_none a.0 e a.1 f
    by (Some v) f e = reads a.0 v e a.1 f

    go : (b : Bool) → keeps_item x n ≡ b → Reads x n (read_answer b (slice_get x.gears (gear_at x n)) n)
    go false e = read_not_here e
    go true e = subst (λ (o : Option GearSeen). Reads x n (read_answer true o n)) (sym a.1) (by (version_of a.0 n) refl e)

-- what is not done changes nothing, and nothing is sent
record Rests (x : SiteSeen) (r : Answer) (y : SiteSeen) : Type 0 where
  quiet : label_sent r ≡ None
  refused : is_done r ≡ false → y ≡ x
  shape : y.shape ≡ x.shape

write-rests : (x : SiteSeen) (seen : Carried) (items : Items) (values : List (List ℕ)) (r : Answer) (y : SiteSeen) → Writes x seen items values r y → Rests x r y
write-rests x seen items values r y (write_not_here e) = record { quiet = refl; refused = λ f. refl; shape = refl }
write-rests x seen items values r y (spends gear e at f) = record { quiet = refl; refused = λ f. refl; shape = refl }
write-rests x seen items values r y (writes gear e at good f) = record { quiet = refl; refused = λ f. absurd (cc); shape = refl }

read-rests : (x : SiteSeen) (n : ℕ) (r : Answer) → Reads x n r → label_sent r ≡ None
read-rests x n r (read_not_here e) = refl
read-rests x n r (reads_none gear e at f) = refl
read-rests x n r (reads gear v e at f) = refl

write-holds : (x : SiteSeen) (seen : Carried) (items : Items) (values : List (List ℕ)) → EachLane → IsSite x → fits_in x (input.Write seen items values) ≡ true → StepHolds x (input.Write seen items values)
unfolding site_answers site_after site_sends
write-holds x seen items values laws k f =
    let w = write-here x seen items values k in
    let r = write-rests x seen items values _ _ w in
    let g = fits-write x seen items values f in
    record {
      answers = λ d i s v st. write-answer d i x s seen items values _ _ k st w;
      stands = λ d i s v st. write-stand d i x s seen items values _ _ laws k g.0 g.1 st w;
      sent = quiet x.shape x.views _ r.quiet;
      refused = r.refused;
      shape = r.shape;
    }

read-holds : (x : SiteSeen) (seen : Carried) (n : ℕ) → IsSite x → fits_in x (input.Read seen n) ≡ true → StepHolds x (input.Read seen n)
unfolding site_answers site_after site_sends
read-holds x seen n k f =
    let w = read-here x n k in
    record {
      answers = λ d i s v st. read-answer d i x s seen n _ (fits-read x seen n f) st w;
      stands = λ d i s v st. read-stand d i x s seen n _ st w;
      sent = quiet x.shape x.views _ (read-rests x n _ w);
      refused = λ e. refl;
      shape = refl;
    }

-- ---- a move and an attach

move-quiet : (b : Bool) (o : Option GearSeen) (seen : Carried) (j : ℕ) → label_sent (move_answer b o seen j) ≡ None
move-quiet true o seen j = refl
move-quiet false None seen j = refl
move-quiet false (Some gear) seen j = go (is_spent gear seen.point) (stamped gear seen.point (Move j))
  where
    go : (b : Bool) (l : Label) → label_sent (moved_answer b l) ≡ None
    go true l = refl
    go false l = refl

move-shape : (x : SiteSeen) (b : Bool) (o : Option GearSeen) (seen : Carried) (j : ℕ) → (move_after x b o seen j).shape ≡ x.shape
move-shape x true o seen j = refl
move-shape x false None seen j = refl
move-shape x false (Some gear) seen j = refl

move-holds : (x : SiteSeen) (seen : Carried) (j : ℕ) → IsSite x → StepHolds x (input.Move seen j)
unfolding site_answers site_after site_sends
move-holds x seen j k = record {
  answers = λ d i s v st. moves-answer d i x s seen j k st;
  stands = λ d i s v st. moves-stand d i x s seen j k st;
  sent = quiet x.shape x.views _ (move-quiet (j == x.shape.site) (slice_get x.gears 0) seen j);
  refused = moves-refused x seen j k;
  shape = move-shape x (j == x.shape.site) (slice_get x.gears 0) seen j;
}

attach-by : (b : Bool) → label_sent (if b then ans.Attached else ans.Refused why.NotYet) ≡ None
attach-by true = refl
attach-by false = refl

attach-stands : (d : Deployed) (i : ℕ) (x : SiteSeen) (s : SiteState) (seen : Carried) (b : Bool) → StandsSite d i x s → StandsSite d i x (site_next d i s (given.Attach seen) (if b then ans.Attached else ans.Refused why.NotYet))
attach-stands d i x s seen true st = attaches d i x s (given.Attach seen) st
attach-stands d i x s seen false st = refuses d i x s (given.Attach seen) why.NotYet st

attach-holds : (x : SiteSeen) (seen : Carried) → EachAnswers → IsSite x → fits_in x (input.Attach seen) ≡ true → StepHolds x (input.Attach seen)
unfolding site_answers site_after site_sends
attach-holds x seen laws k f = record {
  answers = λ d i s v st. (laws d i x.views x.proxy s (sees d i x s k st)).attach seen (subst (λ (n : ℕ). seen.point.site < n) (sites-are d i x s st) (fits-attach x seen f));
  stands = λ d i s v st. attach-stands d i x s seen (may_come_at x.proxy.sites (outlook_here x.views x.proxy) seen x.proxy.site) st;
  sent = quiet x.shape x.views _ (attach-by (may_come_at x.proxy.sites (outlook_here x.views x.proxy) seen x.proxy.site));
  refused = λ e. refl;
  shape = refl;
}

-- ---- a gather, an emission and a pulse

gather-holds : (x : SiteSeen) → IsSite x → StepHolds x input.Gather
unfolding site_answers site_after site_sends
gather-holds x k = record {
  answers = λ d i s v st. gathers-answer d i x s k st;
  stands = λ d i s v st. gathers-stand d i x s _ _ k st;
  sent = refl;
  refused = λ e. absurd (cc);
  shape = refl;
}

emit-holds : (x : SiteSeen) → IsSite x → StepHolds x input.Emit
unfolding site_answers site_after site_sends
emit-holds x k = record {
  answers = λ d i s v st. answers d i s st (sink.ready_of x.sink) refl;
  stands = λ d i s v st. stands d i s st (sink.ready_of x.sink);
  sent = sends x.shape x.views _ (sink.ready_of x.sink) (label (sink.ready_of x.sink)) (λ l e. let h = hub-is x k in let w = ready-here (hub_of x) l h e in (label-here (hub_of x) l h w, w.site));
  refused = refused (sink.ready_of x.sink);
  shape = shape (sink.ready_of x.sink);
}
  where
    answers : (d : Deployed) (i : ℕ) (s : SiteState) → StandsSite d i x s → (o : Option Label) → sink.ready_of x.sink ≡ o → emit_answer o ≡ site_answer d i s given.Emit
    answers d i s st None e = idles-answer d i x s e k st
    answers d i s st (Some l) e = emits-answer d i x s l e k st

    stands : (d : Deployed) (i : ℕ) (s : SiteState) → StandsSite d i x s → (o : Option Label) → StandsSite d i (emit_after x o) (site_next d i s given.Emit (emit_answer o))
    stands d i s st None = refuses d i x s given.Emit why.Idle st
    stands d i s st (Some l) = emits-stand d i x s l st

    label : (o : Option Label) → label_sent (emit_answer o) ≡ o
    label None = refl
    label (Some l) = refl

    refused : (o : Option Label) → is_done (emit_answer o) ≡ false → emit_after x o ≡ x
    refused None e = refl
    refused (Some l) e = absurd (cc)

    shape : (o : Option Label) → (emit_after x o).shape ≡ x.shape
    shape None = refl
    shape (Some l) = refl

pulse-holds : (x : SiteSeen) → IsSite x → StepHolds x input.Pulse
unfolding site_answers site_after site_sends
pulse-holds x k = record {
  answers = λ d i s v st. pulses-answer d i x s k st;
  stands = λ d i s v st. stands d i s st (sink.may_pulse x.sink);
  sent = sends x.shape x.views _ (next_pulse x.sink) (label (next_pulse x.sink)) (λ l e. here l (sink.may_pulse x.sink) e);
  refused = refused (next_pulse x.sink);
  shape = shape (next_pulse x.sink);
}
  where
    stands : (d : Deployed) (i : ℕ) (s : SiteState) → StandsSite d i x s → (b : Bool) → StandsSite d i (pulse_after x (if b then Some (sink.pulse_of x.sink) else None)) (site_next d i s given.Pulse (pulse_answer (if b then Some (sink.pulse_of x.sink) else None)))
    stands d i s st true = pulses-stand d i x s st
    stands d i s st false = refuses d i x s given.Pulse why.Idle st

    label : (o : Option Label) → label_sent (pulse_answer o) ≡ o
    label None = refl
    label (Some l) = refl

    here : (l : Label) (b : Bool) → (if b then Some (sink.pulse_of x.sink) else None) ≡ Some l → IsLabelOf x.shape.interest l × (l.point.site ≡ x.shape.site)
    here l true e = let same : sink.pulse_of x.sink ≡ l = cc in subst (λ (m : Label). IsLabelOf x.shape.interest m × (m.point.site ≡ x.shape.site)) same (pulse-here (hub_of x) (hub-is x k), k.sink.own)
    here l false e = absurd (cc)

    refused : (o : Option Label) → is_done (pulse_answer o) ≡ false → pulse_after x o ≡ x
    refused None e = refl
    refused (Some l) e = absurd (cc)

    shape : (o : Option Label) → (pulse_after x o).shape ≡ x.shape
    shape None = refl
    shape (Some l) = refl

-- ---- a turn, and the next update in timestamp order

shown-shape : (x : SiteSeen) (o : Option Payload) → (show_some x o).shape ≡ x.shape
shown-shape x None = refl
shown-shape x (Some p) = go p.label.kind
  where
    go : (kind : Kind) → (shown_of x p kind).shape ≡ x.shape
    go (Update items) = refl
    go (Move j) = refl
    go Pulse = refl
    go (Close e) = refl

turn-holds : (x : SiteSeen) (front : Option Label) → EachAnswers → EachFollows → IsSite x → fits_in x (input.Turn front) ≡ true → StepHolds x (input.Turn front)
unfolding site_answers site_after site_sends
turn-holds x front laws steps k f =
    let fronts : (l : Label) → front ≡ Some l → IsFront x l = fits-turn x front f in
    record {
      answers = λ d i s v st. (laws d i x.views x.proxy s (sees d i x s k st)).turn front;
      stands = λ d i s v st. turns-stand d i x s front k fronts st ((steps d i x.views x.proxy s (sees d i x s k st)).turn front (λ l e. subst (λ (n : ℕ). l.point.site < n) (sites-are d i x s st) (fronts l e).from));
      sent = quiet x.shape x.views _ (turn-quiet x front);
      refused = turn-refused x front;
      shape = shown-shape _ _;
    }

stamp-holds : (x : SiteSeen) → EachAnswers → EachFollows → IsSite x → StepHolds x input.Stamp
unfolding site_answers site_after site_sends
stamp-holds x laws steps k = record {
  answers = λ d i s v st. (laws d i x.views x.proxy s (sees d i x s k st)).stamp;
  stands = λ d i s v st. stamps-stand d i x s k st (steps d i x.views x.proxy s (sees d i x s k st)).stamp;
  sent = quiet x.shape x.views _ (stamp-quiet x);
  refused = stamp-refused x;
  shape = shown-shape _ _;
}

-- ---- a payload and a beat that come

brought-only : (d : Deployed) (i : ℕ) (x : SiteSeen) (s : SiteState) (input : SiteInput) (l : Label) (q : ProxySeen) → StandsSite d i x s → StandsProxy q (proxy_next d i s input (ans.Brought l)) → StandsSite d i (record x { proxy = q }) (site_next d i s input (ans.Brought l))
unfolding site_next
brought-only d i x s input l q st proxy = record { shape = st.shape; gears = st.gears; sink = st.sink; views = st.views; proxy = proxy; store = st.store; made = st.made }

taken-only : (d : Deployed) (i : ℕ) (x : SiteSeen) (s : SiteState) (input : SiteInput) (q : ProxySeen) → StandsSite d i x s → StandsProxy q (proxy_next d i s input ans.Taken) → StandsSite d i (record x { proxy = q }) (site_next d i s input ans.Taken)
unfolding site_next
taken-only d i x s input q st proxy = record { shape = st.shape; gears = st.gears; sink = st.sink; views = st.views; proxy = proxy; store = st.store; made = st.made }

bulk-holds : (x : SiteSeen) (from gear n : ℕ) (p : Payload) → EachAnswers → EachFollows → IsSite x → fits_in x (input.Bulk from gear n p) ≡ true → StepHolds x (input.Bulk from gear n p)
unfolding site_answers site_after site_sends
bulk-holds x from gear n p laws steps k f =
    let b : BulkFits x from gear n p = fits-bulk x from gear n p f in
    record {
      answers = λ d i s v st. (laws d i x.views x.proxy s (sees d i x s k st)).bulk from gear n p (subst (λ (m : ℕ). from < m) (sites-are d i x s st) b.sender) (subst (λ (m : ℕ). gear < m) (count-is d i x s st) b.number);
      stands = λ d i s v st. stands d i s st (has_number (window_of x.proxy from gear) n)
          ((steps d i x.views x.proxy s (sees d i x s k st)).bulk from gear n p (subst (λ (m : ℕ). from < m) (sites-are d i x s st) b.sender) (subst (λ (m : ℕ). gear < m) (count-is d i x s st) b.number) b.made b.alone);
      sent = quiet x.shape x.views _ (silent (has_number (window_of x.proxy from gear) n));
      refused = refused (has_number (window_of x.proxy from gear) n);
      shape = refl;
    }
  where
    stands : (d : Deployed) (i : ℕ) (s : SiteState) → StandsSite d i x s → (b : Bool) →
        StandsProxy (if b then x.proxy else brought x.proxy from gear n p) (proxy_next d i s (given.Bulk from gear n p) (if b then ans.Again else ans.Brought p.label)) →
        StandsSite d i (record x { proxy = if b then x.proxy else brought x.proxy from gear n p }) (site_next d i s (given.Bulk from gear n p) (if b then ans.Again else ans.Brought p.label))
    stands d i s st true proxy = repeats d i x s (given.Bulk from gear n p) st
    stands d i s st false proxy = brought-only d i x s (given.Bulk from gear n p) p.label (brought x.proxy from gear n p) st proxy

    silent : (b : Bool) → label_sent (if b then ans.Again else ans.Brought p.label) ≡ None
    silent true = refl
    silent false = refl

    refused : (b : Bool) → is_done (if b then ans.Again else ans.Brought p.label) ≡ false → record x { proxy = if b then x.proxy else brought x.proxy from gear n p } ≡ x
    refused true e = refl
    refused false e = absurd (cc)

beat-in-holds : (x : SiteSeen) (from n : ℕ) (beat : Beat) → EachAnswers → EachFollows → IsSite x → fits_in x (input.BeatIn from n beat) ≡ true → StepHolds x (input.BeatIn from n beat)
unfolding site_answers site_after site_sends
beat-in-holds x from n beat laws steps k f =
    let b = fits-beat-in x from n beat f in
    let old : Bool = is_old (best_of x.proxy from) n in
    let has : Bool = has_beat (taken_of x.proxy.beats from).later n in
    record {
      answers = λ d i s v st. (laws d i x.views x.proxy s (sees d i x s k st)).beat from n beat (subst (λ (m : ℕ). from < m) (sites-are d i x s st) b.0);
      stands = λ d i s v st. stands d i s st old has ((steps d i x.views x.proxy s (sees d i x s k st)).beat from n beat (subst (λ (m : ℕ). from < m) (sites-are d i x s st) b.0) (b.1 ∙ count-is d i x s st));
      sent = quiet x.shape x.views _ (silent old has);
      refused = refused old has;
      shape = refl;
    }
  where
    stands : (d : Deployed) (i : ℕ) (s : SiteState) → StandsSite d i x s → (old has : Bool) →
        StandsProxy (if old || has then x.proxy else proxy_beaten x.proxy from n beat) (proxy_next d i s (given.BeatIn from n (note_of beat)) (came_answer (if old then came.Old else (if has then came.Again else came.New)))) →
        StandsSite d i (record x { proxy = if old || has then x.proxy else proxy_beaten x.proxy from n beat }) (site_next d i s (given.BeatIn from n (note_of beat)) (came_answer (if old then came.Old else (if has then came.Again else came.New))))
    stands d i s st true has proxy = olds d i x s (given.BeatIn from n (note_of beat)) st
    stands d i s st false true proxy = repeats d i x s (given.BeatIn from n (note_of beat)) st
    stands d i s st false false proxy = taken-only d i x s (given.BeatIn from n (note_of beat)) (proxy_beaten x.proxy from n beat) st proxy

    silent : (old has : Bool) → label_sent (came_answer (if old then came.Old else (if has then came.Again else came.New))) ≡ None
    silent true has = refl
    silent false true = refl
    silent false false = refl

    refused : (old has : Bool) → is_done (came_answer (if old then came.Old else (if has then came.Again else came.New))) ≡ false → record x { proxy = if old || has then x.proxy else proxy_beaten x.proxy from n beat } ≡ x
    refused true has e = refl
    refused false true e = refl
    refused false false e = absurd (cc)

-- ---- a beat that is made

count-at : (rows : List (List ℕ)) (j g : ℕ) → get_or (map (count_to j) rows) g 0 ≡ get_or (get_or rows g []) j 0
count-at [] j g = refl
count-at (row ∷ rows) j zero = refl
count-at (row ∷ rows) j (suc g) = count-at rows j g

-- what it says is what the machine's says
note-is : (d : Deployed) (i : ℕ) (x : SiteSeen) (s : SiteState) (j : ℕ) → j < d.sites → IsSite x → StandsSite d i x s → note_of (beat_for x j) ≡ machine_note d i s j
note-is d i x s j lt k st = λ n. record {
  cut = cut-same d i x s k st n;
  closes = λ e. sym (st.views.closes e) n;
  counts = λ g. (count-at x.counts j g ∙ st.sink.counted g j lt) n;
}

map-more : {X Y : Type 0} (f : X → Y) (xs : List X) (x : X) → map f (xs ++ x ∷ []) ≡ map f xs ++ f x ∷ []
map-more f [] x = refl
map-more f (y ∷ xs) x = ap (λ (ys : List _). f y ∷ ys) (map-more f xs x)

made-more : (d : Deployed) (i : ℕ) (x : SiteSeen) (s : SiteState) (j k : ℕ) → j < d.sites → IsSite x → StandsSite d i x s → k < d.sites →
    map note_of (get_or (set x.made j (made_for x j ++ beat_for x j ∷ [])) k []) ≡ (if j == k then s.made_beats k ++ machine_note d i s k ∷ [] else s.made_beats k)
made-more d i x s j k low site st lt = elim (cases_eq j k) [
  | inl same ↦ subst (λ (k : ℕ). map note_of (get_or (set x.made j (made_for x j ++ beat_for x j ∷ [])) k []) ≡ (if j == k then s.made_beats k ++ machine_note d i s k ∷ [] else s.made_beats k)) same
      (ap (map note_of) (get_or-set_same x.made j (made_for x j ++ beat_for x j ∷ []) [] within) ∙ (map-more note_of (made_for x j) (beat_for x j) ∙
      ((λ n. st.made j low n ++ note-is d i x s j low site st n ∷ []) ∙ sym (ap (λ (b : Bool). if b then s.made_beats j ++ machine_note d i s j ∷ [] else s.made_beats j) (eqb-self j)))))
  | inr other ↦ ap (map note_of) (get_or-set_other x.made j k (made_for x j ++ beat_for x j ∷ []) [] (λ w. other (sym w))) ∙ (st.made k lt ∙ sym (ap (λ (b : Bool). if b then s.made_beats k ++ machine_note d i s k ∷ [] else s.made_beats k) (ne_eqb j k other)))
]
  where
    within : j < length x.made
    within = subst (λ (n : ℕ). j < n) (sym (site.made.count ∙ sites-are d i x s st)) low

beat-stands : (d : Deployed) (i : ℕ) (x : SiteSeen) (s : SiteState) (j n : ℕ) → j < d.sites → IsSite x → StandsSite d i x s → StandsSite d i (beaten x j) (site_next d i s (given.Beat j) (ans.Beat n))
unfolding site_next
beat-stands d i x s j n low k st = record {
  shape = st.shape;
  gears = st.gears;
  sink = st.sink;
  views = st.views;
  proxy = st.proxy;
  store = st.store;
  made = λ m lt. made-more d i x s j m low k st lt;
}

beat-holds : (x : SiteSeen) (j : ℕ) → IsSite x → fits_in x (input.Beat j) ≡ true → StepHolds x (input.Beat j)
unfolding site_answers site_after site_sends site_answer
beat-holds x j k f = record {
  answers = λ d i s v st. ap ans.Beat (sym (length-map (made_for x j) note_of) ∙ ap (λ (ns : List BeatNote). length ns) (st.made j (low d i s st)));
  stands = λ d i s v st. beat-stands d i x s j (length (made_for x j)) (low d i s st) k st;
  sent = refl;
  refused = λ e. absurd (cc);
  shape = refl;
}
  where
    low : (d : Deployed) (i : ℕ) (s : SiteState) → StandsSite d i x s → j < d.sites
    low d i s st = subst (λ (n : ℕ). j < n) (sites-are d i x s st) (fits-beat x j f)

-- ---- a close, a fall and an advance

close-stands : (d : Deployed) (i : ℕ) (x : SiteSeen) (s : SiteState) → IsSite x → StandsSite d i x s → StandsSite d i (closed x) (site_next d i s given.Close (ans.Closed x.views.emission (sink.cut_of x.sink)))
unfolding site_next
close-stands d i x s k st = record {
  shape = st.shape;
  gears = st.gears;
  sink = record { promises = st.sink.promises; pending = st.sink.pending; counted = st.sink.counted; last = refl; pulse = st.sink.pulse };
  views = closed-views d i x.views s.views (sink.cut_of x.sink) k.views.sound st.views;
  proxy = st.proxy;
  store = st.store;
  made = st.made;
}

close-holds : (x : SiteSeen) → IsSite x → StepHolds x input.Close
unfolding site_answers site_after site_sends
close-holds x k = record {
  answers = λ d i s v st. close-is d i x s k st;
  stands = λ d i s v st. stands d i s st (close_fault x.views);
  sent = sends x.shape x.views _ (next_close (close_fault x.views) x) (label (close_fault x.views)) (λ l e. here l (close_fault x.views) e);
  refused = refused (close_fault x.views);
  shape = shape (close_fault x.views);
}
  where
    stands : (d : Deployed) (i : ℕ) (s : SiteState) → StandsSite d i x s → (o : Option CloseFault) → StandsSite d i (close_after o x) (site_next d i s given.Close (close_answer o x))
    stands d i s st (Some close.NoNextEpoch) = refuses d i x s given.Close why.NoNextEpoch st
    stands d i s st (Some close.Behind) = refuses d i x s given.Close why.Behind st
    stands d i s st None = close-stands d i x s k st

    label : (o : Option CloseFault) → label_sent (close_answer o x) ≡ next_close o x
    label (Some close.NoNextEpoch) = refl
    label (Some close.Behind) = refl
    label None = refl

    here : (l : Label) (o : Option CloseFault) → next_close o x ≡ Some l → IsLabelOf x.shape.interest l × (l.point.site ≡ x.shape.site)
    here l (Some fault) e = absurd (cc)
    here l None e = let same : close_label x ≡ l = cc in subst (λ (m : Label). IsLabelOf x.shape.interest m × (m.point.site ≡ x.shape.site)) same (let h = hub-is x k in let own = cut-site (hub_of x) h in (close-here (hub_of x) h own, own))

    refused : (o : Option CloseFault) → is_done (close_answer o x) ≡ false → close_after o x ≡ x
    refused (Some close.NoNextEpoch) e = refl
    refused (Some close.Behind) e = refl
    refused None e = absurd (cc)

    shape : (o : Option CloseFault) → (close_after o x).shape ≡ x.shape
    shape (Some fault) = refl
    shape None = refl

fell-stands : (d : Deployed) (i : ℕ) (x : SiteSeen) (s : SiteState) → StandsSite d i x s → StandsSite d i (fell x) (site_next d i s given.Fall ans.Fallen)
unfolding site_next
fell-stands d i x s st = record { shape = st.shape; gears = st.gears; sink = st.sink; views = fell-views d i x.views s.views st.views; proxy = st.proxy; store = st.store; made = st.made }

fall-holds : (x : SiteSeen) → IsSite x → StepHolds x input.Fall
unfolding site_answers site_after site_sends
fall-holds x k = record {
  answers = λ d i s v st. fall-is d i x s k st;
  stands = λ d i s v st. stands d i s st (fall_fault x.views);
  sent = quiet x.shape x.views _ (silent (fall_fault x.views));
  refused = refused (fall_fault x.views);
  shape = shape (fall_fault x.views);
}
  where
    stands : (d : Deployed) (i : ℕ) (s : SiteState) → StandsSite d i x s → (o : Option FallFault) → StandsSite d i (fall_after o x) (site_next d i s given.Fall (fall_answer o))
    stands d i s st (Some fall.StampOrder) = refuses d i x s given.Fall why.StampOrder st
    stands d i s st (Some fall.NotClosed) = refuses d i x s given.Fall why.NotClosed st
    stands d i s st None = fell-stands d i x s st

    silent : (o : Option FallFault) → label_sent (fall_answer o) ≡ None
    silent (Some fall.StampOrder) = refl
    silent (Some fall.NotClosed) = refl
    silent None = refl

    refused : (o : Option FallFault) → is_done (fall_answer o) ≡ false → fall_after o x ≡ x
    refused (Some fall.StampOrder) e = refl
    refused (Some fall.NotClosed) e = refl
    refused None e = absurd (cc)

    shape : (o : Option FallFault) → (fall_after o x).shape ≡ x.shape
    shape (Some fault) = refl
    shape None = refl

passed-stands : (d : Deployed) (i : ℕ) (x : SiteSeen) (s : SiteState) → StandsSite d i x s → StandsProxy (advance_after x.views x.proxy) (proxy_next d i s given.Advance (ans.View (x.views.view + 1))) →
    StandsSite d i (record x { views = after_advance x.views; proxy = advance_after x.views x.proxy }) (site_next d i s given.Advance (ans.View (x.views.view + 1)))
unfolding site_next
passed-stands d i x s st proxy = record { shape = st.shape; gears = st.gears; sink = st.sink; views = passed-views d i x.views s.views st.views; proxy = proxy; store = st.store; made = st.made }

advance-holds : (x : SiteSeen) → EachAnswers → EachFollows → IsSite x → StepHolds x input.Advance
unfolding site_answers site_after site_sends
advance-holds x laws steps k = record {
  answers = λ d i s v st. (laws d i x.views x.proxy s (sees d i x s k st)).advance;
  stands = λ d i s v st. stands d i s st (advance_fault x.views (has_come x.views x.proxy)) (steps d i x.views x.proxy s (sees d i x s k st)).advanced;
  sent = quiet x.shape x.views _ (silent (advance_fault x.views (has_come x.views x.proxy)));
  refused = refused (advance_fault x.views (has_come x.views x.proxy));
  shape = shape (advance_fault x.views (has_come x.views x.proxy));
}
  where
    stands : (d : Deployed) (i : ℕ) (s : SiteState) → StandsSite d i x s → (o : Option AdvanceFault) →
        (is_done (view_answer o x.views.view) ≡ true → StandsProxy (advance_after x.views x.proxy) (proxy_next d i s given.Advance (view_answer o x.views.view))) →
        StandsSite d i (passed_after o x) (site_next d i s given.Advance (view_answer o x.views.view))
    stands d i s st (Some advance.NotClosed) proxy = refuses d i x s given.Advance why.NotClosed st
    stands d i s st (Some advance.NotYet) proxy = refuses d i x s given.Advance why.NotYet st
    stands d i s st None proxy = passed-stands d i x s st (proxy refl)

    silent : (o : Option AdvanceFault) → label_sent (view_answer o x.views.view) ≡ None
    silent (Some advance.NotClosed) = refl
    silent (Some advance.NotYet) = refl
    silent None = refl

    refused : (o : Option AdvanceFault) → is_done (view_answer o x.views.view) ≡ false → passed_after o x ≡ x
    refused (Some advance.NotClosed) e = refl
    refused (Some advance.NotYet) e = refl
    refused None e = absurd (cc)

    shape : (o : Option AdvanceFault) → (passed_after o x).shape ≡ x.shape
    shape (Some fault) = refl
    shape None = refl

-- ---- the laws

pub each-step : EachLane → EachAnswers → EachFollows → EachStep
each-step lanes laws steps x (input.Tick g t) k f = tick-holds x g t k f
each-step lanes laws steps x (input.Write seen items values) k f = write-holds x seen items values lanes k f
each-step lanes laws steps x (input.Read seen n) k f = read-holds x seen n k f
each-step lanes laws steps x (input.Move seen j) k f = move-holds x seen j k
each-step lanes laws steps x (input.Attach seen) k f = attach-holds x seen laws k f
each-step lanes laws steps x input.Gather k f = gather-holds x k
each-step lanes laws steps x input.Emit k f = emit-holds x k
each-step lanes laws steps x input.Pulse k f = pulse-holds x k
each-step lanes laws steps x (input.Turn front) k f = turn-holds x front laws steps k f
each-step lanes laws steps x (input.Bulk from gear n p) k f = bulk-holds x from gear n p laws steps k f
each-step lanes laws steps x (input.Beat j) k f = beat-holds x j k f
each-step lanes laws steps x (input.BeatIn from n beat) k f = beat-in-holds x from n beat laws steps k f
each-step lanes laws steps x input.Stamp k f = stamp-holds x laws steps k
each-step lanes laws steps x input.Close k f = close-holds x k
each-step lanes laws steps x input.Fall k f = fall-holds x k
each-step lanes laws steps x input.Advance k f = advance-holds x laws steps k

pub each-clock : EachClock
each-clock x ts k up = λ d i s limits st. clocks-stand d i x s ts up st
