-- What each call makes of what a site has of the others stands for what the machine makes of its state.
use Rattle.std.specs.Prelude.{◌≡◌, ◌≢◌, ◌≤◌, ◌<◌, ℕ, Bool, true, false, ◌||◌, ◌&&◌, not, ◌==◌, nat_le, List, [], ◌∷◌, ◌++◌, length, map, filter, set, get_or, Option, Some, None, option_map, if◌then◌else◌, refl}
use Rattle.std.specs.List.{list_all}
use Rattle.std.proofs.Common.{ap, sym, subst, ◌∙◌, arith}
use Rattle.std.proofs.lemmas.Bool.{eqb-true, eqb-false}
use Rattle.std.proofs.lemmas.List.{get_or-set_same, get_or-set_other}
use Rattle.sat_label.specs.declared.point.Point.{Point}
use Rattle.sat_label.specs.declared.label.Label.{Label}
use Rattle.sat_label.specs.declared.label.Kind.{Kind}
use Rattle.sat_label.specs.declared.items.Items.{Items}
use Rattle.sat_label.specs.declared.label.Kind.TheVariants.{Update, Move, Pulse, Close}
use Rattle.sat_label.specs.Order.{greater_point, label_eq}
use Rattle.sat_label.specs.Members.{In}
use Rattle.sat_label.specs.Words.{below, has}
use Rattle.sat_label.proofs.Least.{least-is}
use Rattle.sat_bulk.specs.Payloads.{Payload}
use Rattle.sat_bulk.specs.Windows.{has_number}
use Rattle.sat_pool.specs.Pool.{all_waiting, labelled, labels_waiting, waiting_at}
use Rattle.sat_pool.specs.Pool as pool
use Rattle.sat_beat.specs.declared.Beat.{Beat}
use Rattle.sat_beat.specs.declared.beats.BeatTake.TheVariants as came
use Rattle.sat_beat.specs.Beats.{TakenBeats, taken_of, with_taken, refreshed, is_old, has_beat, none_taken}
use Rattle.sat_epoch.specs.Epochs.{Epochs, in_stamp, close_cut, advance_fault}
use Rattle.sat_epoch.specs.declared.views.AdvanceFault.{AdvanceFault}
use Rattle.sat_epoch.specs.declared.views.AdvanceFault.TheVariants as advance
use Rattle.sat_act.specs.declared.answer.Answer.TheVariants as ans
use Rattle.sat_act.specs.Deployed.{Deployed}
use Rattle.sat_act.specs.Parts.{BeatNote, known_by}
use Rattle.sat_act.specs.Settling.{is_done}
use Rattle.sat_model.specs.Input as given
use Rattle.sat_model.specs.State.{SiteState, ProxyState}
use Rattle.sat_model.specs.Look.{best_in, front_in, mode_of}
use Rattle.sat_model.specs.Look as look
use Rattle.sat_model.specs.Next.{raised, proxy_next}
use Rattle.sat_model.specs.Reply.{past_by, candidate_by, own_passed}
use Rattle.sat_proxy.specs.declared.proxy.TurnFault.TheVariants as turn
use Rattle.sat_proxy.specs.declared.proxy.StampFault.TheVariants as stamp
use Rattle.sat_proxy.specs.Proxy.{ProxySeen, lane_place, window_of, front_at, fronts_of, best_of, last_of, first_point, close_in, note_of, noted, outlook_here}
use Rattle.sat_proxy.specs.Asks.{all_passed}
use Rattle.sat_proxy.specs.Steps.{with_payload, brought, after_bulk, with_beat, beaten, after_beat, waiting_of, missing, front_fault, link_fault, knowing, showing, shown_after, front_after, link_after, turn_after, stamp_label, not_yet, payload_at, left_after, stamp_after, cut_passed, known_after, advance_after, has_come}
use Rattle.sat_proxy.specs.Answers.{came_answer, beat_answer, done_answer, front_answer, turn_answer, next_answer, stamp_answer, view_answer, advance_answer, bulk_answer}
use Rattle.sat_proxy.specs.Stands.{SamePayloads, StandsBeats, StandsProxy, is_reached_by}
use Rattle.sat_proxy.specs.Laws.{Sees, EachFollows}
use Rattle.sat_proxy.proofs.SameBeats.{stands-refreshed, stands-beaten}
use Rattle.sat_proxy.proofs.SameLists.{map-below, in-map}
use Rattle.sat_proxy.proofs.SameLanes.{lane-within, taken-more, window-front, front-same, complete-same, reached-more, fronts-get, complete-here, more-open, more-up}
use Rattle.sat_proxy.proofs.SamePools.{same-add, same-take, waiting-in, of-some, label-below}
use Rattle.sat_proxy.proofs.SameOutlooks.{site-here, gear-here, best-same}

-- ---- beats of a site

row-here : (p : ProxySeen) (k : ℕ) (t : TakenBeats) → k < length p.beats.rows → taken_of (with_taken p.beats k t) k ≡ t
row-here p k t lt = get_or-set_same p.beats.rows k t none_taken lt

row-there : (p : ProxySeen) (k i : ℕ) (t : TakenBeats) → i ≢ k → taken_of (with_taken p.beats k t) i ≡ taken_of p.beats i
row-there p k i t ne = get_or-set_other p.beats.rows k i t none_taken ne

-- ---- a payload

bulk-follows : {d : Deployed} {j : ℕ} {views : Epochs} {p : ProxySeen} {s : SiteState} (sees : Sees d j views p s) (from gear n : ℕ) (q : Payload) → from < d.sites → gear < d.gears → q.label.point.site ≡ from →
    (has_number (window_of p from gear) n ≡ false → waiting_at p.pool q.label.point ≡ None) →
    StandsProxy (after_bulk p from gear n q) (proxy_next d j s (given.Bulk from gear n q) (bulk_answer p from gear n q.label))
bulk-follows {d = d} {j = j} {p = p} {s = s} sees from gear n q ls lg site none = go (has_number (window_of p from gear) n) refl
  where
    next : ProxyState
    next = proxy_next d j s (given.Bulk from gear n q) (ans.Brought q.label)

    here : from < p.sites
    here = site-here sees from ls

    gear_in : gear < p.gears
    gear_in = gear-here sees gear lg

    place : lane_place p from gear < length p.windows
    place = lane-within p from gear sees.sound here gear_in

    row : from < length p.beats.rows
    row = subst (λ (m : ℕ). from < m) (sym sees.sound.senders) here

    new : TakenBeats
    new = refreshed (fronts_of (with_payload p from gear n q) from) (taken_of p.beats from)

    taken : (k g m : ℕ) → k < p.sites → g < p.gears → has ◌==◌ (next.taken k g) m ≡ has_number (window_of (with_payload p from gear n q) k g) m
    taken k g m lk lh = taken-more p from gear k g n m (s.proxy.taken k g) gear_in lh place (sees.stands.taken k g m lk lh)

    front : (g : ℕ) → g < p.gears → front_in (next.taken from g) ≡ front_at (with_payload p from gear n q) from g
    front g lh = window-front (next.taken from g) (window_of (with_payload p from gear n q) from g) (more-open p from gear from g n sees.sound place) (λ m. taken from g m here lh)

    up : (g : ℕ) → g < p.gears → front_in (s.proxy.taken from g) ≤ front_in (next.taken from g)
    up g lh = both _ _ _ _ (front-same p s.proxy sees.sound sees.stands from g here lh) (front g lh) (more-up p from gear from g n place)
      where
        both : (a b c e : ℕ) → a ≡ c → b ≡ e → c ≤ e → a ≤ b
        both a b c e f g h = omega arith

    mine : StandsBeats new (s.proxy.beats from) (best_in (is_reached_by p.gears next from) (s.proxy.beats from))
    mine = stands-refreshed (fronts_of (with_payload p from gear n q) from) (taken_of p.beats from) (s.proxy.beats from) (is_reached_by p.gears s.proxy from) (is_reached_by p.gears next from)
        (sees.sound.beats.each from).taken
        (λ b m. complete-same p.gears (front_at (with_payload p from gear n q) from) (fronts_of (with_payload p from gear n q) from) next from b.1 ((sees.sound.beats.each from).counted.later b m ∙ sees.sound.counted) (fronts-get (with_payload p from gear n q) from) front)
        (reached-more p.gears s.proxy next from up) (sees.stands.beats from here)

    still : (k : ℕ) → (from == k) ≡ false → is_reached_by p.gears s.proxy k ≡ is_reached_by p.gears next k
    still k e = λ i. λ note. list_all (λ g. nat_le (note.counts g) (front_in (if sym e i && (gear == g) then s.proxy.taken k g ++ n ∷ [] else s.proxy.taken k g))) (below p.gears)

    beats : (k : ℕ) → k < p.sites → (b : Bool) → (from == k) ≡ b → StandsBeats (taken_of (with_taken p.beats from new) k) (s.proxy.beats k) (best_in (is_reached_by p.gears next k) (s.proxy.beats k))
    beats k lk true e =
        subst (λ (k : ℕ). StandsBeats (taken_of (with_taken p.beats from new) k) (s.proxy.beats k) (best_in (is_reached_by p.gears next k) (s.proxy.beats k))) (eqb-true from k e)
        (subst (λ (t : TakenBeats). StandsBeats t (s.proxy.beats from) (best_in (is_reached_by p.gears next from) (s.proxy.beats from))) (sym (row-here p from new row)) mine)
    beats k lk false e =
        subst (λ (t : TakenBeats). StandsBeats t (s.proxy.beats k) (best_in (is_reached_by p.gears next k) (s.proxy.beats k))) (sym (row-there p from k new (λ f. eqb-false from k e (sym f))))
        (subst (λ (r : BeatNote → Bool). StandsBeats (taken_of p.beats k) (s.proxy.beats k) (best_in r (s.proxy.beats k))) (still k e) (sees.stands.beats k lk))

    come : waiting_at p.pool q.label.point ≡ None → StandsProxy (brought p from gear n q) next
    come free = record {
      taken = taken;
      pool = same-add p.pool q s.proxy.pool sees.sound.pool (subst (λ (m : ℕ). q.label.point.site < m) (sym sees.sound.rows) (subst (λ (m : ℕ). m < p.sites) (sym site) here)) free sees.stands.pool;
      beats = λ k lk. beats k lk (from == k) refl;
      last = sees.stands.last;
    }

    go : (b : Bool) → has_number (window_of p from gear) n ≡ b → StandsProxy (if b then p else brought p from gear n q) (proxy_next d j s (given.Bulk from gear n q) (if b then ans.Again else ans.Brought q.label))
    go true e = sees.stands
    go false e = come (none e)

-- ---- a beat

beat-follows : {d : Deployed} {j : ℕ} {views : Epochs} {p : ProxySeen} {s : SiteState} (sees : Sees d j views p s) (from n : ℕ) (b : Beat) → from < d.sites → length b.counts ≡ d.gears →
    StandsProxy (after_beat p from n b) (proxy_next d j s (given.BeatIn from n (note_of b)) (beat_answer p from n))
beat-follows {d = d} {j = j} {p = p} {s = s} sees from n b ls counted = go (is_old t.best n) refl (has_beat t.later n) refl
  where
    t : TakenBeats
    t = taken_of p.beats from

    new : TakenBeats
    new = refreshed (fronts_of p from) (with_beat t n b)

    here : from < p.sites
    here = site-here sees from ls

    more : List (ℕ × BeatNote) → List (ℕ × BeatNote)
    more bs = bs ++ (n, note_of b) ∷ []

    row : from < length p.beats.rows
    row = subst (λ (m : ℕ). from < m) (sym sees.sound.senders) here

    mine : is_old t.best n ≡ false → has_beat t.later n ≡ false → StandsBeats new (more (s.proxy.beats from)) (best_in (is_reached_by p.gears s.proxy from) (more (s.proxy.beats from)))
    mine young none = stands-beaten (fronts_of p from) t (s.proxy.beats from) (is_reached_by p.gears s.proxy from) n b (sees.sound.beats.each from).taken
        (λ c m. complete-here p s.proxy sees.sound sees.stands from c.1 here ((sees.sound.beats.each from).counted.later c m ∙ sees.sound.counted))
        (complete-here p s.proxy sees.sound sees.stands from b here (counted ∙ sym sees.gears)) young none (sees.stands.beats from here)

    beats : is_old t.best n ≡ false → has_beat t.later n ≡ false → (k : ℕ) → k < p.sites → (c : Bool) → (from == k) ≡ c →
        StandsBeats (taken_of (with_taken p.beats from new) k) (if c then more (s.proxy.beats k) else s.proxy.beats k) (best_in (is_reached_by p.gears s.proxy k) (if c then more (s.proxy.beats k) else s.proxy.beats k))
    beats young none k lk true e =
        subst (λ (k : ℕ). StandsBeats (taken_of (with_taken p.beats from new) k) (more (s.proxy.beats k)) (best_in (is_reached_by p.gears s.proxy k) (more (s.proxy.beats k)))) (eqb-true from k e)
        (subst (λ (t : TakenBeats). StandsBeats t (more (s.proxy.beats from)) (best_in (is_reached_by p.gears s.proxy from) (more (s.proxy.beats from)))) (sym (row-here p from new row)) (mine young none))
    beats young none k lk false e =
        subst (λ (t : TakenBeats). StandsBeats t (s.proxy.beats k) (best_in (is_reached_by p.gears s.proxy k) (s.proxy.beats k))) (sym (row-there p from k new (λ f. eqb-false from k e (sym f)))) (sees.stands.beats k lk)

    come : is_old t.best n ≡ false → has_beat t.later n ≡ false → StandsProxy (beaten p from n b) (proxy_next d j s (given.BeatIn from n (note_of b)) ans.Taken)
    come young none = record { taken = sees.stands.taken; pool = sees.stands.pool; beats = λ k lk. beats young none k lk (from == k) refl; last = sees.stands.last }

    go : (o : Bool) → is_old t.best n ≡ o → (h : Bool) → has_beat t.later n ≡ h →
        StandsProxy (if o || h then p else beaten p from n b) (proxy_next d j s (given.BeatIn from n (note_of b)) (came_answer (if o then came.Old else (if h then came.Again else came.New))))
    go true e h f = sees.stands
    go false e true f = sees.stands
    go false e false f = come e f

-- ---- a turn

-- the label's site is known up to it
known : {d : Deployed} {j : ℕ} {views : Epochs} {p : ProxySeen} {s : SiteState} (sees : Sees d j views p s) (l : Label) → l.point.site < d.sites → (k : ℕ) → k < p.sites →
    get_or (set p.last l.point.site (greater_point (known_by l) (last_of p l.point.site))) k (first_point k) ≡ (if l.point.site == k then greater_point (known_by l) (s.proxy.last k) else s.proxy.last k)
known {p = p} {s = s} sees l lt k lk = go (l.point.site == k) refl
  where
    place : l.point.site < length p.last
    place = subst (λ (n : ℕ). l.point.site < n) (sym sees.sound.last) (site-here sees l.point.site lt)

    new : Point
    new = greater_point (known_by l) (last_of p l.point.site)

    go : (b : Bool) → (l.point.site == k) ≡ b → get_or (set p.last l.point.site new) k (first_point k) ≡ (if b then greater_point (known_by l) (s.proxy.last k) else s.proxy.last k)
    go true e =
        let w : l.point.site ≡ k = eqb-true l.point.site k e in
        ap (λ (n : ℕ). get_or (set p.last l.point.site new) n (first_point k)) (sym w) ∙
        (get_or-set_same p.last l.point.site new (first_point k) place ∙ (ap (λ (n : ℕ). greater_point (known_by l) (last_of p n)) w ∙ ap (greater_point (known_by l)) (sees.stands.last k lk)))
    go false e = get_or-set_other p.last l.point.site k new (first_point k) (λ f. eqb-false l.point.site k e (sym f)) ∙ sees.stands.last k lk

turn-follows : {d : Deployed} {j : ℕ} {views : Epochs} {p : ProxySeen} {s : SiteState} (sees : Sees d j views p s) (front : Option Label) → ((l : Label) → front ≡ Some l → l.point.site < d.sites) →
    StandsProxy (turn_after views p front) (proxy_next d j s (given.Turn front) (turn_answer views p front))
turn-follows {d = d} {j = j} {views = views} {p = p} {s = s} sees front within = go (in_stamp views) front within
  where
    took : (l : Label) → l.point.site < d.sites → StandsProxy (knowing p l) (proxy_next d j s (given.Turn (Some l)) (ans.Took l))
    took l lt = record { taken = sees.stands.taken; pool = sees.stands.pool; beats = sees.stands.beats; last = known sees l lt }

    shown : (l : Label) (q : Payload) → l.point.site < d.sites → waiting_of p.pool l ≡ Some q → StandsProxy (showing p l) (proxy_next d j s (given.Turn (Some l)) (ans.Shown l))
    shown l q lt e =
        let k : In (all_waiting p.pool) q × (q.label ≡ l) = of-some p.pool l q e in
        record {
          taken = sees.stands.taken;
          pool = same-take p.pool l q s.proxy.pool sees.sound.pool (subst (λ (n : ℕ). l.point.site < n) (sym sees.sound.rows) (site-here sees l.point.site lt)) k.0 k.1 sees.stands.pool;
          beats = sees.stands.beats;
          last = known sees l lt;
        }

    update : (l : Label) (items : Items) → l.kind ≡ Update items → l.point.site < d.sites → (o : Option Payload) → waiting_of p.pool l ≡ o → StandsProxy (shown_after p l o) (proxy_next d j s (given.Turn (Some l)) (front_answer (missing l o) (Some l)))
    update l items e lt None f = sees.stands
    update l items e lt (Some q) f = subst (λ (k : Kind). StandsProxy (showing p l) (proxy_next d j s (given.Turn (Some l)) (done_answer l k))) (sym e) (shown l q lt f)

    label : (l : Label) → l.point.site < d.sites → (k : Kind) → l.kind ≡ k → StandsProxy (front_after p l k) (proxy_next d j s (given.Turn (Some l)) (front_answer (front_fault p.pool l k) (Some l)))
    label l lt (Update items) e = update l items e lt (waiting_of p.pool l) refl
    label l lt (Move i) e = subst (λ (k : Kind). StandsProxy (knowing p l) (proxy_next d j s (given.Turn (Some l)) (done_answer l k))) (sym e) (took l lt)
    label l lt Pulse e = subst (λ (k : Kind). StandsProxy (knowing p l) (proxy_next d j s (given.Turn (Some l)) (done_answer l k))) (sym e) (took l lt)
    label l lt (Close n) e = subst (λ (k : Kind). StandsProxy (knowing p l) (proxy_next d j s (given.Turn (Some l)) (done_answer l k))) (sym e) (took l lt)

    go : (b : Bool) (front : Option Label) → ((l : Label) → front ≡ Some l → l.point.site < d.sites) →
        StandsProxy (if b then p else link_after p front) (proxy_next d j s (given.Turn front) (front_answer (if b then Some turn.StampOrder else link_fault p.pool front) front))
    go true front f = sees.stands
    go false None f = sees.stands
    go false (Some l) f = label l (f l refl) l.kind refl

-- ---- timestamp order

-- the label that is shown next waits
next-waits : (views : Epochs) (p : ProxySeen) (l : Label) → stamp_label views p ≡ Some l → In (labels_waiting p.pool) l
next-waits views p l e = go (candidate_by (outlook_here views p)) refl e
  where
    just : (m : Label) (b : Bool) → (if b then Some m else None) ≡ Some l → m ≡ l
    just m true e = cc
    just m false e = absurd (cc)

    go : (o : Option Label) → candidate_by (outlook_here views p) ≡ o →
        elim o [ None ↦ None | Some l ↦ if all_passed p.sites (outlook_here views p) p.site l && own_passed (outlook_here views p) l then Some l else None ] ≡ Some l → In (labels_waiting p.pool) l
    go None w e = absurd (cc)
    go (Some m) w e =
        subst (In (labels_waiting p.pool)) (just m (all_passed p.sites (outlook_here views p) p.site m && own_passed (outlook_here views p) m) e)
        (least-is (λ l. not (past_by (outlook_here views p) l)) (labels_waiting p.pool) m w).member

stamp-follows : {d : Deployed} {j : ℕ} {views : Epochs} {p : ProxySeen} {s : SiteState} (sees : Sees d j views p s) → StandsProxy (stamp_after views p) (proxy_next d j s given.Stamp (stamp_answer views p))
stamp-follows {d = d} {j = j} {views = views} {p = p} {s = s} sees = go (in_stamp views) (stamp_label views p) (next-waits views p)
  where
    shown : (l : Label) → In (labels_waiting p.pool) l → StandsProxy (left_after p (waiting_at p.pool l.point)) (proxy_next d j s given.Stamp (ans.Shown l))
    shown l m =
        let k : (x : Payload) × In (all_waiting p.pool) x × (labelled x ≡ l) = in-map labelled (all_waiting p.pool) l m in
        let at : Some k.0 ≡ waiting_at p.pool l.point = sym (waiting-in p.pool k.0 sees.sound.pool k.1) ∙ (λ i. waiting_at p.pool (k.2 i).point) in
        subst (λ (o : Option Payload). StandsProxy (left_after p o) (proxy_next d j s given.Stamp (ans.Shown l))) at
        (record {
          taken = sees.stands.taken;
          pool = subst (λ (m : Label). SamePayloads (all_waiting (pool.after_take p.pool k.0.label.point)) (filter (λ q. not (label_eq m q.label)) s.proxy.pool)) k.2
              (same-take p.pool k.0.label k.0 s.proxy.pool sees.sound.pool (label-below p.pool k.0.label sees.sound.pool (subst (In (labels_waiting p.pool)) (sym k.2) m)) k.1 refl sees.stands.pool);
          beats = sees.stands.beats;
          last = sees.stands.last;
        })

    go : (b : Bool) (next : Option Label) → ((l : Label) → next ≡ Some l → In (labels_waiting p.pool) l) →
        StandsProxy (left_after p (if b then payload_at p.pool next else None)) (proxy_next d j s given.Stamp (next_answer (if b then not_yet next else Some stamp.TreeOrder) next))
    go true None f = sees.stands
    go true (Some l) f = shown l (f l refl)
    go false next f = sees.stands

-- ---- the next view

stays : {d : Deployed} {j : ℕ} {views : Epochs} {p : ProxySeen} {s : SiteState} (sees : Sees d j views p s) → is_done (advance_answer views p) ≡ false → proxy_next d j s given.Advance (advance_answer views p) ≡ s.proxy
stays {d = d} {j = j} {views = views} {p = p} {s = s} sees e = go (advance_fault views (has_come views p)) e
  where
    go : (o : Option AdvanceFault) → is_done (view_answer o views.view) ≡ false → proxy_next d j s given.Advance (view_answer o views.view) ≡ s.proxy
    go (Some advance.NotClosed) e = refl
    go (Some advance.NotYet) e = refl
    go None e = absurd (cc)

abbrev cut_by : ℕ → Option (ℕ × BeatNote) → Option Point
cut_by epoch o = elim o [ None ↦ None | Some b ↦ b.1.closes epoch ]

goes-on : {d : Deployed} {j : ℕ} {views : Epochs} {p : ProxySeen} {s : SiteState} (sees : Sees d j views p s) → is_done (advance_answer views p) ≡ true → StandsProxy (advance_after views p) (proxy_next d j s given.Advance (advance_answer views p))
goes-on {d = d} {j = j} {views = views} {p = p} {s = s} sees e = start (advance_fault views (has_come views p)) e
  where
    -- the close cut that the machine takes, by its mode
    machine : Bool → ℕ → Option Point
    machine b k = if b then (if k == j then s.views.closes s.views.view else cut_by s.views.view (look.best_of d s k)) else None

    beat : (o : Option (ℕ × Beat)) → elim o [ None ↦ None | Some b ↦ close_in b.1 views.view ] ≡ cut_by views.view (option_map noted o)
    beat None = refl
    beat (Some b) = refl

    cut : (k : ℕ) → k < d.sites → cut_passed views p k ≡ machine true k
    cut k lt =
        (λ i. if k == sees.own i then close_cut views views.view else beat (best_of p k) i) ∙
        (λ i. if k == j then sees.told.close i else cut_by (sees.told.view i) (best-same sees k lt i))

    mode : (b : Bool) → in_stamp views ≡ b → StandsProxy (if b then record p { last = map (known_after views p) (below p.sites) } else p) (record s.proxy { last = λ k. raised (s.proxy.last k) (machine b k) })
    mode true w = record {
      taken = sees.stands.taken;
      pool = sees.stands.pool;
      beats = sees.stands.beats;
      last = λ k lk. map-below (known_after views p) p.sites k (first_point k) lk ∙ (λ i. raised (sees.stands.last k lk i) (cut k (subst (λ (n : ℕ). k < n) sees.sites lk) i));
    }
    mode false w = sees.stands

    start : (o : Option AdvanceFault) → is_done (view_answer o views.view) ≡ true → StandsProxy (advance_after views p) (proxy_next d j s given.Advance (view_answer o views.view))
    start (Some advance.NotClosed) e = absurd (cc)
    start (Some advance.NotYet) e = absurd (cc)
    start None e = subst (λ (b : Bool). StandsProxy (advance_after views p) (record s.proxy { last = λ k. raised (s.proxy.last k) (machine b k) })) sees.told.stamp (mode (in_stamp views) refl)

pub each-follows : EachFollows
each-follows d j views p s sees = record {
  bulk = bulk-follows sees;
  beat = beat-follows sees;
  turn = turn-follows sees;
  stamp = stamp-follows sees;
  advance = stays sees;
  advanced = goes-on sees;
}
