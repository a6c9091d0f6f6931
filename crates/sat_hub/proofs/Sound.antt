-- What is true of each hub stays so.
use Rattle.std.specs.Prelude.{◌≡◌, ◌<◌, ◌≤◌, ◌++◌, ◌-◌, ◌^◌, ℕ, zero, suc, Bool, true, false, ◌==◌, not, List, [], ◌∷◌, length, map, set, get_or, filter, Option, Some, None, MatchOption, slice_get, if◌then◌else◌, refl}
use Rattle.std.specs.List.{flat_map}
use Rattle.std.proofs.Common.{subst, ap, sym, ◌∙◌, arith, inl, inr}
use Rattle.std.proofs.lemmas.List.{length-map, length-set, get_or-set_same, get_or-set_other}
use Rattle.std.proofs.lemmas.Bool.{eqb-true, eqb-false}
use Rattle.sat_label.specs.declared.label.Label.{Label}
use Rattle.sat_label.specs.declared.point.Point.{Point}
use Rattle.sat_label.specs.Order.{greater_point, label_eq, mark, point_lt}
use Rattle.sat_bulk.specs.declared.Drained.{Drained}
use Rattle.sat_beat.specs.declared.Beat.{Beat}
use Rattle.sat_label.specs.Members.{In}
use Rattle.sat_label.proofs.Members.{In-parts, In-filter}
use Rattle.sat_gear.proofs.Spreads.{slice-more}
use Rattle.sat_sites.specs.Interested.{IsLabelOf}
use Rattle.sat_sink.specs.Pending.{labels_of, promise_of, is_up_to, all_of}
use Rattle.sat_sink.specs.Sink.{Sink, after_close as sink_closed, after_emit, after_emit_of, after_gather, after_pulse, IsDrain, cut_of, may_pulse, pulse_of, ready_of, stable_of}
use Rattle.sat_epoch.specs.declared.views.CloseFault.{CloseFault}
use Rattle.sat_epoch.specs.Epochs.{Epochs, IsEpochs, after_close, close_fault}
use Rattle.sat_proxy.specs.Proxy.{ProxySeen}
use Rattle.sat_label.proofs.Least.{IsLeast, least-is}
use Rattle.sat_sink.proofs.Queues.{In-all, Place, joined-get, length-joined, without-get}
use Rattle.sat_hub.specs.Seen.{HubSeen, HasEpochs, HasPeers, HasSink, IsBeatOf, IsGather, IsHub, IsMadeHere}
use Rattle.sat_act.specs.declared.answer.Answer.TheVariants as ans
use Rattle.sat_act.specs.declared.answer.Refusal.TheVariants as why
use Rattle.sat_hub.specs.HubSteps.{close_label, emit_after, emit_answer, gather_answer, next_close, next_pulse}
use Rattle.sat_hub.specs.Changes.{beat_for, beaten, count_to, counts_of, gathered, made_for, pulsed, sent}
use Rattle.sat_hub.proofs.Lists.{get-is, same-get}

-- ---- what gears gave

-- a label at a place of what they gave
given-label : (drained : List Drained) (g : ℕ) (l : Label) → In (get_or (map labels_of drained) g []) l → (d : Drained) × (slice_get drained g ≡ Some d) × In d.labels l
given-label [] g l i = absurd i
given-label (d ∷ drained) zero l i = (d, refl, i)
given-label (d ∷ drained) (suc g) l i = given-label drained g l i

pub past-end : (queues : List (List Label)) (g : ℕ) (l : Label) → In (get_or queues g []) l → g < length queues
past-end [] g l i = absurd i
past-end (q ∷ queues) zero l i = omega arith
past-end (q ∷ queues) (suc g) l i = let k : g < length queues = past-end queues g l i in omega arith

pub gathered-hub : (x : HubSeen) (drained : List Drained) → IsHub x → IsGather x drained → IsHub (gathered x drained)
gathered-hub x drained k d = record {
  shape = k.shape;
  sink = record {
    own = k.sink.own;
    promises = length-map drained promise_of ∙ (d.drain.count ∙ k.sink.promises);
    rows = length-joined x.sink.pending (map labels_of drained) ∙ k.sink.rows;
    last = k.sink.last;
  };
  pending = λ g l i.
      let lt : g < length x.sink.pending = subst (λ (n : ℕ). g < n) (length-joined x.sink.pending (map labels_of drained)) (past-end _ g l i) in
      elim (In-parts (get_or x.sink.pending g []) (get_or (map labels_of drained) g []) l (subst (λ (ls : List Label). In ls l) (joined-get x.sink.pending (map labels_of drained) g lt) i)) [
        | inl old ↦ k.pending g l old
        | inr new ↦ (let w = given-label drained g l new in (d.given g w.0 w.1).labels l w.2)
      ];
  counts = length-map drained counts_of ∙ (d.drain.count ∙ k.sink.promises);
  views = k.views;
  proxy = k.proxy;
  made = k.made;
}

-- by what the code found and wrote
pub gather-hub : (w v : HubSeen) (drained : List Drained) (s : Sink) (counts : List (List ℕ)) → w ≡ v → IsHub w → IsGather v drained → s ≡ after_gather w.sink drained → counts ≡ map counts_of drained → IsHub (record w { sink = s; counts = counts })
gather-hub w v drained s counts same k d e f = subst IsHub (λ j. record w { sink = sym e j; counts = sym f j }) (gathered-hub w drained k (subst (λ (y : HubSeen). IsGather y drained) (sym same) d))

pub gather-drain : (w v : HubSeen) (drained : List Drained) → w ≡ v → IsGather v drained → IsDrain w.sink drained
gather-drain w v drained same d = (subst (λ (y : HubSeen). IsGather y drained) (sym same) d).drain

pub gather-rows : (w v : HubSeen) (drained : List Drained) → w ≡ v → IsHub w → IsGather v drained → length w.counts ≡ length drained
gather-rows w v drained same k d = k.counts ∙ sym ((gather-drain w v drained same d).count ∙ k.sink.promises)

pub gather-after : (w v : HubSeen) (drained : List Drained) (s : Sink) (counts : List (List ℕ)) → w ≡ v → s ≡ after_gather w.sink drained → counts ≡ map counts_of drained → record w { sink = s; counts = counts } ≡ gathered v drained
gather-after w v drained s counts same e f = (λ j. record w { sink = e j; counts = f j }) ∙ ap (λ (y : HubSeen). gathered y drained) same

pub gather-answer : (drained : List Drained) (s t : Sink) (n stable : ℕ) → n ≡ length (flat_map labels_of drained) → s ≡ after_gather t drained → stable ≡ stable_of s → ans.Gathered n stable ≡ gather_answer drained
gather-answer drained s t n stable count e f = λ j. ans.Gathered (count j) ((f ∙ ap stable_of e) j)

pub counted : (o : Option ℕ) (n m : ℕ) → MatchOption o (2 ^ 64 ≤ m) (λ count. count ≡ m) → o ≡ Some n → n ≡ m
counted None n m h e = absurd (cc)
counted (Some k) n m h e = let q : k ≡ n = cc in sym q ∙ h

-- ---- what is sent

-- a sink with other labels sent, whose pending ones are some of those that were
pub sink-hub : (x : HubSeen) (s : Sink) → IsHub x → HasSink x.shape s → ((g : ℕ) (l : Label) → In (get_or s.pending g []) l → In (get_or x.sink.pending g []) l) → IsHub (record x { sink = s })
sink-hub x s k has some = record { shape = k.shape; sink = has; pending = λ g l i. k.pending g l (some g l i); counts = k.counts; views = k.views; proxy = k.proxy; made = k.made }

-- a pending label is one that the site made
pub ready-here : (x : HubSeen) (l : Label) → IsHub x → ready_of x.sink ≡ Some l → IsMadeHere x.shape l
ready-here x l k e =
    let w : IsLeast (is_up_to (stable_of x.sink)) (all_of x.sink.pending) l = least-is (is_up_to (stable_of x.sink)) (all_of x.sink.pending) l e in
    let p : Place x.sink.pending l = In-all x.sink.pending l w.member in
    k.pending p.gear l p.there

own-here : (x : HubSeen) (n : ℕ) → IsHub x → n ≡ x.shape.site → n < x.shape.interest.sites
own-here x n k e = subst (λ (n : ℕ). n < x.shape.interest.sites) (sym e) (subst (λ (n : ℕ). x.shape.site < n) (sym k.shape.sites) k.shape.site)

pub label-here : (x : HubSeen) (l : Label) → IsHub x → IsMadeHere x.shape l → IsLabelOf x.shape.interest l
label-here x l k u = record { own = own-here x l.point.site k u.site; kind = u.kind }

-- a pulse and a close of the site
pub pulse-here : (x : HubSeen) → IsHub x → IsLabelOf x.shape.interest (pulse_of x.sink)
pulse-here x k = record { own = own-here x x.sink.site k k.sink.own; kind = tt }

pub close-here : (x : HubSeen) → IsHub x → (cut_of x.sink).site ≡ x.shape.site → IsLabelOf x.shape.interest (close_label x)
close-here x k e = record { own = own-here x (cut_of x.sink).site k e; kind = tt }

pub sent-hub : (x : HubSeen) (l : Label) → IsHub x → l.point.site ≡ x.shape.site → IsHub (sent x l)
sent-hub x l k own = sink-hub x (after_emit_of x.sink l) k (record { own = k.sink.own; promises = k.sink.promises; rows = length-map x.sink.pending (filter (λ m. not (label_eq l m))) ∙ k.sink.rows; last = own })
    (λ g m i. (In-filter (λ m. not (label_eq l m)) (get_or x.sink.pending g []) m (subst (λ (ls : List Label). In ls m) (without-get l x.sink.pending g) i)).0)

pub pulsed-hub : (x : HubSeen) → IsHub x → IsHub (pulsed x)
pulsed-hub x k = sink-hub x (after_pulse x.sink) k (record { own = k.sink.own; promises = k.sink.promises; rows = k.sink.rows; last = k.sink.own }) (λ g m i. i)

abbrev cut_by : Sink → Option Label → Point
cut_by s o = elim o [ None ↦ mark (stable_of s) s.site | Some l ↦ greater_point s.last (mark (l.point.ts - 1) s.site) ]

abbrev chosen_point : Bool → Point → Point → Point
chosen_point b p q = if b then p else q

-- the cut is of the site
pub cut-site : (x : HubSeen) → IsHub x → (cut_of x.sink).site ≡ x.shape.site
cut-site x k = go (ready_of x.sink)
  where
    greater : (p q : Point) (b : Bool) → p.site ≡ x.shape.site → q.site ≡ x.shape.site → (chosen_point b q p).site ≡ x.shape.site
    greater p q true e f = f
    greater p q false e f = e

    go : (o : Option Label) → (cut_by x.sink o).site ≡ x.shape.site
    go None = k.sink.own
    go (Some l) = greater x.sink.last (mark (l.point.ts - 1) x.sink.site) (point_lt x.sink.last (mark (l.point.ts - 1) x.sink.site)) k.sink.last k.sink.own

-- ---- what the site has of the others

pub proxy-hub : (x : HubSeen) (p : ProxySeen) → IsHub x → HasPeers x.shape p → IsHub (record x { proxy = p })
proxy-hub x p k has = record { shape = k.shape; sink = k.sink; pending = k.pending; counts = k.counts; views = k.views; proxy = has; made = k.made }

pub views-hub : (x : HubSeen) (v : Epochs) → IsHub x → HasEpochs x.shape v → length v.stamp ≡ length x.views.stamp → IsHub (record x { views = v })
views-hub x v k has same = record {
  shape = k.shape;
  sink = k.sink;
  pending = k.pending;
  counts = k.counts;
  views = has;
  proxy = k.proxy;
  made = record { count = k.made.count; each = λ j n beat at. let b = k.made.each j n beat at in record { counts = b.counts; closes = subst (λ (m : ℕ). length beat.closes ≤ m) (sym same) b.closes } };
}

-- ---- a pulse and a close, by what the code found and wrote

pub pulse-hub : (w : HubSeen) (s : Sink) → IsHub w → s ≡ (if may_pulse w.sink then after_pulse w.sink else w.sink) → IsHub (record w { sink = s })
pulse-hub w s k e = subst (λ (t : Sink). IsHub (record w { sink = t })) (sym e) (go (may_pulse w.sink))
  where
    go : (b : Bool) → IsHub (record w { sink = if b then after_pulse w.sink else w.sink })
    go true = pulsed-hub w k
    go false = k

closed-sink : (w : HubSeen) → IsHub w → IsHub (record w { sink = sink_closed w.sink })
closed-sink w k = sink-hub w (sink_closed w.sink) k (record { own = k.sink.own; promises = k.sink.promises; rows = k.sink.rows; last = cut-site w k }) (λ g m i. i)

pub close-hub : (w : HubSeen) (v : Epochs) (s : Sink) (cut : Point) → IsHub w → IsEpochs v → cut ≡ cut_of w.sink → v ≡ after_close w.views cut → s ≡ sink_closed w.sink → IsHub (record w { views = v; sink = s })
close-hub w v s cut k epochs at closed e =
    let y : IsHub (record w { sink = sink_closed w.sink }) = closed-sink w k in
    subst (λ (t : Sink). IsHub (record w { views = v; sink = t })) (sym e)
    (views-hub (record w { sink = sink_closed w.sink }) v y (record { sound = epochs; own = ap (λ (x : Epochs). x.site) closed ∙ k.views.own; heard = ap (λ (x : Epochs). length x.heard) closed ∙ k.views.heard }) (ap (λ (x : Epochs). length x.stamp) closed))

-- the pulse and the close that the site may send
pub pulse-label : (w v : HubSeen) (o : Option Label) → w ≡ v → IsHub w → o ≡ next_pulse v.sink → (l : Label) → o ≡ Some l → IsLabelOf v.shape.interest l
pulse-label w v o same k e l f = go (may_pulse v.sink) (sym e ∙ f)
  where
    go : (b : Bool) → (if b then Some (pulse_of v.sink) else None) ≡ Some l → IsLabelOf v.shape.interest l
    go true e = let is : pulse_of v.sink ≡ l = cc in subst (IsLabelOf v.shape.interest) is (pulse-here v (subst IsHub same k))
    go false e = absurd (cc)

pub close-sent : (w v : HubSeen) (o : Option Label) → w ≡ v → IsHub w → o ≡ next_close (close_fault v.views) v → (l : Label) → o ≡ Some l → IsLabelOf v.shape.interest l
close-sent w v o same k e l f = go (close_fault v.views) (sym e ∙ f)
  where
    go : (o : Option CloseFault) → next_close o v ≡ Some l → IsLabelOf v.shape.interest l
    go None e = let is : close_label v ≡ l = cc in let h : IsHub v = subst IsHub same k in subst (IsLabelOf v.shape.interest) is (close-here v h (cut-site v h))
    go (Some fault) e = absurd (cc)

-- ---- an emission

emitted-is : (w : HubSeen) (s : Sink) (o : Option Label) (l : Label) → o ≡ ready_of w.sink → o ≡ Some l → s ≡ after_emit w.sink → s ≡ after_emit_of w.sink l
emitted-is w s o l e f h = h ∙ ap (λ (o : Option Label). elim o [ None ↦ w.sink | Some l ↦ after_emit_of w.sink l ]) (sym e ∙ f)

pub emit-hub : (w : HubSeen) (s : Sink) (o : Option Label) (l : Label) → IsHub w → o ≡ ready_of w.sink → o ≡ Some l → s ≡ after_emit w.sink → IsHub (record w { sink = s })
emit-hub w s o l k e f h = subst (λ (t : Sink). IsHub (record w { sink = t })) (sym (emitted-is w s o l e f h)) (sent-hub w l k (ready-here w l k (sym e ∙ f)).site)

-- the labels that the site may send
pub emit-label : (w v : HubSeen) (o : Option Label) → w ≡ v → IsHub w → o ≡ ready_of w.sink → (l : Label) → o ≡ Some l → IsLabelOf v.shape.interest l
emit-label w v o same k e l f = subst (λ (x : HubSeen). IsLabelOf x.shape.interest l) same (label-here w l k (ready-here w l k (sym e ∙ f)))

pub idle-answer : (w v : HubSeen) (o : Option Label) → w ≡ v → o ≡ ready_of w.sink → o ≡ None → ans.Refused why.Idle ≡ emit_answer (ready_of v.sink)
idle-answer w v o same e f = ap emit_answer (sym f ∙ e) ∙ ap (λ (x : HubSeen). emit_answer (ready_of x.sink)) same

pub idle-after : (w v : HubSeen) (s : Sink) (o : Option Label) → w ≡ v → o ≡ ready_of w.sink → o ≡ None → s ≡ after_emit w.sink → record w { sink = s } ≡ emit_after v (ready_of v.sink)
idle-after w v s o same e f h =
    let none : ready_of w.sink ≡ None = sym e ∙ f in
    let still : s ≡ w.sink = h ∙ ap (λ (o : Option Label). elim o [ None ↦ w.sink | Some l ↦ after_emit_of w.sink l ]) none in
    ap (λ (t : Sink). record w { sink = t }) still ∙ (ap (emit_after w) (sym none) ∙ ap (λ (x : HubSeen). emit_after x (ready_of x.sink)) same)

pub emit-answer : (w v : HubSeen) (o : Option Label) (l : Label) → w ≡ v → o ≡ ready_of w.sink → o ≡ Some l → ans.Emitted l ≡ emit_answer (ready_of v.sink)
emit-answer w v o l same e f = ap emit_answer (sym f ∙ e) ∙ ap (λ (x : HubSeen). emit_answer (ready_of x.sink)) same

pub emit-after : (w v : HubSeen) (s : Sink) (o : Option Label) (l : Label) → w ≡ v → o ≡ ready_of w.sink → o ≡ Some l → s ≡ after_emit w.sink → record w { sink = s } ≡ emit_after v (ready_of v.sink)
emit-after w v s o l same e f h = ap (λ (t : Sink). record w { sink = t }) (emitted-is w s o l e f h) ∙ (ap (emit_after w) (sym f ∙ e) ∙ ap (λ (x : HubSeen). emit_after x (ready_of x.sink)) same)

pub known-after : (w v : HubSeen) (s : Sink) (l : Label) → w ≡ v → ready_of w.sink ≡ Some l → s ≡ after_emit w.sink → record w { sink = s } ≡ emit_after v (Some l)
known-after w v s l same e h = ap (λ (t : Sink). record w { sink = t }) (emitted-is w s (Some l) l (sym e) refl h) ∙ ap (λ (x : HubSeen). emit_after x (Some l)) same

-- ---- a beat

beat-is : (x : HubSeen) (j : ℕ) → IsHub x → IsBeatOf x.shape.gears (length x.views.stamp) (beat_for x j)
beat-is x j k =
    let e : IsEpochs x.views = k.views.sound in
    let low : length x.views.closes ≤ length x.views.stamp = omega (arith, e.closed, e.last) in
    record { counts = length-map x.counts (count_to j) ∙ k.counts; closes = low }

made-each : (x : HubSeen) (j : ℕ) (b : Beat) → IsHub x → j < length x.made → IsBeatOf x.shape.gears (length x.views.stamp) b →
    (i n : ℕ) (beat : Beat) → slice_get (get_or (set x.made j (made_for x j ++ b ∷ [])) i []) n ≡ Some beat → IsBeatOf x.shape.gears (length x.views.stamp) beat
made-each x j b k lt good i n beat at = go (i == j) refl
  where
    new : List Beat
    new = made_for x j ++ b ∷ []

    go : (t : Bool) → (i == j) ≡ t → IsBeatOf x.shape.gears (length x.views.stamp) beat
    go true e =
        let here : slice_get new n ≡ Some beat = subst (λ (bs : List Beat). slice_get bs n ≡ Some beat) (get_or-set_same x.made j new [] lt) (subst (λ (m : ℕ). slice_get (get_or (set x.made j new) m []) n ≡ Some beat) (eqb-true i j e) at) in
        elim (slice-more (made_for x j) b beat n here) [
          | inl w ↦ k.made.each j n beat w
          | inr w ↦ subst (IsBeatOf x.shape.gears (length x.views.stamp)) (sym w) good
        ]
    go false e = k.made.each i n beat (subst (λ (bs : List Beat). slice_get bs n ≡ Some beat) (get_or-set_other x.made j i new [] (eqb-false i j e)) at)

made-hub : (w : HubSeen) (j : ℕ) → IsHub w → j < length w.made → IsHub (beaten w j)
made-hub w j k lt = record {
  shape = k.shape;
  sink = k.sink;
  pending = k.pending;
  counts = k.counts;
  views = k.views;
  proxy = k.proxy;
  made = record { count = length-set w.made j (made_for w j ++ beat_for w j ∷ []) ∙ k.made.count; each = made-each w j (beat_for w j) k lt (beat-is w j k) };
}

-- a place of a list, whatever stands for what is not there
same-place : (xss : List (List Beat)) (j : ℕ) (xs : List Beat) → j < length xss → xs ≡ get_or xss j xs → xs ≡ get_or xss j []
same-place xss j xs lt e = e ∙ same-get xss j (get_or xss j xs) (get_or xss j []) (get-is xss j xs lt) (get-is xss j [] lt)

pub beaten-hub : (w x : HubSeen) (j : ℕ) (old new : List Beat) (b : Beat) → w ≡ x → IsHub w → j < x.shape.sites → old ≡ get_or w.made j old → b ≡ beat_for x j → new ≡ old ++ b ∷ [] → IsHub (record w { made = set w.made j new })
beaten-hub w x j old new b same k lt e made is =
    let low : j < length w.made = subst (λ (n : ℕ). j < n) (sym k.made.count) (subst (λ (y : HubSeen). j < y.shape.sites) (sym same) lt) in
    let there : old ≡ made_for w j = same-place w.made j old low e in
    let all : new ≡ made_for w j ++ beat_for w j ∷ [] = is ∙ (λ i. there i ++ (made ∙ ap (λ (y : HubSeen). beat_for y j) (sym same)) i ∷ []) in
    subst (λ (bs : List Beat). IsHub (record w { made = set w.made j bs })) (sym all) (made-hub w j k low)
