-- What a site answers by its state is what the history answers.
use Rattle.std.specs.Prelude.{◌≡◌, ◌⊎◌, ◌<◌, ◌≤◌, ℕ, zero, suc, ◌+◌, ◌-◌, ◌^◌, Bool, false, ◌&&◌, ◌||◌, not, nat_le, max, List, [], ◌∷◌, ◌++◌, length, Option, Some, None, is_some, slice_get, ◌==◌, if◌then◌else◌, refl}
use Rattle.std.proofs.Common.{sym, ap, ◌∙◌, arith}
use Rattle.std.proofs.lemmas.Bool.Decides.{nat_tests}
use Rattle.sat_label.specs.declared.items.Items.{Items}
use Rattle.sat_label.specs.declared.items.Items.TheVariants.{One}
use Rattle.sat_label.specs.declared.label.Label.{Label}
use Rattle.sat_label.specs.declared.point.Point.{Point}
use Rattle.sat_label.specs.declared.label.Kind.TheVariants as kind
use Rattle.sat_label.specs.declared.node.NodeId.{NodeId}
use Rattle.sat_label.specs.declared.node.NodeId.TheVariants.{Site}
use Rattle.sat_label.specs.Order.{label_eq, point_at}
use Rattle.sat_label.specs.Words.{has}
use Rattle.sat_tree.specs.Shape.{TreeShape}
use Rattle.sat_act.specs.declared.act.Act.TheVariants as act
use Rattle.sat_act.specs.declared.answer.Answer.{Answer}
use Rattle.sat_act.specs.declared.answer.Answer.TheVariants as ans
use Rattle.sat_act.specs.declared.answer.Refusal.TheVariants as why
use Rattle.sat_act.specs.declared.entry.Entry.{Entry}
use Rattle.sat_act.specs.Deployed.{Deployed}
use Rattle.sat_act.specs.Parts.{BeatNote, tree_of, promise, made, made_to, gathered, least_promise, stable, ready, emission, view, in_stamp_mode, seat_in, link_front, version, value_of, lane, brought, waiting, last, beats, beats_taken, best, seat, carried, may_attach, next_stamp, candidate, is_past, replicates}
use Rattle.sat_act.specs.Answers.{answer, refused_if, at_seat, base, write_at, read_at, move_from, attach_to, gather_of, emit_of, pulse_of, turned, turn_of, bulk_to, bring, beat_to, beat_in_to, stamp_of, close_of, fall_of, took_close, may_advance, advance_of}
use Rattle.sat_act.specs.Runs.{IsRun}
use Rattle.sat_act.specs.Goals.{IsValid}
use Rattle.sat_laws.proofs.Links.{get-below}
use Rattle.sat_model.specs.State.{SiteState}
use Rattle.sat_model.specs.Input as given
use Rattle.sat_model.specs.Look.{rows, least_row, stable_of, cut_of, waiting_of, numbers_of}
use Rattle.sat_model.specs.Reply.{Outlook, outlook_of, gear_for, site_answer, write_by, read_by, move_by, may_come, stamp_next, may_pass}
use Rattle.sat_model.specs.Replay.{site_state, carrying, given_number, turn_front}
use Rattle.sat_model.proofs.Simple.{promise-agrees, pulse-agrees, emission-agrees, view-agrees, heard-agrees}
use Rattle.sat_model.proofs.Gathering.{fresh-agrees, stable-agrees, ready-agrees, cut-agrees}
use Rattle.sat_model.proofs.Windows.{Window, window-agrees}
use Rattle.sat_model.proofs.Pools.{waiting-agrees}
use Rattle.sat_model.proofs.Stores.{store-agrees}
use Rattle.sat_model.proofs.Beating.{Taken, made-agrees, taken-agrees, best-agrees}
use Rattle.sat_model.proofs.Raising.{mode-agrees, last-agrees}
use Rattle.sat_model.specs.Parts.{valued, valued_version}

-- the outlook of a site in D's words
abbrev outlook_at : Deployed → List Entry → ℕ → Outlook
outlook_at d h j = record { stamp = in_stamp_mode d h j; view = view h j; last = last d h j; best = best d h j; waiting = waiting h j }

pub outlook-agrees : (d : Deployed) (h : List Entry) (j : ℕ) → IsValid d → IsRun d h → outlook_of d (site_state d h j) ≡ outlook_at d h j
outlook-agrees d h j v run = λ k. record {
  stamp = mode-agrees d h j run k;
  view = view-agrees d h j run k;
  last = λ i. last-agrees d h j i v run k;
  best = λ i. best-agrees d h j i v run k;
  waiting = waiting-agrees d h j v run k;
}

-- ---- one lemma an act

pub tick-reply : (d : Deployed) (h : List Entry) (i g t : ℕ) → IsRun d h → site_answer d i (site_state d h i) (given.Tick g t) ≡ answer d h (act.Tick i g t)
unfolding site_answer answer
tick-reply d h i g t run = ap (λ (p : ℕ). ans.Ticked (max p t)) (promise-agrees d h i g run)

seated-answer : (o : Option ℕ) (i : ℕ) (f : ℕ → Answer) → o ≡ Some i → at_seat o f ≡ f i
seated-answer o i f e = ap (λ (o : Option ℕ). at_seat o f) e

some-reply : (d : Deployed) (h : List Entry) (c : ℕ) (items : Items) (i : ℕ) (values : List (List ℕ)) → IsRun d h → seat d h c ≡ Some i → site_answer d i (site_state d h i) (given.Write (carrying h c) items values) ≡ at_seat (seat d h c) (λ i. write_at d h c items i)
unfolding site_answer write_at base
some-reply d h c items i values run e = ap (λ (p : ℕ). write_by d i items p (carried h c).ts) (promise-agrees d h i (gear_for d items) run) ∙ sym (seated-answer (seat d h c) i (λ i. write_at d h c items i) e)

pub write-reply : (d : Deployed) (h : List Entry) (c x i : ℕ) (value : List ℕ) → IsRun d h → seat d h c ≡ Some i → site_answer d i (site_state d h i) (given.Write (carrying h c) (One x) (value ∷ [])) ≡ answer d h (act.Write c x value)
unfolding answer
write-reply d h c x i value run e = some-reply d h c (One x) i (value ∷ []) run e

pub writes-reply : (d : Deployed) (h : List Entry) (c : ℕ) (items : Items) (i : ℕ) (values : List (List ℕ)) → IsRun d h → seat d h c ≡ Some i → site_answer d i (site_state d h i) (given.Write (carrying h c) items values) ≡ answer d h (act.Writes c items values)
unfolding answer
writes-reply d h c items i values run e = some-reply d h c items i values run e

pub read-reply : (d : Deployed) (h : List Entry) (c x i : ℕ) → IsValid d → IsRun d h → seat d h c ≡ Some i → site_answer d i (site_state d h i) (given.Read (carrying h c) x) ≡ answer d h (act.Read c x)
unfolding site_answer answer read_at
read-reply d h c x i v run e = ap (read_by d i x) (store-agrees d h i x v run) ∙ (go (version h i x) ∙ sym (seated-answer (seat d h c) i (λ i. read_at d h x i) e))
  where
    go : (o : Option Label) → read_by d i x (valued_version h x o) ≡ refused_if (not (replicates d x i)) why.NotHere (elim o [ None ↦ ans.ReadNone | Some l ↦ ans.ReadSome l (value_of h l x) ])
    go None = refl
    go (Some l) = refl

pub move-reply : (d : Deployed) (h : List Entry) (c j i : ℕ) → IsRun d h → seat d h c ≡ Some i → site_answer d i (site_state d h i) (given.Move (carrying h c) j) ≡ answer d h (act.Move c j)
unfolding site_answer answer move_from base
move-reply d h c j i run e = ap (λ (p : ℕ). move_by i j p (carried h c).ts) (promise-agrees d h i 0 run) ∙ sym (seated-answer (seat d h c) i (λ i. move_from h c j i) e)

pub attach-reply : (d : Deployed) (h : List Entry) (c j : ℕ) → IsValid d → IsRun d h → seat d h c ≡ None → site_answer d j (site_state d h j) (given.Attach (carrying h c)) ≡ answer d h (act.Attach c j)
unfolding site_answer answer attach_to may_attach
attach-reply d h c j v run e =
    ap (λ (o : Outlook). refused_if (not (may_come d o (carrying h c) j)) why.NotYet ans.Attached) (outlook-agrees d h j v run) ∙
    sym (ap (λ (o : Option ℕ). refused_if (is_some o) why.Joined (refused_if (not (may_come d (outlook_at d h j) (carrying h c) j)) why.NotYet ans.Attached)) e)

length-join : {X : Type 0} (xs ys : List X) → length (xs ++ ys) ≡ length xs + length ys
length-join [] ys = omega arith
length-join (x ∷ xs) ys = let k : length (xs ++ ys) ≡ length xs + length ys = length-join xs ys in omega arith

fresh-count : (h : List Entry) (i n : ℕ) (f : ℕ → List Label) → ((g : ℕ) → made h i g ≡ made (gathered h i) i g ++ f g) → length (made_to h i n) ≡ length (made_to (gathered h i) i n) + length (rows f n)
unfolding made_to rows
fresh-count h i zero f k = omega arith
fresh-count h i (suc n) f k =
    let a : length (made_to h i n) ≡ length (made_to (gathered h i) i n) + length (rows f n) = fresh-count h i n f k in
    let b : length (made_to h i n ++ made h i n) ≡ length (made_to h i n) + length (made h i n) = length-join (made_to h i n) (made h i n) in
    let c : length (made h i n) ≡ length (made (gathered h i) i n) + length (f n) = ap (λ (ls : List Label). length ls) (k n) ∙ length-join (made (gathered h i) i n) (f n) in
    let e : length (made_to (gathered h i) i n ++ made (gathered h i) i n) ≡ length (made_to (gathered h i) i n) + length (made (gathered h i) i n) = length-join (made_to (gathered h i) i n) (made (gathered h i) i n) in
    let q : length (rows f n ++ f n) ≡ length (rows f n) + length (f n) = length-join (rows f n) (f n) in
    omega arith

promise-rows : (p : ℕ → ℕ) (h : List Entry) (i n : ℕ) → ((g : ℕ) → p g ≡ promise h i g) → least_row p n ≡ least_promise h i n
unfolding least_row least_promise
promise-rows p h i zero k = refl
promise-rows p h i (suc zero) k = k 0
promise-rows p h i (suc (suc n)) k = ap (λ (m : ℕ). Rattle.std.specs.Prelude.min m (p (suc n))) (promise-rows p h i (suc n) k) ∙ ap (λ (m : ℕ). Rattle.std.specs.Prelude.min (least_promise h i (suc n)) m) (k (suc n))

pub gather-reply : (d : Deployed) (h : List Entry) (i : ℕ) → IsRun d h → site_answer d i (site_state d h i) given.Gather ≡ answer d h (act.Gather i)
unfolding site_answer answer gather_of
gather-reply d h i run =
    let s : SiteState = site_state d h i in
    let n : length (rows (λ g. (s.gears g).fresh) d.gears) ≡ length (made_to h i d.gears) - length (made_to (gathered h i) i d.gears) =
    (let k : length (made_to h i d.gears) ≡ length (made_to (gathered h i) i d.gears) + length (rows (λ g. (s.gears g).fresh) d.gears) = fresh-count h i d.gears (λ g. (s.gears g).fresh) (λ g. fresh-agrees d h i g run) in omega arith) in
    ap (λ (m : ℕ). ans.Gathered m (least_row (λ g. (s.gears g).promise) d.gears)) n ∙
    ap (λ (t : ℕ). ans.Gathered (length (made_to h i d.gears) - length (made_to (gathered h i) i d.gears)) t) (promise-rows (λ g. (s.gears g).promise) h i d.gears (λ g. promise-agrees d h i g run))

pub emit-reply : (d : Deployed) (h : List Entry) (i : ℕ) → IsValid d → IsRun d h → site_answer d i (site_state d h i) given.Emit ≡ answer d h (act.Emit i)
unfolding site_answer answer emit_of
emit-reply d h i v run = ap (λ (o : Option Label). elim o [ None ↦ ans.Refused why.Idle | Some l ↦ ans.Emitted l ]) (ready-agrees d h i v run)

abbrev pulse_by : ℕ → Option Label → ℕ → ℕ → Answer
pulse_by i o t p = refused_if (is_some o || nat_le t p) why.Idle (ans.Pulsed (record { point = point_at t i 65534; kind = kind.Pulse }))

pub pulse-reply : (d : Deployed) (h : List Entry) (i : ℕ) → IsValid d → IsRun d h → site_answer d i (site_state d h i) given.Pulse ≡ answer d h (act.Pulse i)
unfolding site_answer answer pulse_of
pulse-reply d h i v run =
    let s : SiteState = site_state d h i in
    ap (λ (o : Option Label). pulse_by i o (stable_of d s) s.sink.pulse) (ready-agrees d h i v run) ∙
    (ap (λ (t : ℕ). pulse_by i (ready d h i) t s.sink.pulse) (stable-agrees d h i run) ∙ ap (λ (p : ℕ). pulse_by i (ready d h i) (stable d h i) p) (pulse-agrees d h i run))

abbrev turn_by : Bool → Option Label → List Label → Answer
turn_by m o w = refused_if m why.StampOrder (elim o [ None ↦ ans.Refused why.Empty | Some l ↦ turned w l ])

pub turn-reply : (d : Deployed) (h : List Entry) (j : ℕ) → IsValid d → IsRun d h → site_answer d j (site_state d h j) (given.Turn (turn_front d h j)) ≡ answer d h (act.Turn j)
unfolding site_answer answer turn_of turn_front
turn-reply d h j v run =
    let s : SiteState = site_state d h j in
    ap (λ (m : Bool). turn_by m (turn_front d h j) (waiting_of s)) (mode-agrees d h j run) ∙ (ap (turn_by (in_stamp_mode d h j) (turn_front d h j)) (waiting-agrees d h j v run) ∙ tree (tree_of d (view h j)))
  where
    nodes : (t : TreeShape) (o : Option NodeId) → turn_by (in_stamp_mode d h j) (elim o [ None ↦ None | Some z ↦ link_front d h (view h j) t z (Site j) ]) (waiting h j) ≡
        refused_if (in_stamp_mode d h j) why.StampOrder (elim o [ None ↦ ans.Refused why.Empty | Some z ↦ elim (link_front d h (view h j) t z (Site j)) [ None ↦ ans.Refused why.Empty | Some l ↦ turned (waiting h j) l ] ])
    nodes t None = refl
    nodes t (Some z) = refl

    tree : (o : Option TreeShape) → turn_by (in_stamp_mode d h j) (elim o [ None ↦ None | Some t ↦ elim (seat_in d (view h j) j) [ None ↦ None | Some z ↦ link_front d h (view h j) t z (Site j) ] ]) (waiting h j) ≡
        refused_if (in_stamp_mode d h j) why.StampOrder (elim o [
          | None ↦ ans.Refused why.Empty
          | Some t ↦ elim (seat_in d (view h j) j) [ None ↦ ans.Refused why.Empty | Some z ↦ elim (link_front d h (view h j) t z (Site j)) [ None ↦ ans.Refused why.Empty | Some l ↦ turned (waiting h j) l ] ]
        ])
    tree None = refl
    tree (Some t) = nodes t (seat_in d (view h j) j)

pub bulk-reply : (d : Deployed) (h : List Entry) (i g j : ℕ) (o : Option ℕ) (l : Label) → IsValid d → IsRun d h → slice_get (lane d h i g j) (given_number d h i g j o) ≡ Some l →
    site_answer d j (site_state d h j) (given.Bulk i g (given_number d h i g j o) (valued h l)) ≡ answer d h (act.Bulk i g j o)
unfolding site_answer answer bulk_to bring
bulk-reply d h i g j o l v run e =
    let w : Window d h i g j ((site_state d h j).proxy.taken i g) = window-agrees d h i g j v run in
    ap (λ (b : Bool). if b then ans.Again else ans.Brought l) (w.known (given_number d h i g j o) l e) ∙ (sym (ap (λ (x : Option Label). elim x [ None ↦ ans.Refused why.NoSuch | Some l ↦ if has label_eq (brought h j) l then ans.Again else ans.Brought l ]) e) ∙ go o)
  where
    go : (o : Option ℕ) → elim (slice_get (lane d h i g j) (given_number d h i g j o)) [ None ↦ ans.Refused why.NoSuch | Some l ↦ if has label_eq (brought h j) l then ans.Again else ans.Brought l ] ≡ bulk_to d h i g j o
    go None = refl
    go (Some n) = refl

pub beat-reply : (d : Deployed) (h : List Entry) (i j : ℕ) → IsValid d → IsRun d h → site_answer d i (site_state d h i) (given.Beat j) ≡ answer d h (act.Beat i j)
unfolding site_answer answer beat_to
beat-reply d h i j v run = ap (λ (bs : List BeatNote). ans.Beat (length bs)) (made-agrees d h i j v run)

abbrev beat_by : Option (ℕ × BeatNote) → List ℕ → ℕ → Answer
beat_by o ns n = elim o [
  | None ↦ if has ◌==◌ ns n then ans.Again else ans.Taken
  | Some b ↦ if nat_le n b.0 then ans.Old else (if has ◌==◌ ns n then ans.Again else ans.Taken)
]

pub beat-in-reply : (d : Deployed) (h : List Entry) (i j n : ℕ) (note : BeatNote) → IsValid d → IsRun d h → slice_get (beats d h i j) n ≡ Some note → site_answer d j (site_state d h j) (given.BeatIn i n note) ≡ answer d h (act.BeatIn i j n)
unfolding site_answer answer beat_in_to
beat-in-reply d h i j n note v run e =
    let s : SiteState = site_state d h j in
    let k : Taken d h i j (s.proxy.beats i) = taken-agrees d h i j run in
    ap (λ (o : Option (ℕ × BeatNote)). beat_by o (numbers_of s i) n) (best-agrees d h j i v run) ∙ (ap (λ (ns : List ℕ). beat_by (best d h j i) ns n) k.numbers ∙
    sym (ap (λ (b : Bool). refused_if b why.NoSuch (beat_by (best d h j i) (beats_taken h i j) n)) (inside (length (beats d h i j)) n (get-below (beats d h i j) n note e))))
  where
    inside : (m n : ℕ) → n < m → nat_le m n ≡ false
    inside m n l = grind (arith, nat_tests)

pub stamp-reply : (d : Deployed) (h : List Entry) (j : ℕ) → IsValid d → IsRun d h → site_answer d j (site_state d h j) given.Stamp ≡ answer d h (act.Stamp j)
unfolding site_answer answer stamp_of next_stamp candidate is_past
stamp-reply d h j v run =
    ap (λ (o : Outlook). refused_if (not o.stamp) why.TreeOrder (elim (stamp_next d o j) [ None ↦ ans.Refused why.NotYet | Some l ↦ ans.Shown l ])) (outlook-agrees d h j v run)

abbrev close_by : Deployed → ℕ → ℕ → Point → Answer
close_by d e w p = refused_if (e == length d.plans) why.NoNextEpoch (refused_if (e == w + 1) why.Behind (ans.Closed e p))

pub close-reply : (d : Deployed) (h : List Entry) (i : ℕ) → IsValid d → IsRun d h → site_answer d i (site_state d h i) given.Close ≡ answer d h (act.Close i)
unfolding site_answer answer close_of
close-reply d h i v run =
    let s : SiteState = site_state d h i in
    ap (λ (e : ℕ). close_by d e s.views.view (cut_of d i s)) (emission-agrees d h i run) ∙ (ap (λ (w : ℕ). close_by d (emission h i) w (cut_of d i s)) (view-agrees d h i run) ∙ ap (close_by d (emission h i) (view h i)) (cut-agrees d h i v run))

abbrev fall_by : Bool → ℕ → ℕ → Answer
fall_by m e w = refused_if m why.StampOrder (refused_if (e == w) why.NotClosed ans.Fallen)

pub fall-reply : (d : Deployed) (h : List Entry) (j : ℕ) → IsRun d h → site_answer d j (site_state d h j) given.Fall ≡ answer d h (act.Fall j)
unfolding site_answer answer fall_of
fall-reply d h j run =
    let s : SiteState = site_state d h j in
    ap (λ (m : Bool). fall_by m s.views.emission s.views.view) (mode-agrees d h j run) ∙ (ap (λ (e : ℕ). fall_by (in_stamp_mode d h j) e s.views.view) (emission-agrees d h j run) ∙ ap (fall_by (in_stamp_mode d h j) (emission h j)) (view-agrees d h j run))

abbrev advance_by : Deployed → ℕ → ℕ → ℕ → Outlook → (ℕ → ℕ → Bool) → Answer
advance_by d j e w o heard = refused_if (e == w) why.NotClosed (refused_if (not (may_pass d o heard j)) why.NotYet (ans.View (w + 1)))

pub advance-reply : (d : Deployed) (h : List Entry) (j : ℕ) → IsValid d → IsRun d h → site_answer d j (site_state d h j) given.Advance ≡ answer d h (act.Advance j)
unfolding site_answer answer advance_of may_advance
advance-reply d h j v run =
    let s : SiteState = site_state d h j in
    let heard : s.views.heard ≡ took_close h j = λ k i e. heard-agrees d h j i e run k in
    ap (λ (e : ℕ). advance_by d j e s.views.view (outlook_of d s) s.views.heard) (emission-agrees d h j run) ∙
    (ap (λ (w : ℕ). advance_by d j (emission h j) w (outlook_of d s) s.views.heard) (view-agrees d h j run) ∙
    (ap (λ (o : Outlook). advance_by d j (emission h j) (view h j) o s.views.heard) (outlook-agrees d h j v run) ∙
    ap (advance_by d j (emission h j) (view h j) (outlook_at d h j)) heard))
