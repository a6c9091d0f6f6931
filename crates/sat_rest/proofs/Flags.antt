-- What a history says doesn't depend on the flags of its entries.
use Rattle.std.specs.Prelude.{◌≡◌, ℕ, zero, suc, ◌+◌, ◌-◌, Bool, true, false, ◌&&◌, ◌||◌, not, ◌==◌, nat_le, min, max, List, [], ◌∷◌, ◌++◌, length, filter, Option, Some, None, is_some, slice_get, if◌then◌else◌, refl}
use Rattle.std.specs.List.{list_all, list_any, prefix_len}
use Rattle.std.proofs.Common.{ap, ◌∙◌}
use Rattle.sat_label.specs.declared.point.Point.{Point}
use Rattle.sat_label.specs.declared.items.Items.{Items}
use Rattle.sat_label.specs.declared.items.Items.TheVariants.{One}
use Rattle.sat_label.specs.declared.label.Kind.TheVariants as kind
use Rattle.sat_label.specs.declared.label.Label.{Label}
use Rattle.sat_label.specs.declared.limits.TheConstants.{PULSE_GEAR, TS_END}
use Rattle.sat_label.specs.declared.node.NodeId.{NodeId}
use Rattle.sat_label.specs.declared.node.NodeId.TheVariants.{Site, Serializer}
use Rattle.sat_label.specs.Least.{least_label}
use Rattle.sat_label.specs.Order.{point_at, mark, zero_point, point_le, greater_point, label_eq, node_eq}
use Rattle.sat_label.specs.Words.{below, has}
use Rattle.sat_tree.specs.Shape.{TreeShape}
use Rattle.sat_tree.specs.Cut.{neighbours}
use Rattle.sat_act.specs.declared.act.Act.{Act}
use Rattle.sat_act.specs.declared.act.Act.TheVariants as act
use Rattle.sat_act.specs.declared.answer.Answer.{Answer}
use Rattle.sat_act.specs.declared.answer.Answer.TheVariants as ans
use Rattle.sat_act.specs.declared.answer.Refusal.TheVariants as why
use Rattle.sat_act.specs.declared.entry.Entry.{Entry}
use Rattle.sat_act.specs.Deployed.{Deployed}
use Rattle.sat_act.specs.Histories.{listed, latest, up_to, highest}
use Rattle.sat_act.specs.Done.{is_at, is_gather, is_beat, beat_in, is_kill}
use Rattle.sat_label.specs.Grouped.{least_item, list_of}
use Rattle.sat_act.specs.Parts.{BeatNote, Handling, replicates, keeps_all, items_of, values_entry, value_for, tree_of, made, made_entry, promise, promise_entry, gathered, least_promise, stable, made_to, sent, sent_entry, pending, is_stable, ready, sent_point, last_sent, cut, pulse_entry, last_pulse, close_cut_of_entry, closed_epoch_of_entry, emission, close_cut, view_entry, view, fallen_entry, fallen, in_stamp_mode, seat_in, handling, goes_beyond, is_put, is_taken, entered, entered_entry, taken, taken_entry, link_front, killed, shown_entry, shown, greatest_label, is_update_of, version, values_of, lane_entry, lane, brought_entry, brought, lane_front, waiting, note_for, beat_entry, beats, beats_taken, is_complete, best_below, best, home, seat_entry, seat, moving_entry, moving, carried_entry, carried, known_by, last_entry, last, all_others, best_passes, reaches, may_attach, closed_below, is_past, candidate, passed_ts, passed_label, next_stamp}
use Rattle.sat_act.specs.Answers.{answer, refused_if, gear_of, base, write_at, read_at, move_from, at_seat, attach_to, gather_of, emit_of, pulse_of, hop_to, turned, turn_of, bring, bulk_to, beat_to, beat_in_to, stamp_of, close_of, fall_of, takes_close, took_close, is_drained, may_advance, advance_of, greatest_promise}
use Rattle.sat_rest.specs.Flags.{unflagged, without_flags}

-- ---- the recursions

pub listed-free : {X : Type 0} (f : List Entry → Entry → Option X) → ((h : List Entry) (e : Entry) → f (without_flags h) (unflagged e) ≡ f h e) → (h : List Entry) → listed f (without_flags h) ≡ listed f h
unfolding listed
listed-free f k [] = refl
listed-free f k (e ∷ h) = λ p. listed-free f k h p ++ elim (k h e p) [ None ↦ [] | Some x ↦ x ∷ [] ]

latest-free : {X : Type 0} (f : List Entry → Entry → Option X) (x : X) → ((h : List Entry) (e : Entry) → f (without_flags h) (unflagged e) ≡ f h e) → (h : List Entry) → latest f x (without_flags h) ≡ latest f x h
unfolding latest
latest-free f x k [] = refl
latest-free f x k (e ∷ h) = λ p. elim (k h e p) [ None ↦ latest-free f x k h p | Some y ↦ y ]

highest-free : (f : List Entry → Entry → Option Point) (q : Point) → ((h : List Entry) (e : Entry) → f (without_flags h) (unflagged e) ≡ f h e) → (h : List Entry) → highest f q (without_flags h) ≡ highest f q h
unfolding highest
highest-free f q k [] = refl
highest-free f q k (e ∷ h) = λ p. elim (k h e p) [ None ↦ highest-free f q k h p | Some r ↦ greater_point r (highest-free f q k h p) ]

-- ---- gears and sinks

made-free : (h : List Entry) (i g : ℕ) → made (without_flags h) i g ≡ made h i g
unfolding made
made-free h i g = listed-free (made_entry i g) (λ h e. refl) h

promise-free : (h : List Entry) (i g : ℕ) → promise (without_flags h) i g ≡ promise h i g
unfolding promise
promise-free h i g = latest-free (promise_entry i g) 0 (λ h e. refl) h

gathered-free : (h : List Entry) (i : ℕ) → gathered (without_flags h) i ≡ without_flags (gathered h i)
unfolding gathered up_to
gathered-free [] i = refl
gathered-free (e ∷ h) i = go (is_gather e.act i) (gathered-free h i)
  where
    go : (b : Bool) → gathered (without_flags h) i ≡ without_flags (gathered h i) → elim b [ true ↦ without_flags (e ∷ h) | false ↦ gathered (without_flags h) i ] ≡ without_flags (elim b [ true ↦ e ∷ h | false ↦ gathered h i ])
    go true k = refl
    go false k = k

least_promise-free : (h : List Entry) (i n : ℕ) → least_promise (without_flags h) i n ≡ least_promise h i n
unfolding least_promise
least_promise-free h i zero = refl
least_promise-free h i (suc zero) = promise-free h i 0
least_promise-free h i (suc (suc n)) = λ p. min (least_promise-free h i (suc n) p) (promise-free h i (suc n) p)

gathered-least : (h : List Entry) (i n : ℕ) → least_promise (gathered (without_flags h) i) i n ≡ least_promise (gathered h i) i n
gathered-least h i n = ap (λ (k : List Entry). least_promise k i n) (gathered-free h i) ∙ least_promise-free (gathered h i) i n

stable-free : (d : Deployed) (h : List Entry) (i : ℕ) → stable d (without_flags h) i ≡ stable d h i
unfolding stable
stable-free d h i = gathered-least h i d.gears

made_to-free : (h : List Entry) (i n : ℕ) → made_to (without_flags h) i n ≡ made_to h i n
unfolding made_to
made_to-free h i zero = refl
made_to-free h i (suc n) = λ p. made_to-free h i n p ++ made-free h i n p

gathered-made : (h : List Entry) (i n : ℕ) → made_to (gathered (without_flags h) i) i n ≡ made_to (gathered h i) i n
gathered-made h i n = ap (λ (k : List Entry). made_to k i n) (gathered-free h i) ∙ made_to-free (gathered h i) i n

sent-free : (h : List Entry) (i : ℕ) → sent (without_flags h) i ≡ sent h i
unfolding sent
sent-free h i = listed-free (sent_entry i) (λ h e. refl) h

pub pending-free : (d : Deployed) (h : List Entry) (i : ℕ) → pending d (without_flags h) i ≡ pending d h i
unfolding pending
pending-free d h i = λ p. filter (λ l. not (has label_eq (sent-free h i p) l)) (gathered-made h i d.gears p)

ready-free : (d : Deployed) (h : List Entry) (i : ℕ) → ready d (without_flags h) i ≡ ready d h i
unfolding ready is_stable
ready-free d h i = λ p. least_label (λ l. nat_le l.point.ts (stable-free d h i p)) (pending-free d h i p)

last_sent-free : (h : List Entry) (i : ℕ) → last_sent (without_flags h) i ≡ last_sent h i
unfolding last_sent
last_sent-free h i = latest-free (sent_point i) (point_at 0 i 0) (λ h e. refl) h

cut-free : (d : Deployed) (h : List Entry) (i : ℕ) → cut d (without_flags h) i ≡ cut d h i
unfolding cut
cut-free d h i = λ p. elim (ready-free d h i p) [ None ↦ mark (stable-free d h i p) i | Some least ↦ greater_point (last_sent-free h i p) (mark (least.point.ts - 1) i) ]

last_pulse-free : (h : List Entry) (i : ℕ) → last_pulse (without_flags h) i ≡ last_pulse h i
unfolding last_pulse
last_pulse-free h i = latest-free (pulse_entry i) 0 (λ h e. refl) h

-- ---- epochs

emission-free : (h : List Entry) (i : ℕ) → emission (without_flags h) i ≡ emission h i
unfolding emission
emission-free h i = λ p. 1 + length (listed-free (closed_epoch_of_entry i) (λ h e. refl) h p)

close_cut-free : (h : List Entry) (i e : ℕ) → close_cut (without_flags h) i e ≡ close_cut h i e
unfolding close_cut
close_cut-free h i e = latest-free (close_cut_of_entry i e) None (λ h e. refl) h

pub view-free : (h : List Entry) (j : ℕ) → view (without_flags h) j ≡ view h j
unfolding view
view-free h j = λ p. 1 + length (listed-free (view_entry j) (λ h e. refl) h p)

fallen-free : (h : List Entry) (j : ℕ) → fallen (without_flags h) j ≡ fallen h j
unfolding fallen
fallen-free h j = latest-free (fallen_entry j) false (λ h e. refl) h

mode-free : (d : Deployed) (h : List Entry) (j : ℕ) → in_stamp_mode d (without_flags h) j ≡ in_stamp_mode d h j
unfolding in_stamp_mode
mode-free d h j = λ p. elim (tree_of d (view-free h j p)) [ None ↦ true | Some t ↦ fallen-free h j p ]

-- ---- links

handled_by : Deployed → (ℕ → ℕ) → (ℕ → ℕ) → Entry → Option Handling
handled_by d emission view e =
    elim e.answer [
      | ans.Emitted l ↦ elim e.act [ act.Emit i ↦ Some (record { epoch = emission i; node = Site i; from = None; label = l }) | _ ↦ None ]
      | ans.Pulsed l ↦ elim e.act [ act.Pulse i ↦ Some (record { epoch = emission i; node = Site i; from = None; label = l }) | _ ↦ None ]
      | ans.Closed f q ↦ elim e.act [ act.Close i ↦ Some (record { epoch = f; node = Site i; from = None; label = record { point = q; kind = kind.Close f } }) | _ ↦ None ]
      | ans.Hopped l to ↦ elim e.act [ act.Hop f u z ↦ Some (record { epoch = f; node = Serializer z; from = Some u; label = l }) | _ ↦ None ]
      | ans.Shown l ↦ elim e.act [ act.Turn j ↦ Some (record { epoch = view j; node = Site j; from = seat_in d (view j) j; label = l }) | _ ↦ None ]
      | ans.Took l ↦ elim e.act [ act.Turn j ↦ Some (record { epoch = view j; node = Site j; from = seat_in d (view j) j; label = l }) | _ ↦ None ]
      | _ ↦ None
    ]

pub handling-free : (d : Deployed) (h : List Entry) (e : Entry) → handling d (without_flags h) (unflagged e) ≡ handling d h e
unfolding handling handled_by
handling-free d h e = λ p. handled_by d (λ i. emission-free h i p) (λ j. view-free h j p) e

entered-free : (d : Deployed) (h : List Entry) (e : ℕ) (t : TreeShape) (u v : NodeId) → entered d (without_flags h) e t u v ≡ entered d h e t u v
unfolding entered
entered-free d h e t u v =
    listed-free (entered_entry d e t u v) (λ h x p. elim (handling-free d h x p) [ None ↦ None | Some y ↦ if is_put d e t u v y then Some y.label else None ]) h

taken-free : (d : Deployed) (h : List Entry) (e : ℕ) (u v : NodeId) → taken d (without_flags h) e u v ≡ taken d h e u v
unfolding taken
taken-free d h e u v =
    ap length (listed-free (taken_entry d e u v) (λ h x p. elim (handling-free d h x p) [ None ↦ None | Some y ↦ if is_taken e u v y then Some y.label else None ]) h)

link_front-free : (d : Deployed) (h : List Entry) (e : ℕ) (t : TreeShape) (u v : NodeId) → link_front d (without_flags h) e t u v ≡ link_front d h e t u v
unfolding link_front
link_front-free d h e t u v = λ p. slice_get (entered-free d h e t u v p) (taken-free d h e u v p)

killed-free : (h : List Entry) (e z : ℕ) → killed (without_flags h) e z ≡ killed h e z
unfolding killed
killed-free h e z = latest-free (λ before x. elim x.answer [ ans.Killed ↦ if is_kill x.act e z then Some true else None | _ ↦ None ]) false (λ h x. refl) h

-- ---- stores and lanes

pub shown-free : (h : List Entry) (j : ℕ) → shown (without_flags h) j ≡ shown h j
unfolding shown
shown-free h j = listed-free (shown_entry j) (λ h e. refl) h

version-free : (h : List Entry) (j x : ℕ) → version (without_flags h) j x ≡ version h j x
unfolding version
version-free h j x = ap (greatest_label (λ l. is_update_of l.kind x)) (shown-free h j)

values-free : (h : List Entry) (l : Label) → values_of (without_flags h) l ≡ values_of h l
unfolding values_of
values-free h l = latest-free {X = List (List ℕ)} (values_entry l) [] (λ h e. refl) h

lane-free : (d : Deployed) (h : List Entry) (i g j : ℕ) → lane d (without_flags h) i g j ≡ lane d h i g j
unfolding lane
lane-free d h i g j = listed-free (lane_entry d i g j) (λ h e. refl) h

gathered-lane : (d : Deployed) (h : List Entry) (i g j : ℕ) → lane d (gathered (without_flags h) i) i g j ≡ lane d (gathered h i) i g j
gathered-lane d h i g j = ap (λ (k : List Entry). lane d k i g j) (gathered-free h i) ∙ lane-free d (gathered h i) i g j

pub brought-free : (h : List Entry) (j : ℕ) → brought (without_flags h) j ≡ brought h j
unfolding brought
brought-free h j = listed-free (brought_entry j) (λ h e. refl) h

lane_front-free : (d : Deployed) (h : List Entry) (i g j : ℕ) → lane_front d (without_flags h) i g j ≡ lane_front d h i g j
unfolding lane_front
lane_front-free d h i g j = λ p. prefix_len (λ l. has label_eq (brought-free h j p) l) (lane-free d h i g j p)

waiting-free : (h : List Entry) (j : ℕ) → waiting (without_flags h) j ≡ waiting h j
unfolding waiting
waiting-free h j = λ p. filter (λ l. not (has label_eq (shown-free h j p) l)) (brought-free h j p)

-- ---- beats

note-free : (d : Deployed) (h : List Entry) (i j : ℕ) → note_for d (without_flags h) i j ≡ note_for d h i j
note-free d h i j = λ p. record { cut = cut-free d h i p; closes = λ e. close_cut-free h i e p; counts = λ g. length (gathered-lane d h i g j p) }

pub beats-free : (d : Deployed) (h : List Entry) (i j : ℕ) → beats d (without_flags h) i j ≡ beats d h i j
unfolding beats
beats-free d h i j =
    listed-free (beat_entry d i j) (λ h e p. elim e.answer [ ans.Beat n ↦ if is_beat e.act i j then Some (note-free d h i j p) else None | _ ↦ None ]) h

beats_taken-free : (h : List Entry) (i j : ℕ) → beats_taken (without_flags h) i j ≡ beats_taken h i j
unfolding beats_taken
beats_taken-free h i j = listed-free (λ before e. elim e.answer [ ans.Taken ↦ beat_in e.act i j | _ ↦ None ]) (λ h e. refl) h

complete-free : (d : Deployed) (h : List Entry) (i j : ℕ) (note : BeatNote) → is_complete d (without_flags h) i j note ≡ is_complete d h i j note
unfolding is_complete
complete-free d h i j note = λ p. list_all (λ g. nat_le (note.counts g) (lane_front-free d h i g j p)) (below d.gears)

best_below-free : (d : Deployed) (h : List Entry) (i j : ℕ) (notes : List BeatNote) (n : ℕ) → best_below d (without_flags h) i j notes n ≡ best_below d h i j notes n
unfolding best_below
best_below-free d h i j notes zero = refl
best_below-free d h i j notes (suc n) = λ p.
    elim (has ◌==◌ (beats_taken-free h i j p) n) [
      | false ↦ best_below-free d h i j notes n p
      | true ↦ elim (slice_get notes n) [
        | None ↦ best_below-free d h i j notes n p
        | Some note ↦ elim (complete-free d h i j note p) [ true ↦ Some (n, note) | false ↦ best_below-free d h i j notes n p ]
      ]
    ]

best-free : (d : Deployed) (h : List Entry) (j i : ℕ) → best d (without_flags h) j i ≡ best d h j i
unfolding best
best-free d h j i = ap (λ (notes : List BeatNote). best_below d (without_flags h) i j notes (length notes)) (beats-free d h i j) ∙ best_below-free d h i j (beats d h i j) (length (beats d h i j))

-- ---- clients

seat-free : (d : Deployed) (h : List Entry) (c : ℕ) → seat d (without_flags h) c ≡ seat d h c
unfolding seat
seat-free d h c = latest-free (seat_entry c) (home d c) (λ h e. refl) h

moving-free : (h : List Entry) (c : ℕ) → moving (without_flags h) c ≡ moving h c
unfolding moving
moving-free h c = latest-free (moving_entry c) None (λ h e. refl) h

carried-free : (h : List Entry) (c : ℕ) → carried (without_flags h) c ≡ carried h c
unfolding carried
carried-free h c = highest-free (carried_entry c) zero_point (λ h e. refl) h

last-free : (d : Deployed) (h : List Entry) (j i : ℕ) → last d (without_flags h) j i ≡ last d h j i
unfolding last
last-free d h j i =
    highest-free (last_entry d j i) (point_at 0 i 0)
    (λ h e p. elim e.answer [
      | ans.Shown l ↦ elim e.act [ act.Turn k ↦ if (k == j) && (l.point.site == i) then Some (known_by l) else None | _ ↦ None ]
      | ans.Took l ↦ if is_at e.act j && (l.point.site == i) then Some (known_by l) else None
      | ans.View v ↦ if is_at e.act j && mode-free d h j p then (ap (close_cut (without_flags h) i) (view-free h j) ∙ close_cut-free h i (view h j)) p else None
      | _ ↦ None
    ]) h

attach-free : (d : Deployed) (h : List Entry) (c j : ℕ) → may_attach d (without_flags h) c j ≡ may_attach d h c j
unfolding may_attach
attach-free d h c j = λ p.
    point_le (carried-free h c p) zero_point
    || (elim (moving-free h c p) [ None ↦ false | Some k ↦ (k == j) && point_le (carried-free h c p) ((ap (λ (q : Point). last d (without_flags h) j q.site) (carried-free h c) ∙ last-free d h j (carried h c).site) p) ]
    || (all_others d j (λ i. point_le (mark (carried-free h c p).ts i) (last-free d h j i p))
    || ((mode-free d h j p && all_others d j (λ i. best_passes (best-free d h j i p) (reaches (view-free h j p) (carried-free h c p).ts i)))
    && not (list_any (λ l. nat_le l.point.ts (carried-free h c p).ts) (waiting-free h j p)))))

-- ---- stamp order

past-free : (d : Deployed) (h : List Entry) (j : ℕ) (l : Label) → is_past d (without_flags h) j l ≡ is_past d h j l
unfolding is_past
past-free d h j l = λ p. best_passes (best-free d h j l.point.site p) (closed_below (view-free h j p) l)

candidate-free : (d : Deployed) (h : List Entry) (j : ℕ) → candidate d (without_flags h) j ≡ candidate d h j
unfolding candidate
candidate-free d h j = λ p. least_label (λ l. not (past-free d h j l p)) (waiting-free h j p)

passed-free : (d : Deployed) (h : List Entry) (j : ℕ) (l : Label) →
    (all_others d j (λ i. best_passes (best d (without_flags h) j i) (passed_ts (view (without_flags h) j) l.point.ts i)) && best_passes (best d (without_flags h) j l.point.site) (passed_label (view (without_flags h) j) l))
    ≡ (all_others d j (λ i. best_passes (best d h j i) (passed_ts (view h j) l.point.ts i)) && best_passes (best d h j l.point.site) (passed_label (view h j) l))
passed-free d h j l = λ p.
    all_others d j (λ i. best_passes (best-free d h j i p) (passed_ts (view-free h j p) l.point.ts i)) && best_passes (best-free d h j l.point.site p) (passed_label (view-free h j p) l)

stamp-free : (d : Deployed) (h : List Entry) (j : ℕ) → next_stamp d (without_flags h) j ≡ next_stamp d h j
unfolding next_stamp
stamp-free d h j = λ p. elim (candidate-free d h j p) [ None ↦ None | Some l ↦ if passed-free d h j l p then Some l else None ]

-- ---- advances

took_close-free : (h : List Entry) (j i e : ℕ) → took_close (without_flags h) j i e ≡ took_close h j i e
unfolding took_close
took_close-free [] j i e = refl
took_close-free (x ∷ h) j i e = ap (λ (b : Bool). takes_close x j i e || b) (took_close-free h j i e)

advance-free : (d : Deployed) (h : List Entry) (j : ℕ) → may_advance d (without_flags h) j ≡ may_advance d h j
unfolding may_advance
advance-free d h j = λ p.
    if mode-free d h j p
    then all_others d j (λ i. best_passes (best-free d h j i p) (is_drained (view-free h j p) (waiting-free h j p) i))
    else all_others d j (λ i. (ap (took_close (without_flags h) j i) (view-free h j) ∙ took_close-free h j i (view h j)) p)

-- ---- the answer

base-free : (h : List Entry) (c i g : ℕ) → base (without_flags h) c i g ≡ base h c i g
unfolding base
base-free h c i g = λ p. max (promise-free h i g p) (carried-free h c p).ts

write-free : (d : Deployed) (h : List Entry) (c : ℕ) (items : Items) (i : ℕ) → write_at d (without_flags h) c items i ≡ write_at d h c items i
unfolding write_at
write-free d h c items i =
    let g : ℕ = gear_of d (least_item (list_of items)) in
    ap (λ (ts : ℕ). refused_if (not (keeps_all d (list_of items) i)) why.NotHere (refused_if (nat_le TS_END ts) why.Spent (ans.Wrote (record { point = point_at (ts + 1) i g; kind = kind.Update items })))) (base-free h c i g)

read-free : (d : Deployed) (h : List Entry) (x i : ℕ) → read_at d (without_flags h) x i ≡ read_at d h x i
unfolding read_at
read-free d h x i = λ p. refused_if (not (replicates d x i)) why.NotHere (elim (version-free h i x p) [ None ↦ ans.ReadNone | Some l ↦ ans.ReadSome l (value_for (items_of l.kind) (values-free h l p) x) ])

move-free : (h : List Entry) (c j i : ℕ) → move_from (without_flags h) c j i ≡ move_from h c j i
unfolding move_from
move-free h c j i = ap (λ (ts : ℕ). refused_if (j == i) why.SameSite (refused_if (nat_le TS_END ts) why.Spent (ans.Moved (record { point = point_at (ts + 1) i 0; kind = kind.Move j })))) (base-free h c i 0)

hop-free : (d : Deployed) (h : List Entry) (e : ℕ) (u : NodeId) (z : ℕ) → hop_to d (without_flags h) e u z ≡ hop_to d h e u z
unfolding hop_to
hop-free d h e u z = λ p.
    refused_if (killed-free h e z p) why.Dead (
    elim (tree_of d e) [
      | None ↦ ans.Refused why.Empty
      | Some t ↦ elim (link_front-free d h e t u (Serializer z) p) [
        | None ↦ ans.Refused why.Empty
        | Some l ↦ ans.Hopped l (filter (λ v. not (node_eq u v) && goes_beyond d t (Serializer z) v l) (neighbours t z))
      ]
    ])

turn-free : (d : Deployed) (h : List Entry) (j : ℕ) → turn_of d (without_flags h) j ≡ turn_of d h j
unfolding turn_of
turn-free d h j = ap (λ (v : ℕ). turn_in (without_flags h) v) (view-free h j) ∙ at (view h j)
  where
    turn_in : List Entry → ℕ → Answer
    turn_in k v =
        refused_if (in_stamp_mode d k j) why.StampOrder (
        elim (tree_of d v) [
          | None ↦ ans.Refused why.Empty
          | Some t ↦ elim (seat_in d v j) [
            | None ↦ ans.Refused why.Empty
            | Some z ↦ elim (link_front d k v t z (Site j)) [
              | None ↦ ans.Refused why.Empty
              | Some l ↦ turned (waiting k j) l
            ]
          ]
        ])

    at : (v : ℕ) → turn_in (without_flags h) v ≡ turn_in h v
    at v = λ p.
        refused_if (mode-free d h j p) why.StampOrder (
        elim (tree_of d v) [
          | None ↦ ans.Refused why.Empty
          | Some t ↦ elim (seat_in d v j) [
            | None ↦ ans.Refused why.Empty
            | Some z ↦ elim (link_front-free d h v t z (Site j) p) [
              | None ↦ ans.Refused why.Empty
              | Some l ↦ turned (waiting-free h j p) l
            ]
          ]
        ])

bring-free : (d : Deployed) (h : List Entry) (i g j n : ℕ) → bring d (without_flags h) i g j n ≡ bring d h i g j n
unfolding bring
bring-free d h i g j n = λ p. elim (slice_get (lane-free d h i g j p) n) [ None ↦ ans.Refused why.NoSuch | Some l ↦ if has label_eq (brought-free h j p) l then ans.Again else ans.Brought l ]

bulk-free : (d : Deployed) (h : List Entry) (i g j : ℕ) (o : Option ℕ) → bulk_to d (without_flags h) i g j o ≡ bulk_to d h i g j o
unfolding bulk_to
bulk-free d h i g j None = ap (bring d (without_flags h) i g j) (lane_front-free d h i g j) ∙ bring-free d h i g j (lane_front d h i g j)
bulk-free d h i g j (Some n) = bring-free d h i g j n

beat-in-free : (d : Deployed) (h : List Entry) (i j n : ℕ) → beat_in_to d (without_flags h) i j n ≡ beat_in_to d h i j n
unfolding beat_in_to
beat-in-free d h i j n = λ p.
    refused_if (nat_le (length (beats-free d h i j p)) n) why.NoSuch (
    elim (best-free d h j i p) [
      | None ↦ if has ◌==◌ (beats_taken-free h i j p) n then ans.Again else ans.Taken
      | Some b ↦ if nat_le n b.0 then ans.Old else (if has ◌==◌ (beats_taken-free h i j p) n then ans.Again else ans.Taken)
    ])

greatest-free : (h : List Entry) (m n : ℕ) → greatest_promise (without_flags h) m n ≡ greatest_promise h m n
unfolding greatest_promise
greatest-free h m zero = refl
greatest-free h zero (suc n) = refl
greatest-free h (suc m) (suc n) = λ p. max (max (promise-free h m n p) (greatest-free h (suc m) n p)) (greatest-free h m (suc n) p)

-- the answer of each act
pub answer-free : (d : Deployed) (h : List Entry) (a : Act) → answer d (without_flags h) a ≡ answer d h a
unfolding answer attach_to gather_of emit_of pulse_of beat_to stamp_of close_of fall_of advance_of
answer-free d h (act.Tick i g ts) = λ p. ans.Ticked (max (promise-free h i g p) ts)
answer-free d h act.Clock = ap ans.Clocked (greatest-free h d.sites d.gears)
answer-free d h (act.Write c x value) = λ p. at_seat (seat-free d h c p) (λ i. write-free d h c (One x) i p)
answer-free d h (act.Writes c items values) = λ p. at_seat (seat-free d h c p) (λ i. write-free d h c items i p)
answer-free d h (act.Read c x) = λ p. at_seat (seat-free d h c p) (λ i. read-free d h x i p)
answer-free d h (act.Move c j) = λ p. at_seat (seat-free d h c p) (λ i. move-free h c j i p)
answer-free d h (act.Leave c) = λ p. at_seat (seat-free d h c p) (λ i. ans.Left (carried-free h c p))
answer-free d h (act.Attach c j) = λ p. refused_if (is_some (seat-free d h c p)) why.Joined (refused_if (not (attach-free d h c j p)) why.NotYet ans.Attached)
answer-free d h (act.Gather i) = λ p. ans.Gathered (length (made_to-free h i d.gears p) - length (gathered-made h i d.gears p)) (least_promise-free h i d.gears p)
answer-free d h (act.Emit i) = λ p. elim (ready-free d h i p) [ None ↦ ans.Refused why.Idle | Some l ↦ ans.Emitted l ]
answer-free d h (act.Pulse i) = λ p.
    refused_if (is_some (ready-free d h i p) || nat_le (stable-free d h i p) (last_pulse-free h i p)) why.Idle
    (ans.Pulsed (record { point = point_at (stable-free d h i p) i PULSE_GEAR; kind = kind.Pulse }))
answer-free d h (act.Hop e u z) = hop-free d h e u z
answer-free d h (act.Turn j) = turn-free d h j
answer-free d h (act.Bulk i g j n) = bulk-free d h i g j n
answer-free d h (act.Beat i j) = λ p. ans.Beat (length (beats-free d h i j p))
answer-free d h (act.BeatIn i j n) = beat-in-free d h i j n
answer-free d h (act.Stamp j) = λ p. refused_if (not (mode-free d h j p)) why.TreeOrder (elim (stamp-free d h j p) [ None ↦ ans.Refused why.NotYet | Some l ↦ ans.Shown l ])
answer-free d h (act.Close i) = λ p.
    refused_if (emission-free h i p == length d.plans) why.NoNextEpoch (refused_if (emission-free h i p == view-free h i p + 1) why.Behind (ans.Closed (emission-free h i p) (cut-free d h i p)))
answer-free d h (act.Fall j) = λ p. refused_if (mode-free d h j p) why.StampOrder (refused_if (emission-free h j p == view-free h j p) why.NotClosed ans.Fallen)
answer-free d h (act.Advance j) = λ p.
    refused_if (emission-free h j p == view-free h j p) why.NotClosed (refused_if (not (advance-free d h j p)) why.NotYet (ans.View (view-free h j p + 1)))
answer-free d h (act.Kill e z) = λ p. refused_if (killed-free h e z p) why.Already ans.Killed
answer-free d h act.Settle = refl
