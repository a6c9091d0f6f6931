-- The site that an act is an act at is the one that the model hands something, and an act that was refused early has none.
use Rattle.std.specs.Prelude.{◌≡◌, ℕ, zero, suc, Bool, true, false, ◌||◌, not, ◌==◌, nat_le, List, [], ◌∷◌, length, Option, Some, None, is_none, is_some, slice_get, if◌then◌else◌, refl}
use Rattle.std.proofs.Common.{◌+◌, arith, sym, ◌∙◌}
use Rattle.std.proofs.lemmas.Bool.Decides.{nat_tests}
use Rattle.sat_label.specs.declared.limits.TheConstants.{PULSE_GEAR, TS_END}
use Rattle.sat_label.specs.declared.label.Kind.TheVariants as kind
use Rattle.sat_label.specs.declared.node.NodeId.{NodeId}
use Rattle.sat_label.specs.declared.node.NodeId.TheVariants.{Site}
use Rattle.sat_label.specs.Order.{point_at}
use Rattle.sat_tree.specs.Shape.{TreeShape}
use Rattle.sat_label.specs.declared.label.Label.{Label}
use Rattle.sat_label.specs.declared.items.Items.{Items}
use Rattle.sat_label.specs.declared.items.Items.TheVariants.{One}
use Rattle.sat_label.specs.Grouped.{least_item, list_of}
use Rattle.sat_label.specs.Order.{label_eq}
use Rattle.sat_label.specs.Words.{has}
use Rattle.sat_act.specs.declared.act.Act.{Act}
use Rattle.sat_act.specs.declared.act.Act.TheVariants as act
use Rattle.sat_act.specs.declared.answer.Answer.{Answer}
use Rattle.sat_act.specs.declared.answer.Answer.TheVariants as ans
use Rattle.sat_act.specs.declared.answer.Refusal.{Refusal}
use Rattle.sat_act.specs.declared.answer.Refusal.TheVariants as why
use Rattle.sat_act.specs.declared.entry.Entry.{Entry}
use Rattle.sat_act.specs.Deployed.{Deployed}
use Rattle.sat_act.specs.Parts.{BeatNote, beats, beats_taken, best, brought, cut, emission, in_stamp_mode, is_update, keeps_all, lane, lane_front, last_pulse, link_front, may_attach, next_stamp, ready, replicates, seat, seat_in, stable, tree_of, value_of, version, view, waiting}
use Rattle.sat_act.specs.Answers.{answer, at_seat, base, gear_of, may_advance, refused_if, write_at, read_at, move_from, attach_to, gather_of, emit_of, pulse_of, turned, turn_of, bring, bulk_to, beat_to, beat_in_to, stamp_of, close_of, fall_of, advance_of}
use Rattle.sat_model.specs.Input.{SiteInput}
use Rattle.sat_model.specs.Input as given
use Rattle.sat_model.specs.Replay.{carrying, given_at, given_bulk, given_number, given_seat, handed}
use Rattle.sat_lasting_laws.specs.Reached.{is_at, is_early, is_nowhere, is_refused_early, is_site, site_at, unless_seated, where_some}
use Rattle.sat_lasting_laws.specs.LastingAnswers.{is_allowed}
use Rattle.sat_lasting_laws.specs.Goals.{HandedThere, ListedReach}

-- ---- what is handed

some-if : {X : Type 0} (b : Bool) (x : X) → is_some (if b then Some x else None) ≡ b
some-if true x = refl
some-if false x = refl

pub at-there : (k i : ℕ) (x : SiteInput) → is_some (given_at k i x) ≡ is_site i (Some k)
at-there k i x = some-if (k == i) x

seat-there : (o : Option ℕ) (i : ℕ) (x : SiteInput) → is_some (given_seat o i x) ≡ is_site i o
seat-there None i x = refl
seat-there (Some k) i x = at-there k i x

attach-there : (o : Option ℕ) (j i : ℕ) (x : SiteInput) → is_some (elim o [ None ↦ given_at j i x | Some k ↦ None ]) ≡ is_site i (unless_seated o j)
attach-there None j i x = at-there j i x
attach-there (Some k) j i x = refl

found-there : {X : Type 0} (o : Option X) (j i : ℕ) (f : X → SiteInput) → is_some (elim o [ None ↦ None | Some x ↦ given_at j i (f x) ]) ≡ is_site i (where_some o j)
found-there None j i f = refl
found-there (Some x) j i f = at-there j i (f x)

handed-to : (d : Deployed) (h : List Entry) (a : Act) (i : ℕ) → is_allowed a ≡ true → is_some (handed d h a i) ≡ is_at d h a i
unfolding handed site_at
handed-to d h (act.Tick i g ts) k e = at-there i k (given.Tick g ts)
handed-to d h act.Clock k e = absurd (cc)
handed-to d h (act.Write c x value) k e = seat-there (seat d h c) k (given.Write (carrying h c) (One x) (value ∷ []))
handed-to d h (act.Writes c items values) k e = seat-there (seat d h c) k (given.Write (carrying h c) items values)
handed-to d h (act.Read c x) k e = seat-there (seat d h c) k (given.Read (carrying h c) x)
handed-to d h (act.Move c j) k e = seat-there (seat d h c) k (given.Move (carrying h c) j)
handed-to d h (act.Leave c) k e = refl
handed-to d h (act.Attach c j) k e = attach-there (seat d h c) j k (given.Attach (carrying h c))
handed-to d h (act.Gather i) k e = at-there i k given.Gather
handed-to d h (act.Emit i) k e = at-there i k given.Emit
handed-to d h (act.Pulse i) k e = at-there i k given.Pulse
handed-to d h (act.Hop epoch u z) k e = refl
handed-to d h (act.Turn j) k e = at-there j k (given.Turn (Rattle.sat_model.specs.Replay.turn_front d h j))
handed-to d h (act.Bulk i g j o) k e =
    found-there (slice_get (lane d h i g j) (given_number d h i g j o)) j k
    (λ l. given.Bulk i g (given_number d h i g j o) (Rattle.sat_model.specs.Next.payload_at l (Rattle.sat_act.specs.Parts.values_of h l)))
handed-to d h (act.Beat i j) k e = at-there i k (given.Beat j)
handed-to d h (act.BeatIn i j n) k e = found-there (slice_get (beats d h i j) n) j k (λ note. given.BeatIn i n note)
handed-to d h (act.Stamp j) k e = at-there j k given.Stamp
handed-to d h (act.Close i) k e = at-there i k given.Close
handed-to d h (act.Fall j) k e = at-there j k given.Fall
handed-to d h (act.Advance j) k e = at-there j k given.Advance
handed-to d h (act.Kill epoch z) k e = refl
handed-to d h act.Settle k e = absurd (cc)

pub handed_there : HandedThere
handed_there = handed-to

-- ---- what is refused early

-- not refused early
record Late (r : Answer) : Type 0 where
  late : is_refused_early r ≡ false

-- an answer that comes of tests is late where none of its cases is early
passes : (b : Bool) (y : Refusal) (r : Answer) → is_early y ≡ false → Late r → Late (refused_if b y r)
passes true y r e f = record { late = e }
passes false y r e f = f

either : {X : Type 0} (o : Option X) (r : Answer) (f : X → Answer) → Late r → ((x : X) → Late (f x)) → Late (elim o [ None ↦ r | Some x ↦ f x ])
either None r f e all = e
either (Some x) r f e all = all x

choice : (b : Bool) (r s : Answer) → Late r → Late s → Late (if b then r else s)
choice true r s e f = e
choice false r s e f = f

-- a client's act at its seat
seated : (o : Option ℕ) (f : ℕ → Answer) → ((i : ℕ) → Late (f i)) → is_none o ≡ is_refused_early (at_seat o f)
seated None f all = refl
seated (Some i) f all = sym (all i).late

unseated : (o : Option ℕ) (j : ℕ) (r : Answer) → Late r → is_none (unless_seated o j) ≡ is_refused_early (refused_if (is_some o) why.Joined r)
unseated None j r e = sym e.late
unseated (Some i) j r e = refl

late-is : (r : Answer) → is_refused_early r ≡ false → Late r
late-is r e = record { late = e }

write-late : (d : Deployed) (h : List Entry) (c : ℕ) (items : Items) (i : ℕ) → Late (write_at d h c items i)
unfolding write_at
write-late d h c items i =
    let g = gear_of d (least_item (list_of items)) in
    let made = ans.Wrote (record { point = point_at (base h c i g + 1) i g; kind = kind.Update items }) in
    passes (not (keeps_all d (list_of items) i)) why.NotHere (refused_if (nat_le TS_END (base h c i g)) why.Spent made) refl (passes (nat_le TS_END (base h c i g)) why.Spent made refl (late-is made refl))

read-late : (d : Deployed) (h : List Entry) (x i : ℕ) → Late (read_at d h x i)
unfolding read_at
read-late d h x i =
    passes (not (replicates d x i)) why.NotHere (elim (version h i x) [ None ↦ ans.ReadNone | Some l ↦ ans.ReadSome l (value_of h l x) ]) refl
    (either (version h i x) ans.ReadNone (λ l. ans.ReadSome l (value_of h l x)) (late-is ans.ReadNone refl) (λ l. late-is (ans.ReadSome l (value_of h l x)) refl))

move-late : (h : List Entry) (c j i : ℕ) → Late (move_from h c j i)
unfolding move_from
move-late h c j i =
    let made = ans.Moved (record { point = point_at (base h c i 0 + 1) i 0; kind = kind.Move j }) in
    passes (j == i) why.SameSite (refused_if (nat_le TS_END (base h c i 0)) why.Spent made) refl (passes (nat_le TS_END (base h c i 0)) why.Spent made refl (late-is made refl))

turned-late : (ls : List Label) (l : Label) → Late (turned ls l)
turned-late ls l =
    choice (is_update l.kind) (if has label_eq ls l then ans.Shown l else ans.Refused (why.NoPayload l)) (ans.Took l)
    (choice (has label_eq ls l) (ans.Shown l) (ans.Refused (why.NoPayload l)) (late-is (ans.Shown l) refl) (late-is (ans.Refused (why.NoPayload l)) refl)) (late-is (ans.Took l) refl)

front-late : (ls : List Label) (o : Option Label) → Late (elim o [ None ↦ ans.Refused why.Empty | Some l ↦ turned ls l ])
front-late ls None = late-is (ans.Refused why.Empty) refl
front-late ls (Some l) = turned-late ls l

turn-late : (d : Deployed) (h : List Entry) (j : ℕ) → Late (turn_of d h j)
unfolding turn_of
turn-late d h j =
    passes (in_stamp_mode d h j) why.StampOrder (elim (tree_of d (view h j)) [ None ↦ ans.Refused why.Empty | Some tree ↦ by_seat tree (seat_in d (view h j) j) ]) refl
    (either (tree_of d (view h j)) (ans.Refused why.Empty) (λ tree. by_seat tree (seat_in d (view h j) j)) (late-is (ans.Refused why.Empty) refl) (λ tree. at_seat_late tree (seat_in d (view h j) j)))
  where
    by_seat : TreeShape → Option NodeId → Answer
    by_seat tree o = elim o [ None ↦ ans.Refused why.Empty | Some z ↦ by_front (link_front d h (view h j) tree z (Site j)) ]
      where
        by_front : Option Label → Answer
        by_front o = elim o [ None ↦ ans.Refused why.Empty | Some l ↦ turned (waiting h j) l ]

    at_seat_late : (tree : TreeShape) (o : Option NodeId) → Late (by_seat tree o)
    at_seat_late tree None = late-is (ans.Refused why.Empty) refl
    at_seat_late tree (Some z) = front-late (waiting h j) (link_front d h (view h j) tree z (Site j))

emit-late : (o : Option Label) → Late (elim o [ None ↦ ans.Refused why.Idle | Some l ↦ ans.Emitted l ])
emit-late None = late-is (ans.Refused why.Idle) refl
emit-late (Some l) = late-is (ans.Emitted l) refl

stamp-late : (b : Bool) (o : Option Label) → Late (refused_if b why.TreeOrder (elim o [ None ↦ ans.Refused why.NotYet | Some l ↦ ans.Shown l ]))
stamp-late true o = late-is (ans.Refused why.TreeOrder) refl
stamp-late false None = late-is (ans.Refused why.NotYet) refl
stamp-late false (Some l) = late-is (ans.Shown l) refl

one-test : (b : Bool) (y : Refusal) (r : Answer) → is_early y ≡ false → is_refused_early r ≡ false → false ≡ is_refused_early (refused_if b y r)
one-test b y r e f = sym (passes b y r e (late-is r f)).late

two-tests : (a b : Bool) (y z : Refusal) (r : Answer) → is_early y ≡ false → is_early z ≡ false → is_refused_early r ≡ false → false ≡ is_refused_early (refused_if a y (refused_if b z r))
two-tests a b y z r e f g = sym (passes a y (refused_if b z r) e (passes b z r f (late-is r g))).late

best-late : (b : Bool) (o : Option (ℕ × BeatNote)) (n : ℕ) → Late (elim o [ None ↦ if b then ans.Again else ans.Taken | Some note ↦ if nat_le n note.0 then ans.Old else (if b then ans.Again else ans.Taken) ])
best-late b None n = choice b ans.Again ans.Taken (late-is ans.Again refl) (late-is ans.Taken refl)
best-late b (Some note) n =
    choice (nat_le n note.0) ans.Old (if b then ans.Again else ans.Taken) (late-is ans.Old refl) (choice b ans.Again ans.Taken (late-is ans.Again refl) (late-is ans.Taken refl))

-- a payload that is there, and a beat
brought-early : (o : Option Label) (j : ℕ) (f : Label → Bool) → is_none (where_some o j) ≡ is_refused_early (elim o [ None ↦ ans.Refused why.NoSuch | Some l ↦ if f l then ans.Again else ans.Brought l ])
brought-early None j f = refl
brought-early (Some l) j f = sym (choice (f l) ans.Again (ans.Brought l) (record { late = refl }) (record { late = refl })).late

none-there : {X : Type 0} (o : Option X) (j : ℕ) → is_none (where_some o j) ≡ is_none o
none-there None j = refl
none-there (Some x) j = refl

past-end : {X : Type 0} (xs : List X) (n : ℕ) → is_none (slice_get xs n) ≡ nat_le (length xs) n
past-end [] n = let least : nat_le 0 n ≡ true = grind (arith, nat_tests) in sym least
past-end (x ∷ xs) zero = sym (more (length xs))
  where
    more : (k : ℕ) → nat_le (suc k) 0 ≡ false
    more k = grind (arith, nat_tests)
past-end (x ∷ xs) (suc n) = past-end xs n ∙ sym (both (length xs) n)
  where
    both : (k n : ℕ) → nat_le (suc k) (suc n) ≡ nat_le k n
    both k n = grind (arith, nat_tests)

refused-by : (b : Bool) (y : Refusal) (r : Answer) → is_early y ≡ true → Late r → b ≡ is_refused_early (refused_if b y r)
refused-by true y r e f = sym e
refused-by false y r e f = sym f.late

listed : (d : Deployed) (h : List Entry) (a : Act) → is_none (site_at d h a) ≡ (is_nowhere a || is_refused_early (answer d h a))
unfolding site_at answer gather_of emit_of pulse_of attach_to bulk_to bring beat_to beat_in_to stamp_of close_of fall_of advance_of
listed d h (act.Tick i g ts) = refl
listed d h act.Clock = refl
listed d h (act.Write c x value) = seated (seat d h c) (λ i. write_at d h c (One x) i) (λ i. write-late d h c (One x) i)
listed d h (act.Writes c items values) = seated (seat d h c) (λ i. write_at d h c items i) (λ i. write-late d h c items i)
listed d h (act.Read c x) = seated (seat d h c) (λ i. read_at d h x i) (λ i. read-late d h x i)
listed d h (act.Move c j) = seated (seat d h c) (λ i. move_from h c j i) (λ i. move-late h c j i)
listed d h (act.Leave c) = refl
listed d h (act.Attach c j) =
    unseated (seat d h c) j (refused_if (not (may_attach d h c j)) why.NotYet ans.Attached) (passes (not (may_attach d h c j)) why.NotYet ans.Attached refl (late-is ans.Attached refl))
listed d h (act.Gather i) = refl
listed d h (act.Emit i) = sym (emit-late (ready d h i)).late
listed d h (act.Pulse i) = one-test (is_some (ready d h i) || nat_le (stable d h i) (last_pulse h i)) why.Idle (ans.Pulsed (record { point = point_at (stable d h i) i PULSE_GEAR; kind = kind.Pulse })) refl refl
listed d h (act.Hop epoch u z) = refl
listed d h (act.Turn j) = sym (turn-late d h j).late
listed d h (act.Bulk i g j None) = brought-early (slice_get (lane d h i g j) (lane_front d h i g j)) j (λ l. has label_eq (brought h j) l)
listed d h (act.Bulk i g j (Some n)) = brought-early (slice_get (lane d h i g j) n) j (λ l. has label_eq (brought h j) l)
listed d h (act.Beat i j) = refl
listed d h (act.BeatIn i j n) =
    none-there (slice_get (beats d h i j) n) j ∙ past-end (beats d h i j) n
    ∙ refused-by (nat_le (length (beats d h i j)) n) why.NoSuch _ refl (best-late (has ◌==◌ (beats_taken h i j) n) (best d h j i) n)
listed d h (act.Stamp j) = sym (stamp-late (not (in_stamp_mode d h j)) (next_stamp d h j)).late
listed d h (act.Close i) = two-tests (emission h i == length d.plans) (emission h i == view h i + 1) why.NoNextEpoch why.Behind (ans.Closed (emission h i) (cut d h i)) refl refl refl
listed d h (act.Fall j) = two-tests (in_stamp_mode d h j) (emission h j == view h j) why.StampOrder why.NotClosed ans.Fallen refl refl refl
listed d h (act.Advance j) = two-tests (emission h j == view h j) (not (may_advance d h j)) why.NotClosed why.NotYet (ans.View (view h j + 1)) refl refl refl
listed d h (act.Kill epoch z) = refl
listed d h act.Settle = refl

pub listed_reach : ListedReach
listed_reach = listed
