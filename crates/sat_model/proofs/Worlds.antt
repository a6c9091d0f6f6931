-- The world that stands for a history answers as the history does, and then stands for it with the entry.
use Rattle.std.specs.Prelude.{◌≡◌, ◌<◌, ◌≤◌, ℕ, zero, suc, ◌+◌, Bool, true, false, max, nat_le, List, [], ◌∷◌, ◌++◌, length, map, drop, Option, Some, None, is_some, slice_get, ◌==◌, if◌then◌else◌, refl}
use Rattle.std.proofs.Common.{sym, subst, ap, ◌∙◌, arith}
use Rattle.std.proofs.lemmas.Bool.Decides.{nat_tests}
use Rattle.std.proofs.lemmas.List.{drop-append-le}
use Rattle.sat_label.specs.declared.items.Items.TheVariants.{One}
use Rattle.sat_label.specs.declared.label.Label.{Label}
use Rattle.sat_label.specs.declared.point.Point.{Point}
use Rattle.sat_label.specs.declared.label.Kind.{Kind}
use Rattle.sat_label.specs.declared.label.Kind.TheVariants as kind
use Rattle.sat_label.specs.declared.node.NodeId.{NodeId}
use Rattle.sat_label.specs.declared.node.NodeId.TheVariants.{Site, Serializer}
use Rattle.sat_label.specs.Order.{label_eq, greater_point}
use Rattle.sat_label.specs.Words.{has}
use Rattle.sat_tree.specs.Shape.{TreeShape}
use Rattle.sat_tree.specs.Cut.{seat_of}
use Rattle.sat_act.specs.declared.act.Act.{Act}
use Rattle.sat_act.specs.declared.act.Act.TheVariants as act
use Rattle.sat_act.specs.declared.answer.Answer.{Answer}
use Rattle.sat_act.specs.declared.answer.Answer.TheVariants as ans
use Rattle.sat_act.specs.declared.answer.Refusal.TheVariants as why
use Rattle.sat_act.specs.declared.entry.Entry.{Entry}
use Rattle.sat_act.specs.Deployed.{Deployed}
use Rattle.sat_act.specs.Done.{is_of, is_kill}
use Rattle.sat_act.specs.Histories.{listed}
use Rattle.sat_act.specs.Parts.{BeatNote, Handling, handling, tree_of, promise, view, seat_in, link_front, entered, entered_entry, taken, taken_entry, killed, lane, lane_front, brought, beats, seat, moving, carried, is_taken, is_put}
use Rattle.sat_act.specs.Answers.{answer, refused_if, at_seat, write_at, read_at, move_from, attach_to, greatest_promise, hop_to, bulk_to, bring, beat_in_to}
use Rattle.sat_act.specs.Runs.{IsRun}
use Rattle.sat_act.specs.Goals.{IsValid}
use Rattle.sat_laws.proofs.Runs.{before_of, entry}
use Rattle.sat_laws.proofs.Links.{taken-if, tail_of, get-below, taken-below, taking}
use Rattle.sat_bulk.specs.Payloads.{Payload}
use Rattle.sat_model.specs.Input.{SiteInput}
use Rattle.sat_model.specs.Input as given
use Rattle.sat_model.specs.Reply.{site_answer}
use Rattle.sat_model.specs.Replay.{after, handed, site_state, carrying, given_at, given_number, turn_front}
use Rattle.sat_model.specs.World.{WorldState, world_given, world_answer, world_next, world_step, world_state, fresh_world, link_left, link_next, handled_by, front_at, first, greatest_row, clock_of, number_of, payload_from, beat_from, dead_next, point_next, moving_next, seat_next, hop_by}
use Rattle.sat_model.proofs.Lanes.{lanes-agree}
use Rattle.sat_model.proofs.Lists.{plain}
use Rattle.sat_model.proofs.Simple.{promise-agrees, emission-agrees, view-agrees}
use Rattle.sat_model.proofs.Windows.{front-agrees}
use Rattle.sat_model.proofs.Beating.{made-agrees}
use Rattle.sat_model.proofs.Replies.{tick-reply, write-reply, writes-reply, read-reply, move-reply, attach-reply, gather-reply, emit-reply, pulse-reply, turn-reply, bulk-reply, beat-reply, beat-in-reply, stamp-reply, close-reply, fall-reply, advance-reply}
use Rattle.sat_model.specs.Parts.{valued}

-- ---- what is handed

greatest-rows : (p : ℕ → ℕ → ℕ) (h : List Entry) (m n : ℕ) → ((i g : ℕ) → p i g ≡ promise h i g) → greatest_row p m n ≡ greatest_promise h m n
unfolding greatest_row greatest_promise
greatest-rows p h zero zero k = refl
greatest-rows p h (suc m) zero k = refl
greatest-rows p h zero (suc n) k = refl
greatest-rows p h (suc m) (suc n) k =
    ap (λ (x : ℕ). max (max x (greatest_row p (suc m) n)) (greatest_row p m (suc n))) (k m n) ∙
    (ap (λ (x : ℕ). max (max (promise h m n) x) (greatest_row p m (suc n))) (greatest-rows p h (suc m) n k) ∙ ap (λ (x : ℕ). max (max (promise h m n) (greatest_promise h (suc m) n)) x) (greatest-rows p h m (suc n) k))

clock-agrees : (d : Deployed) (h : List Entry) → IsRun d h → clock_of d (world_state d h) ≡ greatest_promise h d.sites d.gears
unfolding world_state
clock-agrees d h run = greatest-rows (λ i g. ((site_state d h i).gears g).promise) h d.sites d.gears (λ i g. promise-agrees d h i g run)

first-drop : {X : Type 0} (xs : List X) (n : ℕ) → first (drop n xs) ≡ slice_get xs n
first-drop xs zero = refl
first-drop [] (suc n) = refl
first-drop (x ∷ xs) (suc n) = first-drop xs n

module _ (d : Deployed) (h : List Entry) (v : ℕ) (j : ℕ) where
  seat_by : Option TreeShape → Option NodeId
  seat_by o = elim o [ None ↦ None | Some t ↦ Some (Serializer (seat_of t j)) ]

  left_by : Option TreeShape → NodeId → List Label
  left_by o z = elim o [ None ↦ [] | Some t ↦ drop (taken d h v z (Site j)) (entered d h v t z (Site j)) ]

  front_by : Option TreeShape → Option NodeId → Option Label
  front_by o s = elim s [ None ↦ None | Some z ↦ first (left_by o z) ]

  turn_by : Option TreeShape → Option NodeId → Option Label
  turn_by o s = elim o [ None ↦ None | Some t ↦ elim s [ None ↦ None | Some z ↦ link_front d h v t z (Site j) ] ]

  fronts : (o : Option TreeShape) → front_by o (seat_by o) ≡ turn_by o (seat_by o)
  unfolding seat_by left_by front_by turn_by link_front
  fronts None = refl
  fronts (Some t) = first-drop (entered d h v t (Serializer (seat_of t j)) (Site j)) (taken d h v (Serializer (seat_of t j)) (Site j))

abbrev front_in_view : Deployed → List Entry → ℕ → ℕ → Option Label
front_in_view d h j v = elim (seat_in d v j) [ None ↦ None | Some z ↦ first (link_left d h v z (Site j)) ]

front-is : (d : Deployed) (h : List Entry) (j : ℕ) → front_in_view d h j (view h j) ≡ turn_front d h j
unfolding turn_front seat_in seat_by left_by front_by turn_by
front-is d h j = fronts d h (view h j) j (tree_of d (view h j))

front-at-agrees : (d : Deployed) (h : List Entry) (j : ℕ) → IsRun d h → front_at d (world_state d h) j ≡ turn_front d h j
unfolding world_state
front-at-agrees d h j run = ap (front_in_view d h j) (view-agrees d h j run) ∙ front-is d h j

number-agrees : (d : Deployed) (h : List Entry) (i g j : ℕ) (o : Option ℕ) → IsValid d → IsRun d h → number_of (world_state d h) i g j o ≡ given_number d h i g j o
unfolding world_state lane_front
number-agrees d h i g j None v run = front-agrees d h i g j v run
number-agrees d h i g j (Some n) v run = refl

get-map : {X Y : Type 0} (f : X → Y) (xs : List X) (n : ℕ) → slice_get (map f xs) n ≡ elim (slice_get xs n) [ None ↦ None | Some x ↦ Some (f x) ]
get-map f [] n = refl
get-map f (x ∷ xs) zero = refl
get-map f (x ∷ xs) (suc n) = get-map f xs n

abbrev with_payload : List Entry → Option Label → Option Payload
with_payload h o = elim o [ None ↦ None | Some l ↦ Some (valued h l) ]

payload-agrees : (d : Deployed) (h : List Entry) (i g j n : ℕ) → IsValid d → IsRun d h → payload_from (world_state d h) i g j n ≡ with_payload h (slice_get (lane d h i g j) n)
unfolding world_state
payload-agrees d h i g j n v run = ap (λ (ps : List Payload). slice_get ps n) (lanes-agree d h i g j v run) ∙ get-map (valued h) (lane d h i g j) n

abbrev bulk_with : {X : Type 0} → X → (Payload → X) → Option Payload → X
bulk_with x f o = elim o [ None ↦ x | Some p ↦ f p ]

bulk-with : {X : Type 0} (h : List Entry) (x : X) (f : Payload → X) (o : Option Label) → bulk_with x f (with_payload h o) ≡ elim o [ None ↦ x | Some l ↦ f (valued h l) ]
bulk-with h x f None = refl
bulk-with h x f (Some l) = refl

beat-agrees : (d : Deployed) (h : List Entry) (i j n : ℕ) → IsValid d → IsRun d h → beat_from (world_state d h) i j n ≡ slice_get (beats d h i j) n
unfolding world_state
beat-agrees d h i j n v run = ap (λ (bs : List BeatNote). slice_get bs n) (made-agrees d h i j v run)

abbrev beat_with : {X : Type 0} → X → (BeatNote → X) → Option BeatNote → X
beat_with x f o = elim o [ None ↦ x | Some b ↦ f b ]

pub gives-as-handed : (d : Deployed) (h : List Entry) (a : Act) (k : ℕ) → IsValid d → IsRun d h → world_given d (world_state d h) a k ≡ handed d h a k
unfolding world_given handed world_state
gives-as-handed d h act.Clock k v run = ap (λ (p : ℕ). Some (given.Clock p)) (clock-agrees d h run)
gives-as-handed d h (act.Turn j) k v run = ap (λ (o : Option Label). given_at j k (given.Turn o)) (front-at-agrees d h j run)
gives-as-handed d h (act.Bulk i g j o) k v run =
    ap (λ (n : ℕ). bulk_with None (λ p. given_at j k (given.Bulk i g n p)) (payload_from (world_state d h) i g j n)) (number-agrees d h i g j o v run) ∙
    (ap (bulk_with None (λ p. given_at j k (given.Bulk i g (given_number d h i g j o) p))) (payload-agrees d h i g j (given_number d h i g j o) v run) ∙
    bulk-with h None (λ p. given_at j k (given.Bulk i g (given_number d h i g j o) p)) (slice_get (lane d h i g j) (given_number d h i g j o)))
gives-as-handed d h (act.BeatIn i j n) k v run = ap (beat_with None (λ b. given_at j k (given.BeatIn i n b))) (beat-agrees d h i j n v run)
gives-as-handed d h _ k v run = refl

-- ---- what is answered

abbrev hop_over : Deployed → NodeId → ℕ → Option TreeShape → (TreeShape → Option Label) → Answer
hop_over d u z o f = elim o [ None ↦ ans.Refused why.Empty | Some t ↦ hop_by d t u z (f t) ]

abbrev left_over : Deployed → List Entry → ℕ → NodeId → NodeId → Option TreeShape → List Label
left_over d h e u v o = elim o [ None ↦ [] | Some t ↦ drop (taken d h e u v) (entered d h e t u v) ]

hop-agrees : (d : Deployed) (h : List Entry) (e : ℕ) (u : NodeId) (z : ℕ) → world_answer d (world_state d h) (act.Hop e u z) ≡ answer d h (act.Hop e u z)
unfolding world_answer world_state answer hop_to link_front
hop-agrees d h e u z = ap (refused_if (killed h e z) why.Dead) (go (tree_of d e) refl)
  where
    go : (o : Option TreeShape) → tree_of d e ≡ o → hop_over d u z o (λ t. first (left_over d h e u (Serializer z) (tree_of d e))) ≡ hop_over d u z o (λ t. slice_get (entered d h e t u (Serializer z)) (taken d h e u (Serializer z)))
    go None w = refl
    go (Some t) w = ap (hop_by d t u z) (ap (λ (o : Option TreeShape). first (left_over d h e u (Serializer z) o)) w ∙ first-drop (entered d h e t u (Serializer z)) (taken d h e u (Serializer z)))

bulk-agrees : (d : Deployed) (h : List Entry) (i g j : ℕ) (o : Option ℕ) → IsValid d → IsRun d h → world_answer d (world_state d h) (act.Bulk i g j o) ≡ answer d h (act.Bulk i g j o)
unfolding world_answer world_state
bulk-agrees d h i g j o v run =
    ap (λ (n : ℕ). bulk_with (ans.Refused why.NoSuch) (λ p. site_answer d j (site_state d h j) (given.Bulk i g n p)) (payload_from (world_state d h) i g j n)) (number-agrees d h i g j o v run) ∙
    (ap (bulk_with (ans.Refused why.NoSuch) (λ p. site_answer d j (site_state d h j) (given.Bulk i g (given_number d h i g j o) p))) (payload-agrees d h i g j (given_number d h i g j o) v run) ∙
    (bulk-with h (ans.Refused why.NoSuch) (λ p. site_answer d j (site_state d h j) (given.Bulk i g (given_number d h i g j o) p)) (slice_get (lane d h i g j) (given_number d h i g j o)) ∙
    go (slice_get (lane d h i g j) (given_number d h i g j o)) refl))
  where
    none : slice_get (lane d h i g j) (given_number d h i g j o) ≡ None → ans.Refused why.NoSuch ≡ answer d h (act.Bulk i g j o)
    none e = no_such d h i g j o e
      where
        no_such : (d : Deployed) (h : List Entry) (i g j : ℕ) (o : Option ℕ) → slice_get (lane d h i g j) (given_number d h i g j o) ≡ None → ans.Refused why.NoSuch ≡ answer d h (act.Bulk i g j o)
        no_such d h i g j None e = sym (ap (λ (x : Option Label). elim x [ None ↦ ans.Refused why.NoSuch | Some l ↦ if has label_eq (brought h j) l then ans.Again else ans.Brought l ]) e) ∙ (unfold answer in unfold bulk_to in unfold bring in refl)
        no_such d h i g j (Some n) e = sym (ap (λ (x : Option Label). elim x [ None ↦ ans.Refused why.NoSuch | Some l ↦ if has label_eq (brought h j) l then ans.Again else ans.Brought l ]) e) ∙ (unfold answer in unfold bulk_to in unfold bring in refl)

    go : (x : Option Label) → slice_get (lane d h i g j) (given_number d h i g j o) ≡ x →
        elim x [ None ↦ ans.Refused why.NoSuch | Some l ↦ site_answer d j (site_state d h j) (given.Bulk i g (given_number d h i g j o) (valued h l)) ] ≡ answer d h (act.Bulk i g j o)
    go None e = none e
    go (Some l) e = bulk-reply d h i g j o l v run e

outside : {X : Type 0} (xs : List X) (n : ℕ) → slice_get xs n ≡ None → nat_le (length xs) n ≡ true
outside [] n e = low n
  where
    low : (n : ℕ) → nat_le 0 n ≡ true
    low n = grind (arith, nat_tests)
outside (x ∷ xs) zero e = absurd (cc)
outside (x ∷ xs) (suc n) e = more (length xs) n (outside xs n e)
  where
    more : (m n : ℕ) → nat_le m n ≡ true → nat_le (suc m) (suc n) ≡ true
    more m n e = grind (arith, nat_tests)

no-beat : (d : Deployed) (h : List Entry) (i j n : ℕ) → nat_le (length (beats d h i j)) n ≡ true → ans.Refused why.NoSuch ≡ answer d h (act.BeatIn i j n)
unfolding answer beat_in_to
no-beat d h i j n e = go (nat_le (length (beats d h i j)) n) _ e
  where
    go : (b : Bool) (r : Answer) → b ≡ true → ans.Refused why.NoSuch ≡ refused_if b why.NoSuch r
    go true r e = refl
    go false r e = absurd (cc)

beat-in-agrees : (d : Deployed) (h : List Entry) (i j n : ℕ) → IsValid d → IsRun d h → world_answer d (world_state d h) (act.BeatIn i j n) ≡ answer d h (act.BeatIn i j n)
unfolding world_answer world_state
beat-in-agrees d h i j n v run =
    ap (beat_with (ans.Refused why.NoSuch) (λ b. site_answer d j (site_state d h j) (given.BeatIn i n b))) (beat-agrees d h i j n v run) ∙ go (slice_get (beats d h i j) n) refl
  where
    go : (x : Option BeatNote) → slice_get (beats d h i j) n ≡ x → beat_with (ans.Refused why.NoSuch) (λ b. site_answer d j (site_state d h j) (given.BeatIn i n b)) x ≡ answer d h (act.BeatIn i j n)
    go None e = no-beat d h i j n (outside (beats d h i j) n e)
    go (Some b) e = beat-in-reply d h i j n b v run e

client-agrees : (d : Deployed) (h : List Entry) (c : ℕ) (a : Act) (f : ℕ → Answer) (g : ℕ → Answer) → (at_seat (seat d h c) g ≡ answer d h a) → ((t : ℕ) → seat d h c ≡ Some t → f t ≡ answer d h a) → at_seat (seat d h c) f ≡ answer d h a
client-agrees d h c a f g e k = go (seat d h c) refl
  where
    go : (o : Option ℕ) → seat d h c ≡ o → at_seat o f ≡ answer d h a
    go None w = sym (ap (λ (o : Option ℕ). at_seat o g) w) ∙ e
    go (Some t) w = k t w

no-attach : (d : Deployed) (h : List Entry) (c j t : ℕ) → seat d h c ≡ Some t → ans.Refused why.Joined ≡ answer d h (act.Attach c j)
unfolding answer attach_to
no-attach d h c j t e = go (seat d h c) _ e
  where
    go : (o : Option ℕ) (r : Answer) → o ≡ Some t → ans.Refused why.Joined ≡ refused_if (is_some o) why.Joined r
    go None r e = absurd (cc)
    go (Some t) r e = refl

abbrev seat_or : (o : Option ℕ) → Answer → Answer
seat_or o r = elim o [ None ↦ r | Some i ↦ ans.Refused why.Joined ]

attach-agrees : (d : Deployed) (h : List Entry) (c j : ℕ) → IsValid d → IsRun d h → world_answer d (world_state d h) (act.Attach c j) ≡ answer d h (act.Attach c j)
unfolding world_answer world_state
attach-agrees d h c j v run = go (seat d h c) refl
  where
    go : (o : Option ℕ) → seat d h c ≡ o → seat_or o (site_answer d j (site_state d h j) (given.Attach (carrying h c))) ≡ answer d h (act.Attach c j)
    go None w = attach-reply d h c j v run w
    go (Some t) w = no-attach d h c j t w

pub world-answers : (d : Deployed) (h : List Entry) (a : Act) → IsValid d → IsRun d h → world_answer d (world_state d h) a ≡ answer d h a
unfolding world_answer world_state answer
world-answers d h (act.Tick i g t) v run = tick-reply d h i g t run
world-answers d h act.Clock v run = ap (λ (p : ℕ). ans.Clocked p) (clock-agrees d h run)
world-answers d h (act.Write c x value) v run = client-agrees d h c (act.Write c x value) (λ i. site_answer d i (site_state d h i) (given.Write (carrying h c) (One x) (value ∷ []))) (λ i. write_at d h c (One x) i) refl (λ t w. write-reply d h c x t value run w)
world-answers d h (act.Writes c items values) v run = client-agrees d h c (act.Writes c items values) (λ i. site_answer d i (site_state d h i) (given.Write (carrying h c) items values)) (λ i. write_at d h c items i) refl (λ t w. writes-reply d h c items t values run w)
world-answers d h (act.Read c x) v run = client-agrees d h c (act.Read c x) (λ i. site_answer d i (site_state d h i) (given.Read (carrying h c) x)) (λ i. read_at d h x i) refl (λ t w. read-reply d h c x t v run w)
world-answers d h (act.Move c j) v run = client-agrees d h c (act.Move c j) (λ i. site_answer d i (site_state d h i) (given.Move (carrying h c) j)) (λ i. move_from h c j i) refl (λ t w. move-reply d h c j t run w)
world-answers d h (act.Leave c) v run = refl
world-answers d h (act.Attach c j) v run = attach-agrees d h c j v run
world-answers d h (act.Gather i) v run = gather-reply d h i run
world-answers d h (act.Emit i) v run = emit-reply d h i v run
world-answers d h (act.Pulse i) v run = pulse-reply d h i v run
world-answers d h (act.Hop e u z) v run = hop-agrees d h e u z
world-answers d h (act.Turn j) v run = ap (λ (o : Option Label). site_answer d j (site_state d h j) (given.Turn o)) (front-at-agrees d h j run) ∙ turn-reply d h j v run
world-answers d h (act.Bulk i g j o) v run = bulk-agrees d h i g j o v run
world-answers d h (act.Beat i j) v run = beat-reply d h i j v run
world-answers d h (act.BeatIn i j n) v run = beat-in-agrees d h i j n v run
world-answers d h (act.Stamp j) v run = stamp-reply d h j v run
world-answers d h (act.Close i) v run = close-reply d h i v run
world-answers d h (act.Fall j) v run = fall-reply d h j run
world-answers d h (act.Advance j) v run = advance-reply d h j v run
world-answers d h (act.Kill e z) v run = refl
world-answers d h act.Settle v run = refl

-- ---- what it then stands for

handled-is : (d : Deployed) (h : List Entry) (x : Entry) → IsRun d h → handled_by d (λ i. (site_state d h i).views.emission) (λ i. (site_state d h i).views.view) x.act x.answer ≡ handling d h x
unfolding handled_by handling
handled-is d h x run =
    (λ k. handled_by d (λ i. emission-agrees d h i run k) (λ i. view-agrees d h i run k) x.act x.answer) ∙ refl

drop-next : {X : Type 0} (n : ℕ) (xs : List X) → drop (n + 1) xs ≡ drop 1 (drop n xs)
drop-next n xs = subst (λ (m : ℕ). drop m xs ≡ drop 1 (drop n xs)) (one n) (go n xs)
  where
    one : (n : ℕ) → suc n ≡ n + 1
    one n = omega arith

    go : {X : Type 0} (n : ℕ) (xs : List X) → drop (suc n) xs ≡ drop 1 (drop n xs)
    go zero xs = refl
    go (suc n) [] = refl
    go (suc n) (x ∷ xs) = go n xs

abbrev label_if : Bool → Label → Option Label
label_if b l = if b then Some l else None

length-more : (xs : List Label) (l : Label) → length (xs ++ l ∷ []) ≡ length xs + 1
length-more [] l = omega arith
length-more (x ∷ xs) l = let k : length (xs ++ l ∷ []) ≡ length xs + 1 = length-more xs l in omega arith

tail-if : (b : Bool) (l : Label) → tail_of (label_if b l) ≡ (if b then l ∷ [] else [])
tail-if true l = refl
tail-if false l = refl

-- a link after its entry, where T of E were taken
link-moves : (b c : Bool) (l : Label) (T : List Label) (E : List Label) → length T ≤ length E → (b ≡ true → length T < length E) →
    drop (length (T ++ tail_of (label_if b l))) (E ++ tail_of (label_if c l)) ≡ (if b then drop 1 (drop (length T) E) else drop (length T) E) ++ (if c then l ∷ [] else [])
link-moves true c l T E le lt =
    let k : length T < length E = lt refl in
    ap (λ (n : ℕ). drop n (E ++ tail_of (label_if c l))) (length-more T l) ∙ (drop-append-le (length T + 1) E (tail_of (label_if c l)) (omega arith) ∙
    (ap (λ (ls : List Label). ls ++ tail_of (label_if c l)) (drop-next (length T) E) ∙ ap (λ (ls : List Label). drop 1 (drop (length T) E) ++ ls) (tail-if c l)))
link-moves false c l T E le lt =
    ap (λ (ts : List Label). drop (length ts) (E ++ tail_of (label_if c l))) (plain T) ∙ (drop-append-le (length T) E (tail_of (label_if c l)) le ∙ ap (λ (ls : List Label). drop (length T) E ++ ls) (tail-if c l))

abbrev entered_by : Deployed → ℕ → TreeShape → NodeId → NodeId → Option Handling → Option Label
entered_by d e t u v o = elim o [ None ↦ None | Some x ↦ label_if (is_put d e t u v x) x.label ]

abbrev taken_by : ℕ → NodeId → NodeId → Option Handling → Option Label
taken_by e u v o = elim o [ None ↦ None | Some x ↦ label_if (is_taken e u v x) x.label ]

taken-is : (d : Deployed) (h : List Entry) (x : Entry) (e : ℕ) (t : TreeShape) (u v : NodeId) (y : Handling) → IsRun d (x ∷ h) → tree_of d e ≡ Some t → handling d h x ≡ Some y → is_taken e u v y ≡ true → taken d h e u v < length (entered d h e t u v)
taken-is d h x e t u v y run k w b =
    get-below (entered d h e t u v) (taken d h e u v) y.label (taking d h x e t u v y.label run k (taken-if d e u v h x y.label (ap (taken_by e u v) w ∙ ap (λ (b : Bool). label_if b y.label) b))).0

link-tree : (d : Deployed) (h : List Entry) (x : Entry) (e : ℕ) (t : TreeShape) (u v : NodeId) → IsRun d (x ∷ h) → tree_of d e ≡ Some t →
    drop (taken d (x ∷ h) e u v) (entered d (x ∷ h) e t u v) ≡
    elim (handling d h x) [ None ↦ drop (taken d h e u v) (entered d h e t u v) | Some y ↦ (if is_taken e u v y then drop 1 (drop (taken d h e u v) (entered d h e t u v)) else drop (taken d h e u v) (entered d h e t u v)) ++ (if is_put d e t u v y then y.label ∷ [] else []) ]
unfolding taken entered
link-tree d h x e t u v run k = go (handling d h x) refl (taken-below d h e t u v (before_of d h x run) k) (λ y. taken-is d h x e t u v y run k)
  where
    T : List Label
    T = listed (taken_entry d e u v) h

    E : List Label
    E = listed (entered_entry d e t u v) h

    go : (o : Option Handling) → handling d h x ≡ o → length T ≤ length E → ((y : Handling) → handling d h x ≡ Some y → is_taken e u v y ≡ true → length T < length E) →
        drop (length (T ++ tail_of (taken_by e u v o))) (E ++ tail_of (entered_by d e t u v o)) ≡
        elim o [ None ↦ drop (length T) E | Some y ↦ (if is_taken e u v y then drop 1 (drop (length T) E) else drop (length T) E) ++ (if is_put d e t u v y then y.label ∷ [] else []) ]
    go None w le lt = ap (λ (ts : List Label). drop (length ts) (E ++ [])) (plain T) ∙ ap (drop (length T)) (plain E)
    go (Some y) w le lt = link-moves (is_taken e u v y) (is_put d e t u v y) y.label T E le (lt y w)

link-agrees : (d : Deployed) (h : List Entry) (x : Entry) (e : ℕ) (u v : NodeId) → IsRun d (x ∷ h) → link_next d (handling d h x) e u v (link_left d h e u v) ≡ link_left d (x ∷ h) e u v
link-agrees d h x e u v run = go (tree_of d e) refl
  where
    next : Option TreeShape → List Label → List Label
    next o ls = elim o [ None ↦ [] | Some t ↦ elim (handling d h x) [ None ↦ ls | Some y ↦ (if is_taken e u v y then drop 1 ls else ls) ++ (if is_put d e t u v y then y.label ∷ [] else []) ] ]

    go : (o : Option TreeShape) → tree_of d e ≡ o → next o (left_over d h e u v o) ≡ left_over d (x ∷ h) e u v o
    go None w = refl
    go (Some t) w = sym (link-tree d h x e t u v run w)

-- clients and killed serializers

dead-agrees : (h : List Entry) (x : Entry) (e z : ℕ) → dead_next e z (killed h e z) x.act x.answer ≡ killed (x ∷ h) e z
unfolding killed
dead-agrees h x e z = go x.answer
  where
    picks : (b old : Bool) → (if b then true else old) ≡ elim (if b then Some true else None) [ None ↦ old | Some y ↦ y ]
    picks true old = refl
    picks false old = refl

    go : (r : Answer) → dead_next e z (killed h e z) x.act r ≡ killed (entry x.act r x.inner ∷ h) e z
    go ans.Killed = picks (is_kill x.act e z) (killed h e z)
    go _ = refl

latest-picks : {X : Type 0} (b : Bool) (y old : X) → (if b then y else old) ≡ elim (if b then Some y else None) [ None ↦ old | Some z ↦ z ]
latest-picks true y old = refl
latest-picks false y old = refl

greater-picks : (b : Bool) (q p : Point) → (if b then greater_point q p else p) ≡ elim (if b then Some q else None) [ None ↦ p | Some y ↦ greater_point y p ]
greater-picks true q p = refl
greater-picks false q p = refl

point-agrees : (h : List Entry) (x : Entry) (c : ℕ) → point_next c (carried h c) x.act x.answer ≡ carried (x ∷ h) c
unfolding carried
point-agrees h x c = go x.answer
  where
    go : (r : Answer) → point_next c (carried h c) x.act r ≡ carried (entry x.act r x.inner ∷ h) c
    go (ans.Wrote l) = greater-picks (is_of x.act c) l.point (carried h c)
    go (ans.ReadSome l v) = greater-picks (is_of x.act c) l.point (carried h c)
    go (ans.Moved l) = greater-picks (is_of x.act c) l.point (carried h c)
    go _ = refl

abbrev moved_to : Bool → Kind → Option (Option ℕ)
moved_to b k = if b then elim k [ kind.Move j ↦ Some (Some j) | _ ↦ None ] else None

move-picks : (b : Bool) (k : Kind) (o : Option ℕ) → (if b then elim k [ kind.Move j ↦ Some j | _ ↦ o ] else o) ≡ elim (moved_to b k) [ None ↦ o | Some y ↦ y ]
move-picks true (kind.Move j) o = refl
move-picks true _ o = refl
move-picks false k o = refl

moving-agrees : (h : List Entry) (x : Entry) (c : ℕ) → moving_next c (moving h c) x.act x.answer ≡ moving (x ∷ h) c
unfolding moving
moving-agrees h x c = go x.answer
  where
    go : (r : Answer) → moving_next c (moving h c) x.act r ≡ moving (entry x.act r x.inner ∷ h) c
    go ans.Attached = latest-picks (is_of x.act c) None (moving h c)
    go (ans.Left p) = latest-picks (is_of x.act c) None (moving h c)
    go (ans.Moved l) = move-picks (is_of x.act c) l.kind (moving h c)
    go _ = refl

seat-agrees : (d : Deployed) (h : List Entry) (x : Entry) (c : ℕ) → seat_next c (seat d h c) x.act x.answer ≡ seat d (x ∷ h) c
unfolding seat
seat-agrees d h x c = go x.answer x.act
  where
    go : (r : Answer) (a : Act) → seat_next c (seat d h c) a r ≡ seat d (entry a r x.inner ∷ h) c
    go ans.Attached (act.Attach b j) = latest-picks (b == c) (Some j) (seat d h c)
    go (ans.Moved l) a = latest-picks (is_of a c) None (seat d h c)
    go (ans.Left p) a = latest-picks (is_of a c) None (seat d h c)
    go _ _ = refl

-- ---- the world's step

world-next : (d : Deployed) (h : List Entry) (x : Entry) → IsValid d → IsRun d (x ∷ h) → world_next d (world_state d h) x.act x.answer ≡ world_state d (x ∷ h)
unfolding world_next world_state
world-next d h x v run =
    let old : IsRun d h = before_of d h x run in
    λ k. record {
      sites = λ i. (ap (λ (o : Option SiteInput). after d i (site_state d h i) o x.answer) (gives-as-handed d h x.act i v old) ∙ site-more d h x i) k;
      links = λ e u w. (ap (λ (o : Option Handling). link_next d o e u w (link_left d h e u w)) (handled-is d h x old) ∙ link-agrees d h x e u w run) k;
      dead = λ e z. dead-agrees h x e z k;
      clients = λ c. record { carried = record { point = point-agrees h x c k; moving = moving-agrees h x c k }; seat = seat-agrees d h x c k };
    }
  where
    site-more : (d : Deployed) (h : List Entry) (x : Entry) (i : ℕ) → after d i (site_state d h i) (handed d h x.act i) x.answer ≡ site_state d (x ∷ h) i
    site-more d h x i = unfold site_state in refl

-- a world that stands for (d, h) answers `answer d h a`, and then stands for the entry in front of h
pub world-steps : (d : Deployed) (h : List Entry) (a : Act) → IsValid d → IsRun d (entry a (answer d h a) false ∷ h) → world_step d (world_state d h) a ≡ (answer d h a, world_state d (entry a (answer d h a) false ∷ h))
unfolding world_step
world-steps d h a v run =
    ap (λ (r : Answer). (r, world_next d (world_state d h) a r)) (world-answers d h a v (before_of d h (entry a (answer d h a) false) run)) ∙
    ap (λ (w : WorldState). (answer d h a, w)) (world-next d h (entry a (answer d h a) false) v run)

left-starts : (d : Deployed) (e : ℕ) (u v : NodeId) (o : Option TreeShape) → left_over d [] e u v o ≡ []
unfolding taken entered
left-starts d e u v None = refl
left-starts d e u v (Some t) = refl

pub world-starts : (d : Deployed) → world_state d [] ≡ fresh_world d
unfolding world_state site_state killed carried moving seat
world-starts d = ap (λ (ls : ℕ → NodeId → NodeId → List Label). record {
  sites = site_state d [];
  links = ls;
  dead = killed [];
  clients = λ c. record { carried = record { point = carried [] c; moving = moving [] c }; seat = seat d [] c };
}) (λ k e u v. left-starts d e u v (tree_of d e) k)
