-- Beats: what a complete beat tells of its maker, and that its payloads were brought.
use Rattle.std.specs.Prelude.{◌≡◌, ◌<◌, ◌≤◌, ℕ, zero, suc, ◌+◌, Bool, true, false, ◌&&◌, List, [], ◌∷◌, ◌++◌, Option, Some, None, refl, ◌==◌, if◌then◌else◌, length, slice_get}
use Rattle.std.proofs.Common.{sym, subst, arith, inl, inr, ap}
use Rattle.std.proofs.lemmas.Bool.Decides.{nat_tests}
use Rattle.std.proofs.lemmas.Bool.{and_parts, leb-true}
use Rattle.sat_label.specs.declared.point.Point.{Point}
use Rattle.sat_label.specs.declared.label.Label.{Label}
use Rattle.sat_label.specs.Words.{below}
use Rattle.sat_act.specs.declared.answer.Answer.{Answer}
use Rattle.sat_act.specs.declared.entry.Entry.{Entry}
use Rattle.sat_act.specs.Deployed.{Deployed}
use Rattle.sat_act.specs.Histories.{listed}
use Rattle.sat_act.specs.Parts.{is_target, emission}
use Rattle.sat_act.specs.Runs.{IsRun}
use Rattle.sat_act.specs.Goals.{Gives, IsValid}
use Rattle.sat_laws.proofs.Runs.{before_of}
use Rattle.sat_laws.proofs.Labels.{some_is}
use Rattle.sat_laws.proofs.Gears.{split_le}
use Rattle.sat_laws.proofs.Members.{listed-gives, gives-listed}
use Rattle.sat_laws.proofs.Sendings.{picked_if}
use Rattle.sat_act.specs.Parts.{stable, cut}
use Rattle.sat_laws.proofs.Links.{SentIn, get-below, In-place}
use Rattle.sat_act.specs.declared.answer.Answer.TheVariants as ans
use Rattle.sat_act.specs.Parts.{is_update}
use Rattle.sat_laws.proofs.Sendings.{emission-rises}
use Rattle.sat_act.specs.Done.{made_in}
use Rattle.sat_act.specs.Parts.{close_cut}
use Rattle.sat_act.specs.Goals.{Made}
use Rattle.sat_laws.proofs.Sinks.{new-unstable}
use Rattle.sat_laws.proofs.Sendings.{picked_if}
use Rattle.std.specs.List.{list_all}
use Rattle.std.specs.List.{prefix_len}
use Rattle.sat_label.specs.Order.{label_eq}
use Rattle.sat_label.specs.Words.{has}
use Rattle.sat_act.specs.Histories.{listed}
use Rattle.sat_act.specs.Done.{is_beat}
use Rattle.sat_laws.proofs.Lasts.{cut-keeps}
use Rattle.sat_act.specs.Parts.{BeatNote, beats, beat_entry, beats_taken, is_complete, best, best_below, lane, lane_entry, lane_front, brought, brought_entry, gathered, made_entry}
use Rattle.std.specs.Prelude.{cond, nat_le}
use Rattle.sat_laws.proofs.Members.{listed-gives, gives-listed}
use Rattle.sat_laws.proofs.Sinks.{gives-map, by_gather, stable-rises, keep}
use Rattle.sat_laws.proofs.Shows.{Brings}
use Rattle.sat_laws.proofs.Links.{get-keep, get-below, In-place}
use Rattle.sat_label.specs.Members.{In}
use Rattle.sat_label.proofs.Members.{In-get, In-get, has-in}

-- a history that goes on from another
pub data Later (b : List Entry) : List Entry → Type 0 where
  now : Later b b
  more : {x : Entry} {h : List Entry} → Later b h → Later b (x ∷ h)

pub later-run : (d : Deployed) (b h : List Entry) → Later b h → IsRun d h → IsRun d b
later-run d b h now run = run
later-run d b h (more {x = x} {h = k} l) run = later-run d b k l (before_of d k x run)

pub later-sent-in : (b h : List Entry) (i e : ℕ) (a : Label) → Later b h → SentIn b i e a → SentIn h i e a
unfolding SentIn
later-sent-in b h i e a now s = s
later-sent-in b h i e a (more {h = k} l) s = inl (later-sent-in b k i e a l s)

pub later-emission : (b h : List Entry) (i : ℕ) → Later b h → emission b i ≤ emission h i
later-emission b h i now = omega arith
later-emission b h i (more {x = x} {h = k} l) =
    let w : emission b i ≤ emission k i = later-emission b k i l in
    let y : emission k i ≤ emission (x ∷ k) i = emission-rises k x i in
    omega arith

pub later-cut : (d : Deployed) (b h : List Entry) (i e : ℕ) (p : Point) → Later b h → IsRun d h → close_cut b i e ≡ Some p → close_cut h i e ≡ Some p
later-cut d b h i e p now run m = m
later-cut d b h i e p (more {x = x} {h = k} l) run m = cut-keeps d k x i e p run (later-cut d b k i e p l (before_of d k x run) m)

pub later-stable : (d : Deployed) (b h : List Entry) (i : ℕ) → i < d.sites → Later b h → IsRun d h → stable d b i ≤ stable d h i
later-stable d b h i s now run = omega arith
later-stable d b h i s (more {x = x} {h = k} l) run =
    let w : stable d b i ≤ stable d k i = later-stable d b k i s l (before_of d k x run) in
    let y : stable d k i ≤ stable d (x ∷ k) i = stable-rises d k x i s run in
    omega arith

made-late : (d : Deployed) (b k : List Entry) (x : Entry) (a : Label) → IsValid d → Later b k → IsRun d (x ∷ k) → made_in x.answer ≡ Some a → a.point.site < d.sites → a.point.ts ≤ stable d b a.point.site → ⊥
unfolding stable
made-late d b k x a v l run m s t =
    let w : stable d b a.point.site ≤ stable d k a.point.site = later-stable d b k a.point.site s l (before_of d k x run) in
    let y : a.point.ts ≤ stable d k a.point.site = omega arith in
    new-unstable d k x a v run m y

-- a label at or below what was stable was made by then
pub later-made : (d : Deployed) (b h : List Entry) (a : Label) → IsValid d → Later b h → IsRun d h → Made h a → a.point.site < d.sites → a.point.ts ≤ stable d b a.point.site → Made b a
unfolding Gives
later-made d b h a v now run m s t = m
later-made d b h a v (more {x = x} {h = k} l) run (inl m) s t = later-made d b k a v l (before_of d k x run) m s t
later-made d b h a v (more {x = x} {h = k} l) run (inr m) s t = absurd (made-late d b k x a v l run m s t)

pub later-places : {X : Type 0} (f : List Entry → Entry → Option X) (b h : List Entry) (m : ℕ) (y : X) → Later b h → slice_get (listed f b) m ≡ Some y → slice_get (listed f h) m ≡ Some y
unfolding listed
later-places f b h m y now g = g
later-places f b h m y (more {x = x} {h = k} l) g = get-keep (listed f k) _ m y (later-places f b k m y l g)

pub gathered-later : (b : List Entry) (i : ℕ) → Later (gathered b i) b
gathered-later [] i = unfold gathered in now
gathered-later (x ∷ b) i = by_gather x b i (λ k. Later k (x ∷ b)) (λ _. now) (λ _. more (gathered-later b i))

pub later-trans : (a b h : List Entry) → Later a b → Later b h → Later a h
later-trans a b h l now = l
later-trans a b h l (more {h = k} m) = more (later-trans a b k l m)

-- ---- a beat was made at some moment

pub gave-at : {X : Type 0} (f : List Entry → Entry → Option X) (h : List Entry) (y : X) → Gives f h y → (b : List Entry) × (x : Entry) × Later (x ∷ b) h × (f b x ≡ Some y)
unfolding Gives
gave-at f [] y g = absurd g
gave-at f (x ∷ h) y (inl g) = let w : (b : List Entry) × (z : Entry) × Later (z ∷ b) h × (f b z ≡ Some y) = gave-at f h y g in (w.0, w.1, more w.2, w.3)
gave-at f (x ∷ h) y (inr g) = (h, x, now, g)

abbrev pub note_of : Deployed → ℕ → ℕ → List Entry → BeatNote
note_of d i j b = record { cut = cut d b i; closes = close_cut b i; counts = λ g. length (lane d (gathered b i) i g j) }

pub is-note : (d : Deployed) (i j : ℕ) (b : List Entry) (x : Entry) (note : BeatNote) → beat_entry d i j b x ≡ Some note → note_of d i j b ≡ note
is-note d i j b x note e = go x.answer e
  where
    go : (r : Answer) → elim r [ ans.Beat n ↦ if is_beat x.act i j then Some (note_of d i j b) else None | _ ↦ None ] ≡ Some note → note_of d i j b ≡ note
    go (ans.Beat n) e = (picked_if (is_beat x.act i j) (note_of d i j b) note e).1
    go _ e = absurd (cc)

-- the best beat of i at j, and the moment of its making
pub record Best (d : Deployed) (h : List Entry) (j i : ℕ) (note : BeatNote) : Type 0 where
  pub at : List Entry
  pub later : Later at h
  pub is : note_of d i j at ≡ note
  pub complete : is_complete d h i j note ≡ true

note-step : (d : Deployed) (h : List Entry) (i j : ℕ) (notes : List BeatNote) (n : ℕ) (r : ℕ × BeatNote) (t : Bool) (o : Option BeatNote) (rest : Option (ℕ × BeatNote)) → slice_get notes n ≡ o → (rest ≡ Some r → In notes r.1 × (is_complete d h i j r.1 ≡ true)) →
    elim t [ false ↦ rest | true ↦ elim o [ None ↦ rest | Some note ↦ elim (is_complete d h i j note) [ true ↦ Some (n, note) | false ↦ rest ] ] ] ≡ Some r → In notes r.1 × (is_complete d h i j r.1 ≡ true)
note-step d h i j notes n r false o rest g old e = old e
note-step d h i j notes n r true None rest g old e = old e
note-step d h i j notes n r true (Some note) rest g old e = go (is_complete d h i j note) refl e
  where
    go : (b : Bool) → is_complete d h i j note ≡ b → elim b [ true ↦ Some (n, note) | false ↦ rest ] ≡ Some r → In notes r.1 × (is_complete d h i j r.1 ≡ true)
    go true w e =
        let y : note ≡ r.1 = ap (λ (p : ℕ × BeatNote). p.1) (some_is (n, note) r e) in
        (subst (λ (z : BeatNote). In notes z) y (In-get notes n note g), subst (λ (z : BeatNote). is_complete d h i j z ≡ true) y w)
    go false w e = old e

best-step : (d : Deployed) (h : List Entry) (i j : ℕ) (notes : List BeatNote) (n : ℕ) (r : ℕ × BeatNote) → best_below d h i j notes n ≡ Some r → In notes r.1 × (is_complete d h i j r.1 ≡ true)
unfolding best_below
best-step d h i j notes zero r e = absurd (cc)
best-step d h i j notes (suc n) r e = note-step d h i j notes n r (has ◌==◌ (beats_taken h i j) n) (slice_get notes n) (best_below d h i j notes n) refl (best-step d h i j notes n r) e

pub beats-gave : (d : Deployed) (h : List Entry) (i j : ℕ) (note : BeatNote) → In (beats d h i j) note → Gives (beat_entry d i j) h note
unfolding beats
beats-gave d h i j note m = listed-gives (beat_entry d i j) h note m

pub best-is : (d : Deployed) (h : List Entry) (j i : ℕ) (r : ℕ × BeatNote) → best d h j i ≡ Some r → Best d h j i r.1
unfolding best
best-is d h j i r e =
    let w : In (beats d h i j) r.1 × (is_complete d h i j r.1 ≡ true) = best-step d h i j (beats d h i j) (length (beats d h i j)) r e in
    let g : (b : List Entry) × (x : Entry) × Later (x ∷ b) h × (beat_entry d i j b x ≡ Some r.1) = gave-at (beat_entry d i j) h r.1 (beats-gave d h i j r.1 w.0) in
    record { at = g.0; later = later-trans g.0 (g.1 ∷ g.0) h (more now) g.2; is = is-note d i j g.0 g.1 r.1 g.3; complete = w.1 }

-- ---- what a complete beat counts was brought

prefix-passes : (p : Label → Bool) (ls : List Label) (m : ℕ) (l : Label) → m < prefix_len p ls → slice_get ls m ≡ Some l → p l ≡ true
prefix-passes p [] m l lt e = absurd (cc)
prefix-passes p (x ∷ ls) m l lt e = go (p x) refl m lt e (λ n. prefix-passes p ls n l)
  where
    go : (b : Bool) → p x ≡ b → (m : ℕ) → m < cond b (1 + prefix_len p ls) 0 → slice_get (x ∷ ls) m ≡ Some l → ((n : ℕ) → n < prefix_len p ls → slice_get ls n ≡ Some l → p l ≡ true) → p l ≡ true
    go false w m lt e old = absurd (omega arith)
    go true w zero lt e old = subst (λ (y : Label). p y ≡ true) (some_is x l e) w
    go true w (suc n) lt e old = old n (omega arith) e

all-below : (f : ℕ → Bool) (n k : ℕ) → list_all f (below n) ≡ true → k < n → f k ≡ true
all-below f zero k e b = absurd (omega arith)
all-below f (suc n) k e b =
    let w : (list_all f (below n) ≡ true) × (list_all f (n ∷ []) ≡ true) = all-parts f (below n) (n ∷ []) e in
    elim (split_le k n (omega arith)) [
      | inl s ↦ subst (λ (m : ℕ). f m ≡ true) (sym s) (and_parts (f n) true w.1).0
      | inr lt ↦ all-below f n k w.0 lt
    ]
  where
    both : (a b : Bool) → a ≡ true → b ≡ true → (a && b) ≡ true
    both true b e f = f
    both false b e f = absurd (cc)

    all-parts : (f : ℕ → Bool) (xs ys : List ℕ) → list_all f (xs ++ ys) ≡ true → (list_all f xs ≡ true) × (list_all f ys ≡ true)
    all-parts f [] ys e = (refl, e)
    all-parts f (x ∷ xs) ys e =
        let w : (f x ≡ true) × (list_all f (xs ++ ys) ≡ true) = and_parts (f x) (list_all f (xs ++ ys)) e in
        let y : (list_all f xs ≡ true) × (list_all f ys ≡ true) = all-parts f xs ys w.1 in
        (both (f x) (list_all f xs) w.0 y.0, y.1)

complete-at : (d : Deployed) (h : List Entry) (i j g : ℕ) (note : BeatNote) → is_complete d h i j note ≡ true → g < d.gears → note.counts g ≤ lane_front d h i g j
unfolding is_complete
complete-at d h i j g note e b = leb-true (note.counts g) (lane_front d h i g j) (all-below (λ k. nat_le (note.counts k) (lane_front d h i k j)) d.gears g e b)

pub in-lane-of : (d : Deployed) (h : List Entry) (j : ℕ) (l : Label) → Made h l → is_update l.kind ≡ true → is_target d l j ≡ true → In (lane d h l.point.site l.point.gear j) l
unfolding lane
in-lane-of d h j l m u t = gives-listed (lane_entry d l.point.site l.point.gear j) h l (gives-map (λ before e. made_in e.answer) (lane_entry d l.point.site l.point.gear j) l l (λ b e w. lane-now b e w) h m)
  where
    own : (i g : ℕ) → ((i == i) && (g == g)) ≡ true
    own i g = grind (arith, nat_tests)

    both : (a b : Bool) → a ≡ true → b ≡ true → (a && b) ≡ true
    both true b e f = f
    both false b e f = absurd (cc)

    lane-now : (b : List Entry) (e : Entry) → made_in e.answer ≡ Some l → lane_entry d l.point.site l.point.gear j b e ≡ Some l
    lane-now b e w = keep (λ (m : Label). is_update m.kind && is_target d m j) (made_entry l.point.site l.point.gear b e) l (keep (λ (m : Label). (m.point.site == l.point.site) && (m.point.gear == l.point.gear)) (made_in e.answer) l w (own l.point.site l.point.gear)) (both (is_update l.kind) (is_target d l j) u t)

front-brought : (d : Deployed) (h : List Entry) (i g j m : ℕ) (l : Label) → m < lane_front d h i g j → slice_get (lane d h i g j) m ≡ Some l → Brings h j l
unfolding lane_front brought
front-brought d h i g j m l lt e =
    let w : has label_eq (listed (brought_entry j) h) l ≡ true = prefix-passes (λ l. has label_eq (listed (brought_entry j) h) l) (lane d h i g j) m l lt e in
    listed-gives (brought_entry j) h l (has-in (listed (brought_entry j) h) l w)

lane-later : (d : Deployed) (b h : List Entry) (i g j m : ℕ) (l : Label) → Later b h → slice_get (lane d b i g j) m ≡ Some l → slice_get (lane d h i g j) m ≡ Some l
unfolding lane
lane-later d b h i g j m l t e = later-places (lane_entry d i g j) b h m l t e

-- what its maker had gathered when it made a complete beat was brought
pub beat-brought : (d : Deployed) (h : List Entry) (j : ℕ) (note : BeatNote) (l : Label) → l.point.gear < d.gears → (b : Best d h j l.point.site note) → Made (gathered b.at l.point.site) l → is_update l.kind ≡ true → is_target d l j ≡ true → Brings h j l
beat-brought d h j note l g b m u k =
    let p : (n : ℕ) × (slice_get (lane d (gathered b.at l.point.site) l.point.site l.point.gear j) n ≡ Some l) = In-place (lane d (gathered b.at l.point.site) l.point.site l.point.gear j) l (in-lane-of d (gathered b.at l.point.site) j l m u k) in
    let lt : p.0 < length (lane d (gathered b.at l.point.site) l.point.site l.point.gear j) = get-below (lane d (gathered b.at l.point.site) l.point.site l.point.gear j) p.0 l p.1 in
    let c : note.counts l.point.gear ≤ lane_front d h l.point.site l.point.gear j = complete-at d h l.point.site j l.point.gear note b.complete g in
    let e : length (lane d (gathered b.at l.point.site) l.point.site l.point.gear j) ≡ note.counts l.point.gear = ap (λ (z : BeatNote). z.counts l.point.gear) b.is in
    front-brought d h l.point.site l.point.gear j p.0 l (omega arith) (lane-later d (gathered b.at l.point.site) h l.point.site l.point.gear j p.0 l (later-trans (gathered b.at l.point.site) b.at h (gathered-later b.at l.point.site) b.later) p.1)
