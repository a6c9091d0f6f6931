-- Each run without clocks and settles, whose entries stand, is the merge of kept lists that fit.
use Rattle.std.specs.Prelude.{◌≡◌, ◌⊎◌, ◌<◌, ◌≤◌, ℕ, zero, suc, ◌+◌, Bool, true, false, List, [], ◌∷◌, ◌++◌, length, map, filter, cond, Option, Some, None, slice_get, refl}
use Rattle.std.proofs.Common.{sym, subst, ap, ◌∙◌, arith, inl, inr}
use Rattle.sat_label.proofs.Members.{In-filter, into-filter}
use Rattle.sat_label.specs.declared.label.Label.{Label}
use Rattle.sat_label.specs.declared.node.NodeId.{NodeId}
use Rattle.sat_tree.specs.Shape.{TreeShape}
use Rattle.sat_act.specs.declared.entry.Entry.{Entry}
use Rattle.sat_act.specs.Deployed.{Deployed}
use Rattle.sat_act.specs.Histories.{listed}
use Rattle.sat_act.specs.Parts.{BeatNote, tree_of, lane, beats, seat, entered, entered_entry, taken, taken_entry}
use Rattle.sat_act.specs.Answers.{InRange}
use Rattle.sat_act.specs.Runs.{IsRun}
use Rattle.sat_act.specs.Goals.{IsValid}
use Rattle.sat_bulk.specs.Payloads.{Payload}
use Rattle.sat_laws.proofs.Runs.{before_of, range_of}
use Rattle.sat_laws.proofs.Links.{taking, taken-if, get-keep}
use Rattle.sat_laws.proofs.Labels.{some_is}
use Rattle.sat_model.specs.State.{SiteState}
use Rattle.sat_model.specs.Replay.{carrying, given_number}
use Rattle.sat_model.proofs.Lanes.{lanes-agree}
use Rattle.sat_model.proofs.Beating.{made-agrees}
use Rattle.sat_label.specs.Members.{In}
use Rattle.sat_stitch.specs.Kept.{OfPayload, OfBeat, OfClient, Kept, entry_of, history, Each, Rising, Ordered, numbered, marks}
use Rattle.sat_stitch.specs.Places.{Place, AtSite, places, stands_at, node_place, Session, Client, session_of, in_session}
use Rattle.sat_stitch.specs.Nodes.{stands, put_on, took_from, makes_payload, makes_beat, asked, site_after}
use Rattle.sat_stitch.specs.Fit.{IsHanded, IsMade, PayloadsHanded, BeatsHanded, IsKnown, IsSessionOf}
use Rattle.sat_stitch.specs.Given.{payload_given, beat_given, given_in, kept_of, kept_all, lists_of, sessions_of, IsLive, RunsFit}
use Rattle.sat_stitch.proofs.Marks.{items, items-length, marks-listed}
use Rattle.sat_stitch.proofs.Tables.{stands-self, client-is, in-session-is, is-in-session}
use Rattle.sat_stitch.proofs.Parts.{entered-part, taken-part, handling-part, taken_by, carrying-part, seat-part}
use Rattle.sat_stitch.proofs.Senders.{lane-made, beats-made}
use Rattle.sat_stitch.proofs.Steps.{asked-is}
use Rattle.sat_stitch.proofs.Handing.{history-is, stands-alone, stands-somewhere, known-in, states-in}
use Rattle.sat_stitch.proofs.Answering.{answers-in}
use Rattle.sat_model.specs.Parts.{valued}

-- ---- numbers

one_more : (n : ℕ) → n + 1 ≤ suc n
one_more n = omega arith

le_more : (a n : ℕ) → a ≤ n → a ≤ suc n
le_more a n l = omega arith

lt_more : (a n : ℕ) → a ≤ n → a < n + 1
lt_more a n l = omega arith

lt_le : (a b : ℕ) → a < b → a ≤ b
lt_le a b l = omega arith

number-in : (d : Deployed) (h : List Entry) (k : Kept) → In (kept_all d h) k → k.number ≤ length h
number-in d [] k i = absurd i
number-in d (e ∷ h) k (inl w) = subst (λ (k : Kept). k.number ≤ suc (length h)) w (one_more (length h))
number-in d (e ∷ h) k (inr i) = le_more k.number (length h) (number-in d h k i)

rising-all : (d : Deployed) (h : List Entry) → Rising (kept_all d h)
rising-all d [] = tt
rising-all d (e ∷ h) = (rising-all d h, λ k i. lt_more k.number (length h) (number-in d h k i))

rising-filter : (q : Kept → Bool) (ks : List Kept) → Rising ks → Rising (filter q ks)
rising-filter q [] r = tt
rising-filter q (k ∷ ks) r = go (q k) (rising-filter q ks r.0)
  where
    go : (b : Bool) → Rising (filter q ks) → Rising (cond b (k ∷ filter q ks) (filter q ks))
    go true s = (s, λ x i. r.1 x (In-filter q ks x i).0)
    go false s = s

ordered-rising : (ks : List Kept) → Rising ks → Ordered ks
ordered-rising [] r = tt
ordered-rising (k ∷ ks) r = (ordered-rising ks r.0, λ x i. lt_le x.number k.number (r.1 x i))

-- ---- what holds of each entry

range-in : (d : Deployed) (h : List Entry) (k : Kept) → IsRun d h → In (kept_all d h) k → InRange d k.act
range-in d [] k run i = absurd i
range-in d (e ∷ h) k run (inl w) = subst (λ (k : Kept). InRange d k.act) w (range_of d h e run)
range-in d (e ∷ h) k run (inr i) = range-in d h k (before_of d h e run) i

standing-in : (d : Deployed) (h : List Entry) (k : Kept) → IsLive h → In (kept_all d h) k → stands k.answer ≡ true
standing-in d [] k l i = absurd i
standing-in d (e ∷ h) k l (inl w) = subst (λ (k : Kept). stands k.answer ≡ true) w l.3
standing-in d (e ∷ h) k l (inr i) = standing-in d h k l.0 i

place-in : (d : Deployed) (h : List Entry) (k : Kept) → IsLive h → In (kept_all d h) k → (p : Place) × (places k.act k.given ≡ p ∷ [])
place-in d [] k l i = absurd i
place-in d (e ∷ h) k l (inl w) = subst (λ (k : Kept). (p : Place) × (places k.act k.given ≡ p ∷ [])) w (stands-somewhere d h e.act l.2)
place-in d (e ∷ h) k l (inr i) = place-in d h k l.0 i

list-in : (d : Deployed) (h : List Entry) (k : Kept) → IsLive h → In (kept_all d h) k → (p : Place) × In (lists_of d h p) k
list-in d h k l i =
    let p : (p : Place) × (places k.act k.given ≡ p ∷ []) = place-in d h k l i in
    (p.0, into-filter (stands_at p.0) (kept_all d h) k i (stands-self p.0 k p.1))

-- ---- marks

get-back : {X : Type 0} (zs : List (ℕ × X)) (n : ℕ) (x : X) → slice_get (items zs) n ≡ Some x → (m : ℕ) × (slice_get zs n ≡ Some (m, x))
get-back [] n x e = absurd (cc)
get-back (z ∷ zs) zero x e = (z.0, λ i. Some (z.0, some_is z.1 x e i))
get-back (z ∷ zs) (suc n) x e = get-back zs n x e

module _ {X : Type 0} where
  last-one : (c : ℕ) (o : Option X) (n a : ℕ) (x : X) → slice_get (numbered c o) n ≡ Some (a, x) → (n ≡ 0) × (a ≡ c) × (o ≡ Some x)
  last-one c None n a x e = absurd (cc)
  last-one c (Some y) zero a x e =
      let w : (c, y) ≡ (a, x) = some_is (c, y) (a, x) e in
      (refl, ap (λ (p : ℕ × X). p.0) (sym w), ap (λ (p : ℕ × X). Some p.1) w)
  last-one c (Some y) (suc n) a x e = absurd (cc)

  get-last : (zs : List (ℕ × X)) (c : ℕ) (o : Option X) (n a : ℕ) (x : X) → slice_get (zs ++ numbered c o) n ≡ Some (a, x) → (slice_get zs n ≡ Some (a, x)) ⊎ ((n ≡ length zs) × (a ≡ c) × (o ≡ Some x))
  get-last [] c o n a x e = inr (last-one c o n a x e)
  get-last (z ∷ zs) c o zero a x e = inl e
  get-last (z ∷ zs) c o (suc n) a x e = elim (get-last zs c o n a x e) [ inl k ↦ inl k | inr k ↦ inr (ap suc k.0, k.1, k.2) ]

  mark-number : (f : List Kept → Kept → Option X) (ks : List Kept) (n a : ℕ) (x : X) → slice_get (marks f ks) n ≡ Some (a, x) → (k : Kept) × In ks k × (a ≡ k.number)
  mark-number f [] n a x e = absurd (cc)
  mark-number f (k ∷ ks) n a x e = elim (get-last (marks f ks) k.number (f ks k) n a x e) [
    | inl w ↦ let y : (k : Kept) × In ks k × (a ≡ k.number) = mark-number f ks n a x w in (y.0, inr y.1, y.2)
    | inr w ↦ (k, inl refl, w.1)
  ]

  marks-grow : (f : List Kept → Kept → Option X) (q : Kept → Bool) (k : Kept) (ks : List Kept) (n : ℕ) (y : ℕ × X) → slice_get (marks f (filter q ks)) n ≡ Some y → slice_get (marks f (filter q (k ∷ ks))) n ≡ Some y
  marks-grow f q k ks n y e = go (q k)
    where
      go : (b : Bool) → slice_get (marks f (cond b (k ∷ filter q ks) (filter q ks))) n ≡ Some y
      go true = get-keep (marks f (filter q ks)) (numbered k.number (f (filter q ks) k)) n y e
      go false = e

  made-grows : (f : List Kept → Kept → Option X) (q : Kept → Bool) (k : Kept) (ks : List Kept) (n : ℕ) (x : X) (number : ℕ) → IsMade (marks f (filter q ks)) n x number → IsMade (marks f (filter q (k ∷ ks))) n x number
  made-grows f q k ks n x number m = (m.0, marks-grow f q k ks n (m.0, x) m.1, m.2)

  -- what stands among the items of a run's list was made under a smaller number than the next entry's
  made-in : (d : Deployed) (h : List Entry) (f : List Kept → Kept → Option X) (p : Place) (n : ℕ) (x : X) → slice_get (items (marks f (lists_of d h p))) n ≡ Some x → IsMade (marks f (lists_of d h p)) n x (length h + 1)
  made-in d h f p n x e =
      let y : (m : ℕ) × (slice_get (marks f (lists_of d h p)) n ≡ Some (m, x)) = get-back (marks f (lists_of d h p)) n x e in
      let k : (k : Kept) × In (lists_of d h p) k × (y.0 ≡ k.number) = mark-number f (lists_of d h p) n y.0 x y.1 in
      (y.0, y.1, subst (λ (m : ℕ). m < length h + 1) (sym k.2) (lt_more k.0.number (length h) (number-in d h k.0 (In-filter (stands_at p) (kept_all d h) k.0 k.1).0)))

-- ---- links

entry-is : (d : Deployed) (h : List Entry) (x : Entry) → x.inner ≡ false → entry_of (kept_of d h x) ≡ x
entry-is d h x e = λ i. record { act = x.act; answer = x.answer; inner = sym e i }

new-taking : (d : Deployed) (h : List Entry) (x : Entry) (e : ℕ) (t : TreeShape) (u v : NodeId) (l : Label) → IsRun d (x ∷ h) → IsLive (x ∷ h) → tree_of d e ≡ Some t → stands_at (node_place e v) (kept_of d h x) ≡ true →
    took_from d e u v (lists_of d h (node_place e v)) (kept_of d h x) ≡ Some l → IsMade (marks (put_on d e t u v) (lists_of d h (node_place e u))) (length (marks (took_from d e u v) (lists_of d h (node_place e v)))) l (length h + 1)
unfolding entered taken
new-taking d h x e t u v l run live tree st w =
    let whole : taken_entry d e u v (history (kept_all d h)) (entry_of (kept_of d h x)) ≡ Some l = ap (taken_by e u v) (handling-part d (node_place e v) (kept_all d h) (kept_of d h x) st) ∙ w in
    let now : taken_entry d e u v h x ≡ Some l = sym (λ i. taken_entry d e u v (history-is d h live.0 i) (entry-is d h x live.1 i)) ∙ whole in
    let front : slice_get (listed (entered_entry d e t u v) h) (length (listed (taken_entry d e u v) h)) ≡ Some l = (taking d h x e t u v l run tree (taken-if d e u v h x l now)).0 in
    let put : listed (entered_entry d e t u v) h ≡ items (marks (put_on d e t u v) (lists_of d h (node_place e u))) =
    ap (listed (entered_entry d e t u v)) (sym (history-is d h live.0)) ∙ (entered-part d e t u v (kept_all d h) ∙ sym (marks-listed (entered_entry d e t u v) (lists_of d h (node_place e u)))) in
    let count : length (listed (taken_entry d e u v) h) ≡ length (marks (took_from d e u v) (lists_of d h (node_place e v))) =
    ap (λ (ls : List Label). length ls) (ap (listed (taken_entry d e u v)) (sym (history-is d h live.0)) ∙ (taken-part d e u v (kept_all d h) ∙ sym (marks-listed (taken_entry d e u v) (lists_of d h (node_place e v))))) ∙
    items-length (marks (took_from d e u v) (lists_of d h (node_place e v))) in
    made-in d h (put_on d e t u v) (node_place e u) (length (marks (took_from d e u v) (lists_of d h (node_place e v)))) l (sym (λ i. slice_get (put i) (count i)) ∙ front)

links-in : (d : Deployed) (h : List Entry) (e : ℕ) (t : TreeShape) (u v : NodeId) → IsRun d h → IsLive h → tree_of d e ≡ Some t → IsHanded (marks (took_from d e u v) (lists_of d h (node_place e v))) (marks (put_on d e t u v) (lists_of d h (node_place e u)))
links-in d [] e t u v run live tree k n x w = absurd (cc)
links-in d (y ∷ h) e t u v run live tree k n x w = go (stands_at (node_place e v) (kept_of d h y)) refl (λ z. links-in d h e t u v (before_of d h y run) live.0 tree k n x z) w
  where
    grown : IsMade (marks (put_on d e t u v) (lists_of d h (node_place e u))) k x n → IsMade (marks (put_on d e t u v) (lists_of d (y ∷ h) (node_place e u))) k x n
    grown m = made-grows (put_on d e t u v) (stands_at (node_place e u)) (kept_of d h y) (kept_all d h) k x n m

    go : (b : Bool) → stands_at (node_place e v) (kept_of d h y) ≡ b → (slice_get (marks (took_from d e u v) (lists_of d h (node_place e v))) k ≡ Some (n, x) → IsMade (marks (put_on d e t u v) (lists_of d h (node_place e u))) k x n) →
        slice_get (marks (took_from d e u v) (cond b (kept_of d h y ∷ filter (stands_at (node_place e v)) (kept_all d h)) (filter (stands_at (node_place e v)) (kept_all d h)))) k ≡ Some (n, x) →
        IsMade (marks (put_on d e t u v) (lists_of d (y ∷ h) (node_place e u))) k x n
    go false st old z = grown (old z)
    go true st old z = elim (get-last (marks (took_from d e u v) (lists_of d h (node_place e v))) (length h + 1) (took_from d e u v (lists_of d h (node_place e v)) (kept_of d h y)) k n x z) [
      | inl a ↦ grown (old a)
      | inr a ↦ grown (subst (λ (c : ℕ). IsMade (marks (put_on d e t u v) (lists_of d h (node_place e u))) c x n) (sym a.0)
          (subst (λ (c : ℕ). IsMade (marks (put_on d e t u v) (lists_of d h (node_place e u))) (length (marks (took_from d e u v) (lists_of d h (node_place e v)))) x c) (sym a.1) (new-taking d h y e t u v x run live tree st a.2)))
    ]

-- ---- payloads and beats

each-map : (P Q : List Kept → Kept → Type 0) (ks : List Kept) → ((b : List Kept) (k : Kept) → P b k → Q b k) → Each P ks → Each Q ks
each-map P Q [] f e = tt
each-map P Q (k ∷ ks) f e = (each-map P Q ks f e.0, f ks k e.1)

map-at : {X Y : Type 0} (f : X → Y) (xs : List X) (n : ℕ) (x : X) → slice_get xs n ≡ Some x → slice_get (map f xs) n ≡ Some (f x)
map-at f [] n x e = absurd (cc)
map-at f (y ∷ xs) zero x e = λ i. Some (f (some_is y x e i))
map-at f (y ∷ xs) (suc n) x e = map-at f xs n x e

payload-found : (h : List Entry) (N n : ℕ) (m : Option Label) (p : Payload) → payload_given h N m ≡ OfPayload n p → (l : Label) × (m ≡ Some l) × (N ≡ n) × (valued h l ≡ p)
payload-found h N n None p e = absurd (cc)
payload-found h N n (Some l) p e = (l, refl, cc, cc)

beat-found : (m : Option BeatNote) (note : BeatNote) → beat_given m ≡ OfBeat note → m ≡ Some note
beat-found None note e = absurd (cc)
beat-found (Some b) note e = cc

new-payload : (d : Deployed) (h : List Entry) (x : Entry) (j : ℕ) → IsValid d → IsRun d h → IsLive h → PayloadsHanded d (lists_of d h) j (lists_of d h (AtSite j)) (kept_of d h x)
new-payload d h x j v run live i g n o p ea eg =
    let f : (l : Label) × (slice_get (lane d h i g j) (given_number d h i g j o) ≡ Some l) × (given_number d h i g j o ≡ n) × (valued h l ≡ p) =
    payload-found h (given_number d h i g j o) n (slice_get (lane d h i g j) (given_number d h i g j o)) p (sym (ap (given_in d h) ea) ∙ eg) in
    let made : items (marks (makes_payload d g j) (lists_of d h (AtSite i))) ≡ map (valued h) (lane d h i g j) =
    lane-made d i g j (lists_of d h (AtSite i)) ∙ (ap (λ (s : SiteState). (s.gears g).lanes j) (states-in d h i live) ∙ lanes-agree d h i g j v run) in
    let there : slice_get (items (marks (makes_payload d g j) (lists_of d h (AtSite i)))) n ≡ Some p =
    (λ t. slice_get (made t) (sym f.2 t)) ∙ (map-at (valued h) (lane d h i g j) (given_number d h i g j o) f.0 f.1 ∙ (λ t. Some (f.3 t))) in
    (sym f.2 ∙ (asked-is d h i g j o v run ∙ ap (λ (s : SiteState). asked s i g o) (sym (states-in d h j live))), made-in d h (makes_payload d g j) (AtSite i) n p there)

new-beat : (d : Deployed) (h : List Entry) (x : Entry) (j : ℕ) → IsValid d → IsRun d h → IsLive h → BeatsHanded d (lists_of d h) j (lists_of d h (AtSite j)) (kept_of d h x)
new-beat d h x j v run live i n note ea eg =
    let f : slice_get (beats d h i j) n ≡ Some note = beat-found (slice_get (beats d h i j) n) note (sym (ap (given_in d h) ea) ∙ eg) in
    let made : items (marks (makes_beat d i j) (lists_of d h (AtSite i))) ≡ beats d h i j =
    beats-made d i j (lists_of d h (AtSite i)) ∙ (ap (λ (s : SiteState). s.made_beats j) (states-in d h i live) ∙ made-agrees d h i j v run) in
    made-in d h (makes_beat d i j) (AtSite i) n note (ap (λ (bs : List BeatNote). slice_get bs n) made ∙ f)

payloads-in : (d : Deployed) (j : ℕ) (h : List Entry) → IsValid d → IsRun d h → IsLive h → Each (PayloadsHanded d (lists_of d h) j) (lists_of d h (AtSite j))
payloads-in d j [] v run live = tt
payloads-in d j (x ∷ h) v run live = go (stands_at (AtSite j) (kept_of d h x)) (each-map (PayloadsHanded d (lists_of d h) j) (PayloadsHanded d (lists_of d (x ∷ h)) j) (lists_of d h (AtSite j)) grow (payloads-in d j h v (before_of d h x run) live.0))
  where
    grow : (b : List Kept) (k : Kept) → PayloadsHanded d (lists_of d h) j b k → PayloadsHanded d (lists_of d (x ∷ h)) j b k
    grow b k f i g n o p ea eg = let w : (n ≡ asked (site_after d j b) i g o) × IsMade (marks (makes_payload d g j) (lists_of d h (AtSite i))) n p k.number = f i g n o p ea eg in
        (w.0, made-grows (makes_payload d g j) (stands_at (AtSite i)) (kept_of d h x) (kept_all d h) n p k.number w.1)

    go : (b : Bool) → Each (PayloadsHanded d (lists_of d (x ∷ h)) j) (filter (stands_at (AtSite j)) (kept_all d h)) →
        Each (PayloadsHanded d (lists_of d (x ∷ h)) j) (cond b (kept_of d h x ∷ filter (stands_at (AtSite j)) (kept_all d h)) (filter (stands_at (AtSite j)) (kept_all d h)))
    go true r = (r, grow (filter (stands_at (AtSite j)) (kept_all d h)) (kept_of d h x) (new-payload d h x j v (before_of d h x run) live.0))
    go false r = r

beats-in : (d : Deployed) (j : ℕ) (h : List Entry) → IsValid d → IsRun d h → IsLive h → Each (BeatsHanded d (lists_of d h) j) (lists_of d h (AtSite j))
beats-in d j [] v run live = tt
beats-in d j (x ∷ h) v run live = go (stands_at (AtSite j) (kept_of d h x)) (each-map (BeatsHanded d (lists_of d h) j) (BeatsHanded d (lists_of d (x ∷ h)) j) (lists_of d h (AtSite j)) grow (beats-in d j h v (before_of d h x run) live.0))
  where
    grow : (b : List Kept) (k : Kept) → BeatsHanded d (lists_of d h) j b k → BeatsHanded d (lists_of d (x ∷ h)) j b k
    grow b k f i n note ea eg = made-grows (makes_beat d i j) (stands_at (AtSite i)) (kept_of d h x) (kept_all d h) n note k.number (f i n note ea eg)

    go : (b : Bool) → Each (BeatsHanded d (lists_of d (x ∷ h)) j) (filter (stands_at (AtSite j)) (kept_all d h)) →
        Each (BeatsHanded d (lists_of d (x ∷ h)) j) (cond b (kept_of d h x ∷ filter (stands_at (AtSite j)) (kept_all d h)) (filter (stands_at (AtSite j)) (kept_all d h)))
    go true r = (r, grow (filter (stands_at (AtSite j)) (kept_all d h)) (kept_of d h x) (new-beat d h x j v (before_of d h x run) live.0))
    go false r = r

-- ---- sessions

session-in : (d : Deployed) (h : List Entry) (s : Session) → IsLive h → IsSessionOf d (lists_of d h) s (sessions_of d h s)
session-in d h s live = record {
  rising = rising-filter (in_session s) (kept_all d h) (rising-all d h);
  only = λ k i.
      let y : In (kept_all d h) k × (in_session s k ≡ true) = In-filter (in_session s) (kept_all d h) k i in
      (in-session-is s (session_of k.act) y.1, list-in d h k live y.0);
  whole = λ p k i e. into-filter (in_session s) (kept_all d h) k (In-filter (stands_at p) (kept_all d h) k i).0 (is-in-session s (session_of k.act) e);
}

knows-in : (d : Deployed) (c : ℕ) (h : List Entry) → IsLive h → Each (IsKnown d (lists_of d h) c) (sessions_of d h (Client c))
knows-in d c [] live = tt
knows-in d c (x ∷ h) live = go (in_session (Client c) (kept_of d h x)) refl (knows-in d c h live.0)
  where
    here : in_session (Client c) (kept_of d h x) ≡ true → given_in d h x.act ≡ OfClient (carrying (history (sessions_of d h (Client c))) c) (seat d (history (sessions_of d h (Client c))) c)
    here w =
        known-in d h x.act c (sym (client-is x.act c) ∙ w) ∙
        (λ i. OfClient ((ap (λ (h : List Entry). carrying h c) (sym (history-is d h live.0)) ∙ carrying-part c (kept_all d h)) i) ((ap (λ (h : List Entry). seat d h c) (sym (history-is d h live.0)) ∙ seat-part d c (kept_all d h)) i))

    go : (b : Bool) → in_session (Client c) (kept_of d h x) ≡ b → Each (IsKnown d (lists_of d h) c) (filter (in_session (Client c)) (kept_all d h)) →
        Each (IsKnown d (lists_of d (x ∷ h)) c) (cond b (kept_of d h x ∷ filter (in_session (Client c)) (kept_all d h)) (filter (in_session (Client c)) (kept_all d h)))
    go true w r = (r, here w)
    go false w r = r

pub runs-fit : RunsFit
runs-fit d h v run live = (
  record {
    rising = λ p. rising-filter (stands_at p) (kept_all d h) (rising-all d h);
    placed = λ p k i. stands-alone k.act k.given p (In-filter (stands_at p) (kept_all d h) k i).1;
    ranges = λ p k i. range-in d h k run (In-filter (stands_at p) (kept_all d h) k i).0;
    answers = λ p. answers-in d p h v run live;
    links = λ e t u v tree edge. links-in d h e t u v run live tree;
    payloads = λ j. payloads-in d j h v run live;
    beats = λ j. beats-in d j h v run live;
    kept = λ s. session-in d h s live;
    known = λ c. knows-in d c h live;
    standing = λ p k i. standing-in d h k live (In-filter (stands_at p) (kept_all d h) k i).0;
  },
  record { ordered = ordered-rising (kept_all d h) (rising-all d h); whole = λ k i. list-in d h k live i; parts = λ p. refl },
  history-is d h live,
)
