-- Each label that was sent and never taken has a cross, and nothing else has one.
use Rattle.std.proofs.Common.{◌≡◌, ◌⊎◌, ℕ, ◌==◌, Bool, true, false, List, [], ◌∷◌, ◌++◌, length, refl, sym, ap, subst, ◌∙◌, inl, inr, arith}
use Rattle.std.specs.Prelude.{◌&&◌, ◌||◌, Option, Some, None, if◌then◌else◌}
use Rattle.std.specs.List.{list_any, flat_map}
use Rattle.std.proofs.lemmas.Bool.{and_from, and_parts, or_parts, eqb-true}
use Rattle.std.proofs.lemmas.Bool.Decides.{nat_tests}
use Rattle.sat_label.specs.Members.{In}
use Rattle.sat_label.specs.Words.{has}
use Rattle.sat_label.proofs.Members.{In-left, In-right, In-parts}
use Rattle.sat_act.specs.declared.entry.Entry.{Entry}
use Rattle.sat_act.specs.Deployed.{Deployed}
use Rattle.sat_draw.specs.declared.element.Spot.{Spot}
use Rattle.sat_draw.specs.declared.element.Element.{Element}
use Rattle.sat_draw.specs.declared.element.Element.TheVariants.{Lost}
use Rattle.sat_draw.specs.declared.trail.Trail.{Trail}
use Rattle.sat_draw.specs.declared.lost.Sending.{Sending}
use Rattle.sat_draw.specs.Trails.{trail_eq, left_by, comes_from}
use Rattle.sat_draw.specs.Rows.{spot_of, marks, ways}
use Rattle.sat_draw.specs.Lost.{is_link, is_settled, takes, after_taking, lost_spot, beside, sending, sending_at, sendings_at, sendings, is_spot, lost_way, cross_for, crosses_by, crosses}
use Rattle.sat_draw.specs.Rests.{rests}
use Rattle.sat_draw.specs.Head.{head}
use Rattle.sat_draw.specs.Drawing.{lines, elements}
use Rattle.sat_draw.specs.Laws.{ends_way, IsLost, LostAreCrossed}
use Rattle.sat_draw.proofs.Marks.{IsOfRows, some-is, not-free, head-free, ways-free, rests-free, marks-free}

-- ---- trails and spots by their numbers

same : (n : ℕ) → (n == n) ≡ true
same n = grind (arith, nat_tests)

trails-are : (s t : Trail) → s.stop ≡ t.stop → s.at ≡ t.at → s.ts ≡ t.ts → s.site ≡ t.site → s.gear ≡ t.gear → s.rank ≡ t.rank → s.number ≡ t.number → s ≡ t
trails-are s t a b c e f g h = λ i. record { stop = a i; at = b i; ts = c i; site = e i; gear = f i; rank = g i; number = h i }

same-trail : (s t : Trail) → trail_eq s t ≡ true → s ≡ t
same-trail s t e =
    let a : ((s.stop == t.stop) ≡ true) × (((s.at == t.at) && ((s.ts == t.ts) && ((s.site == t.site) && ((s.gear == t.gear) && ((s.rank == t.rank) && (s.number == t.number)))))) ≡ true) = and_parts _ _ e in
    let b : ((s.at == t.at) ≡ true) × (((s.ts == t.ts) && ((s.site == t.site) && ((s.gear == t.gear) && ((s.rank == t.rank) && (s.number == t.number))))) ≡ true) = and_parts _ _ a.1 in
    let c : ((s.ts == t.ts) ≡ true) × (((s.site == t.site) && ((s.gear == t.gear) && ((s.rank == t.rank) && (s.number == t.number)))) ≡ true) = and_parts _ _ b.1 in
    let f : ((s.site == t.site) ≡ true) × (((s.gear == t.gear) && ((s.rank == t.rank) && (s.number == t.number))) ≡ true) = and_parts _ _ c.1 in
    let g : ((s.gear == t.gear) ≡ true) × (((s.rank == t.rank) && (s.number == t.number)) ≡ true) = and_parts _ _ f.1 in
    let h : ((s.rank == t.rank) ≡ true) × ((s.number == t.number) ≡ true) = and_parts _ _ g.1 in
    trails-are s t (eqb-true _ _ a.0) (eqb-true _ _ b.0) (eqb-true _ _ c.0) (eqb-true _ _ f.0) (eqb-true _ _ g.0) (eqb-true _ _ h.0) (eqb-true _ _ h.1)

among : (ts : List Trail) (t : Trail) → has trail_eq ts t ≡ true → In ts t
among [] t e = absurd (cc)
among (s ∷ ts) t e = go (trail_eq s t) refl (among ts t) e
  where
    go : (b : Bool) → trail_eq s t ≡ b → (has trail_eq ts t ≡ true → In ts t) → (b || has trail_eq ts t) ≡ true → (s ≡ t) ⊎ In ts t
    go true k rest found = inl (same-trail s t k)
    go false k rest found = inr (rest found)

spots-are : (r s : Spot) → r.x ≡ s.x → r.y ≡ s.y → r ≡ s
spots-are r s a b = λ i. record { x = a i; y = b i }

spot-is : (o : Option Spot) (here : Spot) → is_spot o here ≡ true → o ≡ Some here
spot-is None here e = absurd (cc)
spot-is (Some r) here e =
    let p : ((r.x == here.x) ≡ true) × ((r.y == here.y) ≡ true) = and_parts _ _ e in
    ap Some (spots-are r here (eqb-true _ _ p.0) (eqb-true _ _ p.1))

-- ---- what is lost is known

passes : (a b c : Bool) (o y : Option Spot) → (a || (b || c)) ≡ false → (if c then o else (if a || b then None else y)) ≡ y
passes true b c o y e = absurd (cc)
passes false true c o y e = absurd (cc)
passes false false true o y e = absurd (cc)
passes false false false o y e = refl

left-here : (c : Bool) (o y : Option Spot) → c ≡ true → (if c then o else y) ≡ o
left-here true o y e = refl
left-here false o y e = absurd (cc)

lost-is : (d : Deployed) (later : List Entry) (entry : Entry) (before : List Entry) (t : Trail) → has trail_eq (left_by entry.act entry.answer) t ≡ true
    → list_any (ends_way t) later ≡ false → lost_spot d (later ++ entry ∷ before) t ≡ Some (spot_of d before entry)
unfolding lost_spot
lost-is d [] entry before t left never =
    left-here (has trail_eq (left_by entry.act entry.answer) t) (Some (spot_of d before entry))
    (after_taking (is_settled entry.answer) (comes_from entry.act entry.answer) (lost_spot d before t) t) left
lost-is d (e ∷ later) entry before t left never =
    let p : (ends_way t e ≡ false) × (list_any (ends_way t) later ≡ false) = or_parts (ends_way t e) (list_any (ends_way t) later) never in
    passes (is_settled e.answer) (takes (comes_from e.act e.answer) t) (has trail_eq (left_by e.act e.answer) t)
    (Some (spot_of d (later ++ entry ∷ before) e)) (lost_spot d (later ++ entry ∷ before) t) p.0 ∙ lost-is d later entry before t left p.1

in-flat : {X Y : Type 0} (f : X → List Y) (xs : List X) (x : X) (y : Y) → In xs x → In (f x) y → In (flat_map f xs) y
in-flat {X} {Y} f [] x y within found = absurd within
in-flat {X} {Y} f (z ∷ xs) x y (inl e) found = In-left (f z) (flat_map f xs) y (subst (λ (w : X). In (f w) y) (sym e) found)
in-flat {X} {Y} f (z ∷ xs) x y (inr rest) found = In-right (f z) (flat_map f xs) y (in-flat f xs x y rest found)

sending-in : (here : Spot) (t : Trail) → is_link t ≡ true → In (sending_at here t) (sending here t)
sending-in here t e = go (is_link t) e
  where
    go : (b : Bool) → b ≡ true → In (if b then sending here t ∷ [] else []) (sending here t)
    go true k = inl refl
    go false k = absurd (cc)

sent-in : (d : Deployed) (later : List Entry) (entry : Entry) (before : List Entry) (t : Trail) → is_link t ≡ true → has trail_eq (left_by entry.act entry.answer) t ≡ true
    → In (sendings d (later ++ entry ∷ before)) (sending (spot_of d before entry) t)
unfolding sendings
sent-in d [] entry before t link left =
    let here = spot_of d before entry in
    In-right (sendings d before) (sendings_at here (left_by entry.act entry.answer)) (sending here t)
    (in-flat (sending_at here) (left_by entry.act entry.answer) t (sending here t) (among (left_by entry.act entry.answer) t left) (sending-in here t link))
sent-in d (e ∷ later) entry before t link left =
    let h = later ++ entry ∷ before in
    In-left (sendings d h) (sendings_at (spot_of d h e) (left_by e.act e.answer)) (sending (spot_of d before entry) t) (sent-in d later entry before t link left)

cross-in : (found : Trail → Option Spot) (here : Spot) (t : Trail) → found t ≡ Some here → In (cross_for found (sending here t)) (Lost t here (beside here))
cross-in found here t e = go (is_spot (found t) here) (ap (λ (o : Option Spot). is_spot o here) e ∙ and_from (here.x == here.x) (here.y == here.y) (same here.x) (same here.y))
  where
    go : (b : Bool) → b ≡ true → In (if b then lost_way (sending here t) ∷ [] else []) (Lost t here (beside here))
    go true k = inl refl
    go false k = absurd (cc)

crossed : (d : Deployed) (h : List Entry) (t : Trail) (here : Spot) → lost_spot d h t ≡ Some here → In (sendings d h) (sending here t) → In (crosses d h) (Lost t here (beside here))
unfolding crosses
crossed d h t here lost sent = in-flat (cross_for (lost_spot d h)) (sendings d h) (sending here t) (Lost t here (beside here)) sent (cross-in (lost_spot d h) here t lost)

in-drawing : (d : Deployed) (h : List Entry) (x : Element) → In (crosses d h) x → In (elements d h) x
unfolding elements
in-drawing d h x within =
    In-right (head d (length h)) (lines d h ++ marks d h) x (In-left (lines d h) (marks d h) x
    (In-right (ways d h) (crosses d h ++ rests d h) x (In-left (crosses d h) (rests d h) x within)))

each-crossed : (d : Deployed) (h : List Entry) (t : Trail) (here : Spot) → IsLost d h t here → In (elements d h) (Lost t here (beside here))
each-crossed d h t here is =
    subst (λ (k : List Entry). In (elements d k) (Lost t here (beside here))) (sym is.parts)
    (subst (λ (s : Spot). In (elements d (is.later ++ is.entry ∷ is.before)) (Lost t s (beside s))) (sym is.here_is)
    (in-drawing d (is.later ++ is.entry ∷ is.before) (Lost t (spot_of d is.before is.entry) (beside (spot_of d is.before is.entry)))
    (crossed d (is.later ++ is.entry ∷ is.before) t (spot_of d is.before is.entry)
    (lost-is d is.later is.entry is.before t is.left is.never) (sent-in d is.later is.entry is.before t is.sent is.left))))

-- ---- and only what is lost

lost-later : (d : Deployed) (h : List Entry) (e : Entry) (t : Trail) (s : Spot) → ends_way t e ≡ false → IsLost d h t s → IsLost d (e ∷ h) t s
lost-later d h e t s none is = record {
  later = e ∷ is.later;
  entry = is.entry;
  before = is.before;
  parts = ap (λ (xs : List Entry). e ∷ xs) is.parts;
  sent = is.sent;
  left = is.left;
  never = ap (λ (b : Bool). b || list_any (ends_way t) is.later) none ∙ is.never;
  here_is = is.here_is;
}

-- a test by cases on whether it was left, a settle was done, and it was taken
lost-last : (d : Deployed) (h : List Entry) (t : Trail) (s : Spot) → is_link t ≡ true → lost_spot d h t ≡ Some s → IsLost d h t s
unfolding lost_spot
lost-last d [] t s link e = absurd (cc)
lost-last d (entry ∷ before) t s link e =
    go (has trail_eq (left_by entry.act entry.answer) t) (is_settled entry.answer) (takes (comes_from entry.act entry.answer) t) refl refl refl (lost-last d before t s link) e
  where
    go : (a b c : Bool) → has trail_eq (left_by entry.act entry.answer) t ≡ a → is_settled entry.answer ≡ b → takes (comes_from entry.act entry.answer) t ≡ c
        → (lost_spot d before t ≡ Some s → IsLost d before t s)
        → (if a then Some (spot_of d before entry) else (if b || c then None else lost_spot d before t)) ≡ Some s → IsLost d (entry ∷ before) t s
    go true b c k settled taken rest found = record { later = []; entry = entry; before = before; parts = refl; sent = link; left = k; never = refl; here_is = sym (some-is (spot_of d before entry) s found) }
    go false true c k settled taken rest found = absurd (cc)
    go false false true k settled taken rest found = absurd (cc)
    go false false false k settled taken rest found =
        lost-later d before entry t s (ap (λ (b : Bool). b || (takes (comes_from entry.act entry.answer) t || has trail_eq (left_by entry.act entry.answer) t)) settled
        ∙ (ap (λ (c : Bool). c || has trail_eq (left_by entry.act entry.answer) t) taken ∙ k)) (rest found)

-- a cross among those that some sendings have
record IsFrom (found : Trail → Option Spot) (ss : List Sending) (t : Trail) (here : Spot) : Type 0 where
  from : Sending
  member : In ss from
  trail_is : from.trail ≡ t
  known : found t ≡ Some here

abbrev lost-trail : Trail → Element → Trail
lost-trail s (Lost t a b) = t
lost-trail s _ = s

abbrev lost-from : Spot → Element → Spot
lost-from s (Lost t a b) = a
lost-from s _ = s

one-cross : (found : Trail → Option Spot) (s : Sending) (ss : List Sending) (t : Trail) (here to : Spot) → In (cross_for found s) (Lost t here to) → IsFrom found (s ∷ ss) t here
one-cross found s ss t here to within = go (is_spot (found s.trail) s.here) refl within
  where
    go : (b : Bool) → is_spot (found s.trail) s.here ≡ b → In (if b then lost_way s ∷ [] else []) (Lost t here to) → IsFrom found (s ∷ ss) t here
    go true k (inl e) =
        let trail-is : s.trail ≡ t = ap (lost-trail t) e in
        record { from = s; member = inl refl; trail_is = trail-is; known = ap found (sym trail-is) ∙ (spot-is (found s.trail) s.here k ∙ ap Some (ap (lost-from here) e)) }
    go true k (inr none) = absurd none
    go false k none = absurd none

among-crosses : (found : Trail → Option Spot) (ss : List Sending) (t : Trail) (here to : Spot) → In (crosses_by found ss) (Lost t here to) → IsFrom found ss t here
among-crosses found [] t here to within = absurd within
among-crosses found (s ∷ ss) t here to within =
    elim (In-parts (cross_for found s) (crosses_by found ss) (Lost t here to) within) [
      | inl first ↦ one-cross found s ss t here to first
      | inr rest ↦ further found s ss t here (among-crosses found ss t here to rest)
    ]
  where
    further : (found : Trail → Option Spot) (s : Sending) (ss : List Sending) (t : Trail) (here : Spot) → IsFrom found ss t here → IsFrom found (s ∷ ss) t here
    further found s ss t here is = record { from = is.from; member = inr is.member; trail_is = is.trail_is; known = is.known }

-- each of the sendings went over a link
link-at : (here : Spot) (t : Trail) (s : Sending) → In (sending_at here t) s → is_link s.trail ≡ true
link-at here t s within = go (is_link t) refl within
  where
    go : (b : Bool) → is_link t ≡ b → In (if b then sending here t ∷ [] else []) s → is_link s.trail ≡ true
    go true k (inl e) = subst (λ (r : Sending). is_link r.trail ≡ true) e k
    go true k (inr none) = absurd none
    go false k none = absurd none

links-at : (here : Spot) (ts : List Trail) (s : Sending) → In (sendings_at here ts) s → is_link s.trail ≡ true
links-at here [] s within = absurd within
links-at here (t ∷ ts) s within =
    elim (In-parts (sending_at here t) (sendings_at here ts) s within) [ inl first ↦ link-at here t s first | inr rest ↦ links-at here ts s rest ]

links : (d : Deployed) (h : List Entry) (s : Sending) → In (sendings d h) s → is_link s.trail ≡ true
unfolding sendings
links d [] s within = absurd within
links d (entry ∷ before) s within =
    elim (In-parts (sendings d before) (sendings_at (spot_of d before entry) (left_by entry.act entry.answer)) s within) [
      | inl earlier ↦ links d before s earlier
      | inr now ↦ links-at (spot_of d before entry) (left_by entry.act entry.answer) s now
    ]

in-crosses : (d : Deployed) (h : List Entry) (t : Trail) (here to : Spot) → In (crosses d h) (Lost t here to) → IsLost d h t here
unfolding crosses
in-crosses d h t here to within =
    let is : IsFrom (lost_spot d h) (sendings d h) t here = among-crosses (lost_spot d h) (sendings d h) t here to within in
    lost-last d h t here (subst (λ (s : Trail). is_link s ≡ true) is.trail_is (links d h is.from is.member)) is.known

abbrev is-lost : Element → Bool
is-lost (Lost t a b) = true
is-lost _ = false

of-lost : IsOfRows is-lost
of-lost = record { lanes = λ a b. refl; edges = λ a b. refl; rules = λ a b. refl; words = λ i a text. refl; nodes = λ a text. refl; deaths = λ a b. refl; glows = λ t. refl }

only-lost : (d : Deployed) (h : List Entry) (t : Trail) (here to : Spot) → In (elements d h) (Lost t here to) → IsLost d h t here
unfolding elements
only-lost d h t here to within =
    elim (In-parts (head d (length h)) (lines d h ++ marks d h) (Lost t here to) within) [
      | inl above ↦ absurd (not-free is-lost (head d (length h)) (Lost t here to) (head-free is-lost of-lost d (length h)) refl above)
      | inr rows ↦ elim (In-parts (lines d h) (marks d h) (Lost t here to) rows) [
        | inl lined ↦ elim (In-parts (ways d h) (crosses d h ++ rests d h) (Lost t here to) lined) [
          | inl led ↦ absurd (not-free is-lost (ways d h) (Lost t here to) (ways-free is-lost of-lost (λ i s a b. refl) d h) refl led)
          | inr behind ↦ elim (In-parts (crosses d h) (rests d h) (Lost t here to) behind) [
            | inl crossed ↦ in-crosses d h t here to crossed
            | inr stays ↦ absurd (not-free is-lost (rests d h) (Lost t here to) (rests-free is-lost (λ i s a b. refl) d h) refl stays)
          ]
        ]
        | inr marked ↦ absurd (not-free is-lost (marks d h) (Lost t here to) (marks-free is-lost of-lost (λ i a text. refl) d h) refl marked)
      ]
    ]

pub lost_crossed : (d : Deployed) (h : List Entry) → LostAreCrossed d h
lost_crossed d h = record { each = each-crossed d h; only = only-lost d h }
