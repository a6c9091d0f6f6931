-- What the rules of stamp order give.
use Rattle.std.specs.Prelude.{◌≡◌, ◌⊎◌, ◌<◌, ◌≤◌, ℕ, ◌+◌, Bool, true, false, ◌&&◌, ◌||◌, not, List, [], ◌∷◌, Option, Some, None, refl, ◌==◌, if◌then◌else◌}
use Rattle.std.specs.List.{list_any}
use Rattle.std.proofs.Common.{sym, subst, arith, inl, inr, ap, ◌∙◌}
use Rattle.std.proofs.lemmas.Bool.Decides.{nat_tests}
use Rattle.std.proofs.lemmas.Bool.{and_parts, eqb-true, false_from_ne_true, or_cases}
use Rattle.sat_label.specs.declared.point.Point.{Point}
use Rattle.sat_label.specs.declared.label.Label.{Label}
use Rattle.sat_act.specs.declared.act.Act.{Act}
use Rattle.sat_act.specs.declared.answer.Answer.{Answer}
use Rattle.sat_act.specs.declared.entry.Entry.{Entry}
use Rattle.sat_act.specs.Deployed.{Deployed}
use Rattle.sat_act.specs.Histories.{listed}
use Rattle.sat_act.specs.Parts.{emission}
use Rattle.sat_act.specs.Runs.{IsRun}
use Rattle.sat_act.specs.Causes.{Cause}
use Rattle.sat_act.specs.Goals.{Gives, IsValid}
use Rattle.sat_laws.proofs.Steps.{Step}
use Rattle.sat_laws.proofs.Runs.{step_of, before_of, entry}
use Rattle.sat_laws.proofs.Labels.{some_is}
use Rattle.sat_laws.proofs.Gears.{split_le}
use Rattle.sat_laws.proofs.Members.{listed-gives, gives-listed}
use Rattle.sat_laws.proofs.Cuts.{sent-site}
use Rattle.sat_laws.proofs.Sinks.{Sent}
use Rattle.sat_act.specs.Parts.{stable, cut}
use Rattle.sat_label.specs.declared.label.Kind.TheVariants as kind
use Rattle.sat_laws.proofs.Steps.{closed}
use Rattle.sat_laws.proofs.Links.{SentIn}
use Rattle.sat_act.specs.declared.act.Act.TheVariants as act
use Rattle.sat_act.specs.declared.answer.Answer.TheVariants as ans
use Rattle.sat_act.specs.Parts.{shown_entry, view}
use Rattle.sat_act.specs.Goals.{Shows, IsKeptAt}
use Rattle.sat_laws.proofs.Order.{sent-in}
use Rattle.sat_label.specs.Order.{point_le, mark, point_lt}
use Rattle.sat_label.specs.declared.label.Kind.TheVariants as kind
use Rattle.sat_act.specs.Parts.{close_cut, close_cut_of_entry, closed_epoch_of_entry}
use Rattle.sat_act.specs.Causes.{Maker}
use Rattle.sat_act.specs.Goals.{Made}
use Rattle.sat_laws.proofs.Labels.{made-kind, IsPlaced, made-placed}
use Rattle.sat_laws.proofs.Sinks.{pending-is, gathered-made}
use Rattle.sat_laws.proofs.Cuts.{ready-is, sent-order, cut-sent, sent-ts}
use Rattle.sat_laws.proofs.Knowledge.{point_le-ts}
use Rattle.sat_laws.proofs.Arrivals.{sent-epoch, epoch-bound}
use Rattle.sat_act.specs.Parts.{in_stamp_mode}
use Rattle.sat_laws.proofs.Order.{behind-first}
use Rattle.sat_laws.proofs.Origins.{closed-below, sent-made, epoch-cut, cut-epoch}
use Rattle.sat_laws.proofs.Orders.{point_le-mark}
use Rattle.sat_act.specs.Parts.{carried, case_beats, all_others, next_stamp, waiting}
use Rattle.sat_act.specs.Answers.{may_advance}
use Rattle.sat_laws.proofs.Shows.{waits, brings-for}
use Rattle.sat_laws.proofs.Arrivals.{kept-target, kept-update}
use Rattle.sat_laws.proofs.Knowledge.{knows-below}
use Rattle.sat_laws.proofs.Origins.{knows-made, emits}
use Rattle.sat_label.specs.Order.{label_eq}
use Rattle.sat_label.specs.Words.{has}
use Rattle.sat_act.specs.Histories.{listed}
use Rattle.sat_laws.proofs.Lasts.{cut-keeps}
use Rattle.std.specs.Prelude.{filter, nat_le}
use Rattle.sat_laws.proofs.Cuts.{cut-ts}
use Rattle.sat_label.specs.Order.{point_eq, kind_lt, label_lt}
use Rattle.sat_laws.proofs.Arrivals.{epoch-bound, sent-epoch}
use Rattle.sat_act.specs.Parts.{BeatNote, best, brought, brought_entry, gathered, shown}
use Rattle.std.specs.Prelude.{nat_le}
use Rattle.sat_laws.proofs.Members.{listed-gives, gives-listed}
use Rattle.sat_laws.proofs.Sinks.{by_gather}
use Rattle.sat_laws.proofs.Shows.{Brings}
use Rattle.std.specs.Prelude.{is_some}
use Rattle.std.specs.List.{list_any}
use Rattle.sat_act.specs.Parts.{candidate, is_past, every_site_passed, own_site_passed, best_passes}
use Rattle.sat_laws.proofs.Views.{count-none, count-if, add_if}
use Rattle.sat_laws.proofs.Shows.{next-stamp-waits, candidate-least}
use Rattle.sat_laws.proofs.Origins.{closed-sent}
use Rattle.sat_laws.proofs.Written.{item-made}
use Rattle.sat_laws.proofs.Safety.{Main, StampRules, others-pass}
use Rattle.sat_laws.proofs.BeatTimes.{later-run, later-sent-in, later-emission, later-cut, later-made, Best, best-is, beat-brought}
use Rattle.sat_label.specs.Members.{In, is_made}
use Rattle.sat_label.proofs.Least.{IsLeast}
use Rattle.sat_label.proofs.Orders.{point_le-trans, ts-lt, point_le_lt-absurd}
use Rattle.sat_label.proofs.Members.{has-in, into-filter}

-- ---- every epoch below the emission was closed

close-at : (d : Deployed) (h : List Entry) (k i : ℕ) → k ≡ i → (if (k == i) && (emission h k == emission h i) then Some (Some (cut d h k)) else None) ≡ Some (Some (cut d h i))
close-at d h k i e = subst (λ (m : ℕ). (if (k == m) && (emission h k == emission h m) then Some (Some (cut d h k)) else None) ≡ Some (Some (cut d h m))) e (give ((k == k) && (emission h k == emission h k)) (twice k (emission h k)))
  where
    twice : (a b : ℕ) → ((a == a) && (b == b)) ≡ true
    twice a b = grind (arith, nat_tests)

    give : (b : Bool) → b ≡ true → (if b then Some (Some (cut d h k)) else None) ≡ Some (Some (cut d h k))
    give true e = refl
    give false e = absurd (cc)

closes-now : (d : Deployed) (h : List Entry) (i : ℕ) (a : Act) (r : Answer) (n : Bool) → Step d h a r →
    (emission (entry a r n ∷ h) i ≡ emission h i) ⊎ ((close_cut_of_entry i (emission h i) h (entry a r n) ≡ Some (Some (cut d h i))) × (emission (entry a r n ∷ h) i ≡ emission h i + 1))
unfolding emission
closes-now d h i a r n (closed {i = k} p q) = go (k == i) refl (count-if (k == i) (listed (closed_epoch_of_entry i) h) (emission h k))
  where
    at : (k == i) ≡ true → close_cut_of_entry i (emission h i) h (entry (act.Close k) (ans.Closed (emission h k) (cut d h k)) n) ≡ Some (Some (cut d h i))
    at w = close-at d h k i (eqb-true k i w)

    go : (b : Bool) → (k == i) ≡ b → emission (entry (act.Close k) (ans.Closed (emission h k) (cut d h k)) n ∷ h) i ≡ add_if (k == i) (emission h i) → (emission (entry (act.Close k) (ans.Closed (emission h k) (cut d h k)) n ∷ h) i ≡ emission h i) ⊎ ((close_cut_of_entry i (emission h i) h (entry (act.Close k) (ans.Closed (emission h k) (cut d h k)) n) ≡ Some (Some (cut d h i))) × (emission (entry (act.Close k) (ans.Closed (emission h k) (cut d h k)) n ∷ h) i ≡ emission h i + 1))
    go true w e = inr (at w, e ∙ ap (λ (b : Bool). add_if b (emission h i)) w)
    go false w e = inl (e ∙ ap (λ (b : Bool). add_if b (emission h i)) w)
closes-now d h i a r n _ = inl (count-none (listed (closed_epoch_of_entry i) h))

newly-closed : (h : List Entry) (x : Entry) (i e : ℕ) (p : Point) → close_cut_of_entry i e h x ≡ Some (Some p) → close_cut (x ∷ h) i e ≡ Some p
unfolding close_cut
newly-closed h x i e p w = subst (λ (o : Option (Option Point)). elim o [ None ↦ close_cut h i e | Some y ↦ y ] ≡ Some p) (sym w) refl

emission-start : (i e : ℕ) → 1 ≤ e → e < emission [] i → ⊥
unfolding emission
emission-start i e a b = omega arith

closed-step : (d : Deployed) (h : List Entry) (x : Entry) (i e : ℕ) → IsRun d (x ∷ h) → e < emission (x ∷ h) i → (e < emission h i → (p : Point) × (close_cut h i e ≡ Some p)) → (p : Point) × (close_cut (x ∷ h) i e ≡ Some p)
closed-step d h x i e run b rest =
    elim (closes-now d h i x.act x.answer x.inner (step_of d h x run)) [
      | inl w ↦ old (omega arith)
      | inr w ↦
          let y : emission (x ∷ h) i ≡ emission h i + 1 = w.1 in
          elim (split_le e (emission h i) (omega arith)) [
            | inl s ↦ (cut d h i, newly-closed h x i e (cut d h i) (subst (λ (n : ℕ). close_cut_of_entry i n h x ≡ Some (Some (cut d h i))) (sym s) w.0))
            | inr lt ↦ old lt
          ]
    ]
  where
    old : e < emission h i → (p : Point) × (close_cut (x ∷ h) i e ≡ Some p)
    old lt = let w : (p : Point) × (close_cut h i e ≡ Some p) = rest lt in (w.0, cut-keeps d h x i e w.0 run w.1)

pub closed-cut : (d : Deployed) (h : List Entry) (i e : ℕ) → IsRun d h → 1 ≤ e → e < emission h i → (p : Point) × (close_cut h i e ≡ Some p)
closed-cut d [] i e run a b = absurd (emission-start i e a b)
closed-cut d (x ∷ h) i e run a b = closed-step d h x i e run b (closed-cut d h i e (before_of d h x run) a)

-- ---- what was sent had been gathered

gathered-grows : (h : List Entry) (x : Entry) (i : ℕ) (l : Label) → Made (gathered h i) l → Made (gathered (x ∷ h) i) l
unfolding Gives
gathered-grows h x i l m = by_gather x h i (λ k. Made k l) (λ _. inl (gathered-made h i l m)) (λ _. m)

pub sent-gathered : (d : Deployed) (h : List Entry) (i : ℕ) (l : Label) → IsRun d h → Sent h i l → is_made l.kind ≡ true → Made (gathered h i) l
unfolding Gives
sent-gathered d [] i l run s m = absurd s
sent-gathered d (x ∷ h) i l run (inl s) m = gathered-grows h x i l (sent-gathered d h i l (before_of d h x run) s m)
sent-gathered d (x ∷ h) i l run (inr s) m = gathered-grows h x i l (pending-is d h i l (ready-is d h i l (emits d h x i l run s m)).member).0

-- what was brought was shown or waits
pub brought-cases : (h : List Entry) (j : ℕ) (l : Label) → Brings h j l → Shows h j l ⊎ In (waiting h j) l
unfolding waiting brought shown
brought-cases h j l b = go (has label_eq (listed (shown_entry j) h) l) refl
  where
    go : (t : Bool) → has label_eq (listed (shown_entry j) h) l ≡ t → Shows h j l ⊎ In (filter (λ l. not (has label_eq (listed (shown_entry j) h) l)) (listed (brought_entry j) h)) l
    go true e = inl (listed-gives (shown_entry j) h l (has-in (listed (shown_entry j) h) l e))
    go false e = inr (into-filter (λ l. not (has label_eq (listed (shown_entry j) h) l)) (listed (brought_entry j) h) l (gives-listed (brought_entry j) h l b) (ap not e))

pub view-positive : (h : List Entry) (j : ℕ) → 1 ≤ view h j
unfolding view
view-positive h j = omega arith

some_of : {X : Type 0} (o : Option X) → is_some o ≡ true → (x : X) × (o ≡ Some x)
some_of None e = absurd (cc)
some_of (Some x) e = (x, refl)

module _ (d : Deployed) (h : List Entry) (j : ℕ) (v : IsValid d) (run : IsRun d h) (inv : Main d h) (bj : j < d.sites) where
  -- the best beat of i at j passes a test
  passing-beat : (i : ℕ) (p : BeatNote → Bool) → best_passes (best d h j i) p ≡ true → (note : BeatNote) × Best d h j i note × (p note ≡ true) × ((q : BeatNote → Bool) → best_passes (best d h j i) q ≡ q note)
  passing-beat i p e = go (best d h j i) refl e
    where
      go : (o : Option (ℕ × BeatNote)) → best d h j i ≡ o → best_passes o p ≡ true → (note : BeatNote) × Best d h j i note × (p note ≡ true) × ((q : BeatNote → Bool) → best_passes (best d h j i) q ≡ q note)
      go None w e = absurd (cc)
      go (Some r) w e = (r.1, best-is d h j i r w, e, λ q. ap (λ (o : Option (ℕ × BeatNote)). best_passes o q) w)

  module _ (a : Label) (m : Made h a) (note : BeatNote) (b : Best d h j a.point.site note) where
    at_run : IsRun d b.at
    at_run = later-run d b.at h b.later run

    place : IsPlaced d h a
    place = made-placed d h a v run m

    mk : is_made a.kind ≡ true
    mk = made-kind d h a v run m

    note-cut : note.cut ≡ cut d b.at a.point.site
    note-cut = ap (λ (z : BeatNote). z.cut) (sym b.is)

    note-close : (e : ℕ) → note.closes e ≡ close_cut b.at a.point.site e
    note-close e = ap (λ (z : BeatNote). z.closes e) (sym b.is)

    -- at or below the beat's cut it had been sent
    by-cut : point_le a.point note.cut ≡ true → Sent b.at a.point.site a
    by-cut le =
        let le' : point_le a.point (cut d b.at a.point.site) ≡ true = subst (λ (p : Point). point_le a.point p ≡ true) note-cut le in
        let t : a.point.ts ≤ (cut d b.at a.point.site).ts = point_le-ts a.point (cut d b.at a.point.site) le' in
        let u : (cut d b.at a.point.site).ts ≤ stable d b.at a.point.site = cut-ts d b.at a.point.site (λ s w. sent-ts d b.at a.point.site s place.site at_run w) in
        let made_at : Made b.at a = later-made d b.at h a v b.later run m place.site (omega arith) in
        cut-sent d b.at a.point.site a v at_run (sent-order d b.at a.point.site place.site v at_run) made_at refl le'

    -- at or below a close cut that the beat carries, too
    by-close : (e : ℕ) (p : Point) → note.closes e ≡ Some p → point_le a.point p ≡ true → (f : ℕ) × (f ≤ e) × SentIn b.at a.point.site f a
    by-close e p c le =
        let c' : close_cut b.at a.point.site e ≡ Some p = sym (note-close e) ∙ c in
        let u : p.ts ≤ stable d b.at a.point.site = sent-ts d b.at a.point.site (record { point = p; kind = kind.Close e }) place.site at_run (closed-sent d b.at a.point.site e p at_run c') in
        let t : a.point.ts ≤ p.ts = point_le-ts a.point p le in
        let made_at : Made b.at a = later-made d b.at h a v b.later run m place.site (omega arith) in
        cut-epoch d b.at a.point.site e p a place.site v at_run c' made_at refl le

    close-later : (e : ℕ) (p : Point) → note.closes e ≡ Some p → close_cut h a.point.site e ≡ Some p
    close-later e p c = later-cut d b.at h a.point.site e p b.later run (sym (note-close e) ∙ c)

    -- what had been sent was brought
    sent-brought : Sent b.at a.point.site a → IsKeptAt d j a → (a.point.site ≡ j → ⊥) → Brings h j a
    sent-brought s k other = beat-brought d h j note a place.gear b (sent-gathered d b.at a.point.site a at_run s mk) (kept-update d j a k) (kept-target d j a k other)

    -- in no later epoch than the view, where the view's epoch wasn't closed
    unclosed : note.closes (view h j) ≡ None → (f : ℕ) → SentIn b.at a.point.site f a → f ≤ view h j
    unclosed c f s = le_by f (view h j) (λ lt.
        let w : f ≤ emission b.at a.point.site = epoch-bound b.at a.point.site f a s in
        let y : (p : Point) × (close_cut b.at a.point.site (view h j) ≡ Some p) = closed-cut d b.at a.point.site (view h j) at_run (view-positive h j) (omega arith) in
        let z : Some y.0 ≡ None = sym y.1 ∙ sym (note-close (view h j)) ∙ c in
        cc)
      where
        le_by : (m n : ℕ) → (n < m → ⊥) → m ≤ n
        le_by m n f = grind arith

    -- sent by the beat's making, in no later epoch than the view
    seen-epoch : Sent b.at a.point.site a → ((p : Point) → note.closes (view h j) ≡ Some p → point_le a.point p ≡ true) → (e : ℕ) × (e ≤ view h j) × SentIn h a.point.site e a
    seen-epoch s low = go (note.closes (view h j)) refl
      where
        go : (o : Option Point) → note.closes (view h j) ≡ o → (e : ℕ) × (e ≤ view h j) × SentIn h a.point.site e a
        go None c = let f : (e : ℕ) × SentIn b.at a.point.site e a = sent-epoch b.at a.point.site a s in (f.0, unclosed c f.0 f.1, later-sent-in b.at h a.point.site f.0 a b.later f.1)
        go (Some p) c = let f : (f : ℕ) × (f ≤ view h j) × SentIn b.at a.point.site f a = by-close (view h j) p c (low p c) in (f.0, f.1, later-sent-in b.at h a.point.site f.0 a b.later f.2)

  waits-not : (p : Label → Bool) (a : Label) → list_any p (waiting h j) ≡ false → p a ≡ true → In (waiting h j) a → ⊥
  waits-not p a e k i = any-in p (waiting h j) a e k i
    where
      or-false : (a b : Bool) → (a || b) ≡ false → (a ≡ false) × (b ≡ false)
      or-false true b e = absurd (cc)
      or-false false b e = (refl, e)

      any-in : (p : Label → Bool) (ls : List Label) (a : Label) → list_any p ls ≡ false → p a ≡ true → In ls a → ⊥
      any-in p [] a e k i = i
      any-in p (l ∷ ls) a e k (inl s) = let w : p l ≡ p a = ap p s in let y : (p l ≡ false) × (list_any p ls ≡ false) = or-false (p l) (list_any p ls) e in let z : p l ≡ false = y.0 in cc
      any-in p (l ∷ ls) a e k (inr i) = any-in p ls a (or-false (p l) (list_any p ls) e).1 k i

  shown-unless : (a : Label) → Brings h j a → (In (waiting h j) a → ⊥) → Shows h j a
  shown-unless a b n = elim (brought-cases h j a b) [ inl s ↦ s | inr w ↦ absurd (n w) ]

  not-is : (b : Bool) → not b ≡ true → b ≡ false
  not-is true e = absurd (cc)
  not-is false e = refl

  low-ts : (m n : ℕ) → m ≤ n → nat_le m n ≡ true
  low-ts m n e = grind (arith, nat_tests)

  abbrev attach-test : ℕ → ℕ → BeatNote → Bool
  attach-test c i note = point_le (mark (carried h c).ts i) note.cut && elim (note.closes (view h j)) [ None ↦ true | Some p ↦ point_le (mark (carried h c).ts i) p ]

  at-close : (c i : ℕ) (p : Point) (o : Option Point) → o ≡ Some p → elim o [ None ↦ true | Some p ↦ point_le (mark (carried h c).ts i) p ] ≡ true → point_le (mark (carried h c).ts i) p ≡ true
  at-close c i p None e k = absurd (cc)
  at-close c i p (Some q) e k = subst (λ (y : Point). point_le (mark (carried h c).ts i) y ≡ true) (some_is q p e) k

  -- an attach by beats
  rule-attach : (c : ℕ) (a : Label) → case_beats d h c j ≡ true → Made h a → (a.point.site ≡ j → ⊥) → a.point.ts ≤ (carried h c).ts →
      ((e : ℕ) × (e ≤ view h j) × SentIn h a.point.site e a) × (IsKeptAt d j a → Shows h j a) × (in_stamp_mode d h j ≡ true)
  rule-attach c a e m other t =
      let w : ((in_stamp_mode d h j && all_others d j (λ i. best_passes (best d h j i) (attach-test c i))) ≡ true) × (not (list_any (λ l. nat_le l.point.ts (carried h c).ts) (waiting h j)) ≡ true) = and_parts _ _ e in
      let y : (in_stamp_mode d h j ≡ true) × (all_others d j (λ i. best_passes (best d h j i) (attach-test c i)) ≡ true) = and_parts (in_stamp_mode d h j) _ w.0 in
      let pl : IsPlaced d h a = made-placed d h a v run m in
      let b : (note : BeatNote) × Best d h j a.point.site note × (attach-test c a.point.site note ≡ true) × ((q : BeatNote → Bool) → best_passes (best d h j a.point.site) q ≡ q note) =
      passing-beat a.point.site (attach-test c a.point.site) (others-pass d j a.point.site (λ i. best_passes (best d h j i) (attach-test c i)) y.1 pl.site other) in
      let z : (point_le (mark (carried h c).ts a.point.site) b.0.cut ≡ true) × (elim (b.0.closes (view h j)) [ None ↦ true | Some p ↦ point_le (mark (carried h c).ts a.point.site) p ] ≡ true) = and_parts (point_le (mark (carried h c).ts a.point.site) b.0.cut) _ b.2 in
      let few : d.gears ≤ 8 = v.few_gears in
      let g : a.point.gear < d.gears = pl.gear in
      let low : point_le a.point (mark (carried h c).ts a.point.site) ≡ true = point_le-mark a.point (carried h c).ts (omega arith) t in
      let s : Sent b.1.at a.point.site a = by-cut a m b.0 b.1 (point_le-trans a.point (mark (carried h c).ts a.point.site) b.0.cut low z.0) in (
        seen-epoch a m b.0 b.1 s (λ p q. point_le-trans a.point (mark (carried h c).ts a.point.site) p low (at-close c a.point.site p (b.0.closes (view h j)) q z.1)),
        λ k. shown-unless a (sent-brought a m b.0 b.1 s k other) (waits-not (λ l. nat_le l.point.ts (carried h c).ts) a (not-is _ w.1) (low-ts a.point.ts (carried h c).ts t)),
        y.0,
      )

  -- ---- a stamp

  -- what the best beat says of a cause's epoch
  cause-epoch : (b a : Label) → (e : ℕ) × (e ≤ view h j) × SentIn h b.point.site e b → Cause h b a → (f : ℕ) × (f ≤ view h j) × SentIn h a.point.site f a
  cause-epoch b a s c =
      let le : s.0 ≤ view h j = s.1 in
      elim (inv.cause b.point.site s.0 b a s.2 c) [
        | inl w ↦ (s.0, s.1, behind-first h s.0 a b w)
        | inr w ↦ let lt : w.0 < s.0 = w.1 in (w.0, omega arith, w.2)
      ]

  -- a label of an epoch up to the view lies at or below the view's close cut
  under-close : (a : Label) (m : Made h a) (note : BeatNote) (b : Best d h j a.point.site note) → (f : ℕ) × (f ≤ view h j) × SentIn h a.point.site f a → (p : Point) → note.closes (view h j) ≡ Some p → point_le a.point p ≡ true
  under-close a m note b f p c = epoch-cut d h a.point.site (view h j) f.0 p a (made-placed d h a v run m).site v run (close-later a m note b (view h j) p c) f.2 (made-kind d h a v run m) f.1

  not-past : (a : Label) (m : Made h a) (note : BeatNote) (b : Best d h j a.point.site note) → ((q : BeatNote → Bool) → best_passes (best d h j a.point.site) q ≡ q note) → (f : ℕ) × (f ≤ view h j) × SentIn h a.point.site f a → is_past d h j a ≡ false
  unfolding is_past
  not-past a m note b same f = same (λ note. elim (note.closes (view h j)) [ None ↦ false | Some p ↦ point_lt p a.point ]) ∙ go (note.closes (view h j)) refl
    where
      go : (o : Option Point) → note.closes (view h j) ≡ o → elim o [ None ↦ false | Some p ↦ point_lt p a.point ] ≡ false
      go None c = refl
      go (Some p) c = false_from_ne_true (point_lt p a.point) (λ t. point_le_lt-absurd a.point p (under-close a m note b f p c) t)

  abbrev own-test : Label → BeatNote → Bool
  own-test l note = elim (note.closes (view h j)) [ None ↦ point_le l.point note.cut | Some p ↦ point_le l.point p ]

  stamp-epoch : (b : Label) → Made h b → own_site_passed d h j b ≡ true → (e : ℕ) × (e ≤ view h j) × SentIn h b.point.site e b
  stamp-epoch b m o =
      let w : (note : BeatNote) × Best d h j b.point.site note × (own-test b note ≡ true) × ((q : BeatNote → Bool) → best_passes (best d h j b.point.site) q ≡ q note) = passing-beat b.point.site (own-test b) o in
      go w.0 w.1 (w.0.closes (view h j)) refl w.2
    where
      go : (note : BeatNote) → (bt : Best d h j b.point.site note) → (o : Option Point) → note.closes (view h j) ≡ o → elim o [ None ↦ point_le b.point note.cut | Some p ↦ point_le b.point p ] ≡ true → (e : ℕ) × (e ≤ view h j) × SentIn h b.point.site e b
      go note bt None c t = seen-epoch b m note bt (by-cut b m note bt t) (λ p q. absurd (let z : None ≡ Some p = sym c ∙ q in cc))
      go note bt (Some p) c t = let f : (f : ℕ) × (f ≤ view h j) × SentIn bt.at b.point.site f b = by-close b m note bt (view h j) p c t in (f.0, f.1, later-sent-in bt.at h b.point.site f.0 b bt.later f.2)

  abbrev site-test : Label → ℕ → BeatNote → Bool
  site-test l i note = point_le (mark l.point.ts i) note.cut || is_some (note.closes (view h j))

  -- a cause of an epoch up to the view was sent by the beat's making
  cause-sent : (b a : Label) (m : Made h a) (note : BeatNote) (bt : Best d h j a.point.site note) → a.point.ts < b.point.ts → (f : ℕ) × (f ≤ view h j) × SentIn h a.point.site f a → site-test b a.point.site note ≡ true → Sent bt.at a.point.site a
  cause-sent b a m note bt t f e =
      let pl : IsPlaced d h a = made-placed d h a v run m in
      let few : d.gears ≤ 8 = v.few_gears in
      let g : a.point.gear < d.gears = pl.gear in
      elim (or_cases (point_le (mark b.point.ts a.point.site) note.cut) (is_some (note.closes (view h j))) e) [
        | inl q ↦ by-cut a m note bt (point_le-trans a.point (mark b.point.ts a.point.site) note.cut (point_le-mark a.point b.point.ts (omega arith) (omega arith)) q)
        | inr q ↦
            let p : (p : Point) × (note.closes (view h j) ≡ Some p) = some_of (note.closes (view h j)) q in
            let y : (f : ℕ) × (f ≤ view h j) × SentIn bt.at a.point.site f a = by-close a m note bt (view h j) p.0 p.1 (under-close a m note bt f p.0 p.1) in
            sent-in bt.at a.point.site y.0 a y.2
      ]

  lower-label : (a b : Label) → a.point.ts < b.point.ts → label_lt a b ≡ false → ⊥
  lower-label a b t f = go (point_lt a.point b.point) (ts-lt a.point b.point t) f
    where
      go : (x : Bool) → x ≡ true → (x || (point_eq a.point b.point && kind_lt a.kind b.kind)) ≡ false → ⊥
      go true e f = cc
      go false e f = cc

  rule-stamp : (b : Label) → in_stamp_mode d h j ≡ true → next_stamp d h j ≡ Some b →
      ((e : ℕ) × (e ≤ view h j) × SentIn h b.point.site e b) × ((a : Label) → Cause h b a → (a.point.site ≡ j → ⊥) → IsKeptAt d j a → Shows h j a)
  rule-stamp b mode n =
      let q : (candidate d h j ≡ Some b) × (every_site_passed d h j b ≡ true) × (own_site_passed d h j b ≡ true) = next-stamp-waits d h j b n in
      let least : IsLeast (λ m. not (is_past d h j m)) (waiting h j) b = candidate-least d h j b q.0 in
      let mb : Made h b = (brings-for d h j b run (waits h j b least.member).0).made in
      let ep : (e : ℕ) × (e ≤ view h j) × SentIn h b.point.site e b = stamp-epoch b mb q.2 in (
        ep,
        λ a c other k.
            let m : Made h a = knows-made d h (Maker b) a run c in
            let t : a.point.ts < b.point.ts = knows-below d h (Maker b) a v run c in
            let f : (f : ℕ) × (f ≤ view h j) × SentIn h a.point.site f a = cause-epoch b a ep c in
            let w : (note : BeatNote) × Best d h j a.point.site note × (site-test b a.point.site note ≡ true) × ((q : BeatNote → Bool) → best_passes (best d h j a.point.site) q ≡ q note) =
            passing-beat a.point.site (site-test b a.point.site) (others-pass d j a.point.site (λ i. best_passes (best d h j i) (site-test b i)) q.1 (made-placed d h a v run m).site other) in
            let s : Sent w.1.at a.point.site a = cause-sent b a m w.0 w.1 t f w.2 in
            shown-unless a (sent-brought a m w.0 w.1 s k other)
            (λ i. lower-label a b t (least.lowest a i (ap not (not-past a m w.0 w.1 w.3 f)))),
      )

  abbrev close-test : ℕ → BeatNote → Bool
  close-test i note = elim (note.closes (view h j)) [ None ↦ false | Some p ↦ not (list_any (λ l. (l.point.site == i) && point_le l.point p) (waiting h j)) ]

  all-closed : in_stamp_mode d h j ≡ true → may_advance d h j ≡ true → all_others d j (λ i. best_passes (best d h j i) (close-test i)) ≡ true
  unfolding may_advance
  all-closed mode adv = go (in_stamp_mode d h j) _ _ mode adv
    where
      go : (b y z : Bool) → b ≡ true → (if b then y else z) ≡ true → y ≡ true
      go true y z e f = f
      go false y z e f = absurd (cc)

  close-found : (i : ℕ) (note : BeatNote) (o : Option Point) → note.closes (view h j) ≡ o → elim o [ None ↦ false | Some p ↦ not (list_any (λ l. (l.point.site == i) && point_le l.point p) (waiting h j)) ] ≡ true → (p : Point) × (note.closes (view h j) ≡ Some p) × (list_any (λ l. (l.point.site == i) && point_le l.point p) (waiting h j) ≡ false)
  close-found i note None c e = absurd (cc)
  close-found i note (Some p) c e = (p, c, not-is _ e)

  rule-advance : in_stamp_mode d h j ≡ true → may_advance d h j ≡ true → (i : ℕ) → i < d.sites → (i ≡ j → ⊥) → (view h j < emission h i) × ((a : Label) (e : ℕ) → e ≤ view h j → SentIn h i e a → IsKeptAt d j a → Shows h j a)
  rule-advance mode adv i bi other =
      let w : (note : BeatNote) × Best d h j i note × (close-test i note ≡ true) × ((q : BeatNote → Bool) → best_passes (best d h j i) q ≡ q note) =
      passing-beat i (close-test i) (others-pass d j i (λ i. best_passes (best d h j i) (close-test i)) (all-closed mode adv) bi other) in
      let c : (p : Point) × (w.0.closes (view h j) ≡ Some p) × (list_any (λ l. (l.point.site == i) && point_le l.point p) (waiting h j) ≡ false) = close-found i w.0 (w.0.closes (view h j)) refl w.2 in
      let cc' : close_cut w.1.at i (view h j) ≡ Some c.0 = ap (λ (z : BeatNote). z.closes (view h j)) w.1.is ∙ c.1 in
      let lt : view h j < emission w.1.at i = closed-below d w.1.at i (view h j) c.0 (later-run d w.1.at h w.1.later run) cc' in
      let up : emission w.1.at i ≤ emission h i = later-emission w.1.at h i w.1.later in
      (omega arith, λ a e le s k. shown-at i w.0 w.1 c.0 c.1 c.2 bi other a e le s k)
    where
      same-num : (m n : ℕ) → m ≡ n → (m == n) ≡ true
      same-num m n e = grind (arith, nat_tests)

      both : (a b : Bool) → a ≡ true → b ≡ true → (a && b) ≡ true
      both true b e f = f
      both false b e f = absurd (cc)

      shown-at : (i : ℕ) (note : BeatNote) (bt : Best d h j i note) (p : Point) → note.closes (view h j) ≡ Some p → list_any (λ l. (l.point.site == i) && point_le l.point p) (waiting h j) ≡ false → i < d.sites → (i ≡ j → ⊥) → (a : Label) (e : ℕ) → e ≤ view h j → SentIn h i e a → IsKeptAt d j a → Shows h j a
      shown-at i note bt p c n bi other a e le s k =
          let site : a.point.site ≡ i = sent-site d h i a run (sent-in h i e a s) in
          let mk : is_made a.kind ≡ true = item-made a.kind k.0 k.1 in
          let m : Made h a = sent-made d h i a run (sent-in h i e a s) mk in
          let bt' : Best d h j a.point.site note = subst (λ (x : ℕ). Best d h j x note) (sym site) bt in
          let s' : SentIn h a.point.site e a = subst (λ (x : ℕ). SentIn h x e a) (sym site) s in
          let low : point_le a.point p ≡ true = under-close a m note bt' (e, le, s') p c in
          let y : (f : ℕ) × (f ≤ view h j) × SentIn bt'.at a.point.site f a = by-close a m note bt' (view h j) p c low in
          let other' : a.point.site ≡ j → ⊥ = λ q. other (sym site ∙ q) in
          shown-unless a (sent-brought a m note bt' (sent-in bt'.at a.point.site y.0 a y.2) k other') (waits-not (λ l. (l.point.site == i) && point_le l.point p) a n (both (a.point.site == i) (point_le a.point p) (same-num a.point.site i site) low))

-- the rules of stamp order hold of each run
pub stamp-rules : (d : Deployed) → IsValid d → StampRules d
stamp-rules d v = record {
  shows = λ h j b run inv bj mode n. rule-stamp d h j v run inv bj b mode n;
  attaches = λ h c j a run inv bj e m other t. rule-attach d h j v run inv bj c a e m other t;
  advances = λ h j run inv bj mode adv i bi other. rule-advance d h j v run inv bj mode adv i bi other;
}
