-- Modes, and what a site knows of the others, are the history's.
use Rattle.std.specs.Prelude.{◌≡◌, ◌⊎◌, ◌<◌, ℕ, Bool, true, false, ◌&&◌, not, nat_le, List, [], ◌∷◌, ◌++◌, length, Option, Some, None, ◌==◌, if◌then◌else◌, refl}
use Rattle.std.specs.List.{list_any}
use Rattle.std.proofs.Common.{sym, subst, ap, ◌∙◌, arith, inl, inr}
use Rattle.std.proofs.lemmas.Bool.Decides.{nat_tests}
use Rattle.std.proofs.lemmas.Bool.{eqb-false, eqb-true}
use Rattle.sat_label.specs.declared.label.Label.{Label}
use Rattle.sat_label.specs.declared.point.Point.{Point}
use Rattle.sat_label.specs.Order.{greater_point, point_le}
use Rattle.sat_tree.specs.Shape.{TreeShape}
use Rattle.sat_act.specs.declared.act.Act.{Act}
use Rattle.sat_act.specs.declared.answer.Answer.{Answer}
use Rattle.sat_act.specs.declared.answer.Answer.TheVariants as ans
use Rattle.sat_act.specs.declared.entry.Entry.{Entry}
use Rattle.sat_act.specs.Deployed.{Deployed}
use Rattle.sat_act.specs.Histories.{listed}
use Rattle.sat_act.specs.Parts.{BeatNote, cut, lane, gathered, tree_of, view, in_stamp_mode, best, best_below, best_passes, beats, beat_entry, close_cut, waiting, last, known_by}
use Rattle.sat_act.specs.Answers.{InRange, may_advance}
use Rattle.sat_act.specs.Runs.{IsRun}
use Rattle.sat_act.specs.Goals.{IsValid}
use Rattle.sat_laws.proofs.Steps.{Step, beat, closed, showed_turn, showed_stamp, took, advanced}
use Rattle.sat_laws.proofs.Runs.{step_of, before_of, range_of, entry}
use Rattle.sat_laws.proofs.BeatTimes.{Best, best-is, later-cut}
use Rattle.sat_laws.proofs.Safety.{others-pass}
use Rattle.sat_model.specs.State.{SiteState}
use Rattle.sat_model.specs.Input.{SiteInput}
use Rattle.sat_model.specs.Input as given
use Rattle.sat_model.specs.Look.{mode_of, best_of}
use Rattle.sat_model.specs.Next.{site_next, passed_cut, raised}
use Rattle.sat_model.specs.Replay.{after, handed, site_state, turn_front}
use Rattle.sat_model.proofs.Kept.{kept}
use Rattle.sat_model.proofs.Lists.{plain}
use Rattle.sat_model.proofs.Simple.{view-agrees, fallen-agrees, closes-agrees}
use Rattle.sat_model.proofs.Beating.{best-agrees}

abbrev pub mode_by : Option TreeShape → Bool → Bool
mode_by o b = elim o [ None ↦ true | Some t ↦ b ]

pub mode-agrees : (d : Deployed) (h : List Entry) (j : ℕ) → IsRun d h → mode_of d (site_state d h j) ≡ in_stamp_mode d h j
unfolding in_stamp_mode
mode-agrees d h j run = ap (λ (v : ℕ). mode_by (tree_of d v) (site_state d h j).views.fallen) (view-agrees d h j run) ∙ ap (mode_by (tree_of d (view h j))) (fallen-agrees d h j run)

-- ---- sites that aren't there

other_num : (d : Deployed) (t i : ℕ) → t < d.sites → (i < d.sites → ⊥) → (t == i) ≡ false
other_num d t i a b = go (t == i) refl
  where
    num : (a b : ℕ) → (a == b) ≡ true → a ≡ b
    num a b e = grind (arith, nat_tests)

    go : (c : Bool) → (t == i) ≡ c → c ≡ false
    go true e = absurd (b (subst (λ (k : ℕ). k < d.sites) (num t i e) a))
    go false e = refl

latest-out : {X : Type 0} (b c : Bool) (m x : Option X) → b ≡ false → x ≡ None → ◌≡◌ {A = Option X} (elim (if b && c then Some m else None) [ None ↦ x | Some y ↦ y ]) None
latest-out true c m x e k = absurd (cc)
latest-out false c m x e k = k

listed-out : {X : Type 0} (b c : Bool) (m : X) (xs : List X) → b ≡ false → xs ≡ [] → xs ++ elim (if b && c then Some m else None) [ None ↦ [] | Some y ↦ y ∷ [] ] ≡ []
listed-out true c m xs e k = absurd (cc)
listed-out false c m xs e k = plain xs ∙ k

close-step : (d : Deployed) (h : List Entry) (i f : ℕ) (a : Act) (r : Answer) (n : Bool) → (i < d.sites → ⊥) → InRange d a → close_cut h i f ≡ None → Step d h a r → close_cut (entry a r n ∷ h) i f ≡ None
unfolding close_cut
close-step d h i f a r n out range k (closed {i = t} p q) = latest-out (t == i) _ _ (close_cut h i f) (other_num d t i range out) k
close-step d h i f a r n out range k _ = k

close-none : (d : Deployed) (h : List Entry) (i f : ℕ) → (i < d.sites → ⊥) → IsRun d h → close_cut h i f ≡ None
close-none d [] i f out run = unfold close_cut in refl
close-none d (e ∷ h) i f out run = close-step d h i f e.act e.answer e.inner out (range_of d h e run) (close-none d h i f out (before_of d h e run)) (step_of d h e run)

beats-step : (d : Deployed) (h : List Entry) (i j : ℕ) (a : Act) (r : Answer) (n : Bool) → (i < d.sites → ⊥) → InRange d a → beats d h i j ≡ [] → Step d h a r → beats d (entry a r n ∷ h) i j ≡ []
unfolding beats
beats-step d h i j a r n out range k (beat {i = t} {j = u}) =
    listed-out (t == i) (u == j) (record { cut = cut d h i; closes = close_cut h i; counts = λ g. length (lane d (gathered h i) i g j) }) (listed (beat_entry d i j) h) (other_num d t i range.0 out) k
beats-step d h i j a r n out range k _ = plain (listed (beat_entry d i j) h) ∙ k

beats-none : (d : Deployed) (h : List Entry) (i j : ℕ) → (i < d.sites → ⊥) → IsRun d h → beats d h i j ≡ []
beats-none d [] i j out run = unfold beats in refl
beats-none d (e ∷ h) i j out run = beats-step d h i j e.act e.answer e.inner out (range_of d h e run) (beats-none d h i j out (before_of d h e run)) (step_of d h e run)

best-none : (d : Deployed) (h : List Entry) (i j : ℕ) → (i < d.sites → ⊥) → IsRun d h → best d h j i ≡ None
unfolding best best_below
best-none d h i j out run = ap (λ (bs : List BeatNote). best_below d h i j bs (length bs)) (beats-none d h i j out run)

-- ---- the close cut that an advance by stamps passes on

abbrev closes_view : Option (ℕ × BeatNote) → ℕ → Option Point
closes_view o v = elim o [ None ↦ None | Some b ↦ b.1.closes v ]

abbrev passes_by : (ℕ → List Label) → ℕ → ℕ → BeatNote → Bool
passes_by w i v note = elim (note.closes v) [ None ↦ false | Some p ↦ not (list_any (λ l. (l.point.site == i) && point_le l.point p) (w i)) ]

passed-best : (d : Deployed) (h : List Entry) (j i : ℕ) → IsRun d h → best_passes (best d h j i) (passes_by (λ k. waiting h j) i (view h j)) ≡ true → closes_view (best d h j i) (view h j) ≡ close_cut h i (view h j)
passed-best d h j i run e = go (best d h j i) refl e
  where
    cut_of_note : (b : ℕ × BeatNote) → best d h j i ≡ Some b → (o : Option Point) → b.1.closes (view h j) ≡ o → elim o [ None ↦ false | Some p ↦ not (list_any (λ l. (l.point.site == i) && point_le l.point p) (waiting h j)) ] ≡ true → b.1.closes (view h j) ≡ close_cut h i (view h j)
    cut_of_note b w None y e = absurd (cc)
    cut_of_note b w (Some p) y e =
        let k : Best d h j i b.1 = best-is d h j i b w in
        y ∙ sym (later-cut d k.at h i (view h j) p k.later run (ap (λ (z : BeatNote). z.closes (view h j)) k.is ∙ y))

    go : (o : Option (ℕ × BeatNote)) → best d h j i ≡ o → best_passes o (passes_by (λ k. waiting h j) i (view h j)) ≡ true → closes_view o (view h j) ≡ close_cut h i (view h j)
    go None w e = absurd (cc)
    go (Some b) w e = cut_of_note b w (b.1.closes (view h j)) refl e

when_true : (b x y : Bool) → b ≡ true → (if b then x else y) ≡ true → x ≡ true
when_true true x y w e = e
when_true false x y w e = absurd (cc)

stamp-advance : (d : Deployed) (h : List Entry) (j i : ℕ) → may_advance d h j ≡ true → in_stamp_mode d h j ≡ true → i < d.sites → (i ≡ j → ⊥) → best_passes (best d h j i) (passes_by (λ k. waiting h j) i (view h j)) ≡ true
unfolding may_advance
stamp-advance d h j i e m l n = others-pass d j i (λ i. best_passes (best d h j i) (passes_by (λ k. waiting h j) i (view h j))) (when_true (in_stamp_mode d h j) _ _ m e) l n

in_range : (m n : ℕ) → (m < n) ⊎ (m < n → ⊥)
in_range m n = go (nat_le n m) refl
  where
    yes_le : (m n : ℕ) → nat_le n m ≡ true → m < n → ⊥
    yes_le m n e l = grind (arith, nat_tests)

    no_le : (m n : ℕ) → nat_le n m ≡ false → m < n
    no_le m n e = grind (arith, nat_tests)

    go : (b : Bool) → nat_le n m ≡ b → (m < n) ⊎ (m < n → ⊥)
    go true e = inr (yes_le m n e)
    go false e = inl (no_le m n e)

abbrev passed_by : Bool → Bool → Option Point → Option Point → Option Point
passed_by m own a b = if m then (if own then a else b) else None

pub passed-agrees : (d : Deployed) (h : List Entry) (j i : ℕ) → IsValid d → IsRun d h → may_advance d h j ≡ true → passed_cut d j (site_state d h j) i ≡ (if in_stamp_mode d h j then close_cut h i (view h j) else None)
passed-agrees d h j i v run e =
    let s : SiteState = site_state d h j in
    ap (λ (m : Bool). passed_by m (i == j) (s.views.closes s.views.view) (closes_view (best_of d s i) s.views.view)) (mode-agrees d h j run) ∙
    (ap (λ (w : ℕ). passed_by (in_stamp_mode d h j) (i == j) (s.views.closes w) (closes_view (best_of d s i) w)) (view-agrees d h j run) ∙
    (ap (λ (o : Option Point). passed_by (in_stamp_mode d h j) (i == j) o (closes_view (best_of d s i) (view h j))) (closes-agrees d h j (view h j) run) ∙
    (ap (λ (o : Option (ℕ × BeatNote)). passed_by (in_stamp_mode d h j) (i == j) (close_cut h j (view h j)) (closes_view o (view h j))) (best-agrees d h j i v run) ∙
    go (in_stamp_mode d h j) refl (i == j) refl)))
  where
    other : in_stamp_mode d h j ≡ true → (i == j) ≡ false → (i < d.sites) ⊎ (i < d.sites → ⊥) → closes_view (best d h j i) (view h j) ≡ close_cut h i (view h j)
    other m n (inl l) = passed-best d h j i run (stamp-advance d h j i e m l (eqb-false i j n))
    other m n (inr l) = ap (λ (o : Option (ℕ × BeatNote)). closes_view o (view h j)) (best-none d h i j l run) ∙ sym (close-none d h i (view h j) l run)

    go : (m : Bool) → in_stamp_mode d h j ≡ m → (b : Bool) → (i == j) ≡ b → passed_by m b (close_cut h j (view h j)) (closes_view (best d h j i) (view h j)) ≡ (if m then close_cut h i (view h j) else None)
    go false m b w = refl
    go true m true w = ap (λ (k : ℕ). close_cut h k (view h j)) (sym (eqb-true i j w))
    go true m false w = other m w (in_range i d.sites)

-- ---- last

raise-and : (G : Option SiteInput → Point) (input : SiteInput) (b c : Bool) (m q : Point) → G None ≡ q → G (Some input) ≡ (if c then greater_point m q else q) → G (if b then Some input else None) ≡ elim (if b && c then Some m else None) [ None ↦ q | Some y ↦ greater_point y q ]
raise-and G input true true m q u v = v
raise-and G input true false m q u v = v
raise-and G input false c m q u v = u

last-step : (d : Deployed) (h : List Entry) (j i : ℕ) (s : SiteState) (a : Act) (r : Answer) (n : Bool) → s.proxy.last i ≡ last d h j i → (may_advance d h j ≡ true → passed_cut d j s i ≡ (if in_stamp_mode d h j then close_cut h i (view h j) else None)) → Step d h a r →
    (after d j s (handed d h a j) r).proxy.last i ≡ last d (entry a r n ∷ h) j i
unfolding after handed site_next last
last-step d h j i s a r n k f (showed_turn {j = t} {l = l} p q w y z e) =
    raise-and (λ o. (after d j s o r).proxy.last i) (given.Turn (turn_front d h t)) (t == j) (l.point.site == i) (known_by l) (last d h j i) k (ap (λ (x : Point). if l.point.site == i then greater_point (known_by l) x else x) k)
last-step d h j i s a r n k f (took {j = t} {l = l} p q w y z) =
    raise-and (λ o. (after d j s o r).proxy.last i) (given.Turn (turn_front d h t)) (t == j) (l.point.site == i) (known_by l) (last d h j i) k (ap (λ (x : Point). if l.point.site == i then greater_point (known_by l) x else x) k)
last-step d h j i s a r n k f (showed_stamp {j = t} {l = l} p q) = go (t == j)
  where
    go : (b : Bool) → (after d j s (if b then Some given.Stamp else None) (ans.Shown l)).proxy.last i ≡ last d h j i
    go true = k
    go false = k
last-step d h j i s a r n k f (advanced {j = t} p q) = go (t == j) refl
  where
    go : (b : Bool) → (t == j) ≡ b → (after d j s (if b then Some given.Advance else None) r).proxy.last i ≡ elim (if b && in_stamp_mode d h j then close_cut h i (view h j) else None) [ None ↦ last d h j i | Some y ↦ greater_point y (last d h j i) ]
    go true e = ap (λ (x : Point). raised x (passed_cut d j s i)) k ∙ ap (raised (last d h j i)) (f (subst (λ (x : ℕ). may_advance d h x ≡ true) (eqb-true t j e) q))
    go false e = k
last-step d h j i s a r n k f _ = kept (λ s. s.proxy.last i) d j s (handed d h a j) r (λ input. refl) ∙ k

pub last-agrees : (d : Deployed) (h : List Entry) (j i : ℕ) → IsValid d → IsRun d h → (site_state d h j).proxy.last i ≡ last d h j i
unfolding site_state
last-agrees d [] j i v run = unfold last in refl
last-agrees d (e ∷ h) j i v run =
    let old : IsRun d h = before_of d h e run in
    last-step d h j i (site_state d h j) e.act e.answer e.inner (last-agrees d h j i v old) (λ m. passed-agrees d h j i v old m) (step_of d h e run)
