-- The parts that an entry at the site changes by its answer alone: promises, last sent, last pulse, views.
use Rattle.std.specs.Prelude.{◌≡◌, ℕ, ◌+◌, Bool, true, false, ◌&&◌, ◌||◌, List, [], ◌∷◌, ◌++◌, length, Option, Some, None, ◌==◌, max, if◌then◌else◌, refl}
use Rattle.std.proofs.Common.{sym, ap, ◌∙◌, arith}
use Rattle.sat_label.specs.declared.point.Point.{Point}
use Rattle.sat_label.specs.declared.label.Label.{Label}
use Rattle.sat_label.specs.declared.label.Kind.TheVariants as kind
use Rattle.sat_label.specs.Grouped.{least_item, list_of}
use Rattle.sat_act.specs.declared.act.Act.{Act}
use Rattle.sat_act.specs.declared.answer.Answer.{Answer}
use Rattle.sat_act.specs.declared.answer.Answer.TheVariants as ans
use Rattle.sat_act.specs.declared.entry.Entry.{Entry}
use Rattle.sat_act.specs.Deployed.{Deployed}
use Rattle.sat_act.specs.Histories.{listed}
use Rattle.std.proofs.lemmas.Bool.Decides.{nat_tests}
use Rattle.sat_act.specs.Parts.{promise, last_sent, last_pulse, emission, close_cut, view, fallen, cut, closed_epoch_of_entry, view_entry}
use Rattle.sat_act.specs.Answers.{took_close, gear_of, base, is_close_of}
use Rattle.sat_act.specs.Runs.{IsRun}
use Rattle.sat_laws.proofs.Steps.{Step, ticked, clocked, wrote, moved, emitted, pulsed, closed, fell, advanced, took}
use Rattle.sat_laws.proofs.Runs.{step_of, before_of, entry}
use Rattle.sat_model.specs.State.{SiteState}
use Rattle.sat_model.specs.Input.{SiteInput}
use Rattle.sat_model.specs.Input as given
use Rattle.sat_model.specs.Next.{site_next}
use Rattle.sat_model.specs.Replay.{after, handed, site_state, carrying, turn_front}
use Rattle.sat_model.proofs.Kept.{kept, at-seat, latest-if, latest-and}
use Rattle.sat_model.proofs.Writing.{at-write, write_input}

-- ---- promises

promise-step : (d : Deployed) (h : List Entry) (i g : ℕ) (s : SiteState) (a : Act) (r : Answer) (n : Bool) → (s.gears g).promise ≡ promise h i g → Step d h a r →
    ((after d i s (handed d h a i) r).gears g).promise ≡ promise (entry a r n ∷ h) i g
unfolding after handed site_next promise
promise-step d h i g s a r n k (ticked {i = t} {g = f} {t = u}) =
    latest-and (λ o. ((after d i s o (ans.Ticked (max (promise h t f) u))).gears g).promise) (given.Tick f u) (t == i) (f == g) (max (promise h t f) u) (promise h i g) k
    (ap (λ (p : ℕ). if f == g then max (promise h t f) u else p) k)
promise-step d h i g s a r n k clocked = refl
promise-step d h i g s a r n k (wrote {w = w} {i = t} z p q b) =
    let f : ℕ = gear_of d (least_item (list_of w.items)) in
    at-write (λ o. ((after d i s o r).gears g).promise) _ d h a w i t z p
    (latest-and (λ o. ((after d i s o r).gears g).promise) (write_input h w) (t == i) (f == g) (base h w.client t f + 1) (promise h i g) k
    (ap (λ (p : ℕ). if f == g then base h w.client t f + 1 else p) k))
promise-step d h i g s a r n k (moved {c = c} {j = j} {i = t} p q w) =
    at-seat (λ o. ((after d i s o r).gears g).promise) _ i t (given.Move (carrying h c) j) _ p
    (latest-and (λ o. ((after d i s o r).gears g).promise) (given.Move (carrying h c) j) (t == i) (0 == g) (base h c t 0 + 1) (promise h i g) k
    (ap (λ (p : ℕ). if 0 == g then base h c t 0 + 1 else p) k))
promise-step d h i g s a r n k _ = kept (λ s. (s.gears g).promise) d i s (handed d h a i) r (λ input. refl) ∙ k

pub promise-agrees : (d : Deployed) (h : List Entry) (i g : ℕ) → IsRun d h → ((site_state d h i).gears g).promise ≡ promise h i g
unfolding site_state promise
promise-agrees d [] i g run = refl
promise-agrees d (e ∷ h) i g run = promise-step d h i g (site_state d h i) e.act e.answer e.inner (promise-agrees d h i g (before_of d h e run)) (step_of d h e run)

-- ---- the last sent label, the last pulse

abbrev point_sent : Option Label → Option Point
point_sent o = elim o [ None ↦ None | Some l ↦ Some l.point ]

latest-point : (G : Option SiteInput → Point) (input : SiteInput) (b : Bool) (l : Label) (q : Point) → G None ≡ q → G (Some input) ≡ l.point → G (if b then Some input else None) ≡ elim (point_sent (if b then Some l else None)) [ None ↦ q | Some y ↦ y ]
latest-point G input true l q u v = v
latest-point G input false l q u v = u

sent-step : (d : Deployed) (h : List Entry) (i : ℕ) (s : SiteState) (a : Act) (r : Answer) (n : Bool) → s.sink.last ≡ last_sent h i → Step d h a r →
    (after d i s (handed d h a i) r).sink.last ≡ last_sent (entry a r n ∷ h) i
unfolding after handed site_next last_sent
sent-step d h i s a r n k (emitted {i = t} {l = l} p) = latest-point (λ o. (after d i s o r).sink.last) given.Emit (t == i) l (last_sent h i) k refl
sent-step d h i s a r n k (pulsed {i = t} p q) = latest-point (λ o. (after d i s o r).sink.last) given.Pulse (t == i) _ (last_sent h i) k refl
sent-step d h i s a r n k (closed {i = t} p q) =
    latest-point (λ o. (after d i s o r).sink.last) given.Close (t == i) (record { point = cut d h t; kind = kind.Close (emission h t) }) (last_sent h i) k refl
sent-step d h i s a r n k _ = kept (λ s. s.sink.last) d i s (handed d h a i) r (λ input. refl) ∙ k

pub sent-agrees : (d : Deployed) (h : List Entry) (i : ℕ) → IsRun d h → (site_state d h i).sink.last ≡ last_sent h i
unfolding site_state last_sent
sent-agrees d [] i run = refl
sent-agrees d (e ∷ h) i run = sent-step d h i (site_state d h i) e.act e.answer e.inner (sent-agrees d h i (before_of d h e run)) (step_of d h e run)

pulse-step : (d : Deployed) (h : List Entry) (i : ℕ) (s : SiteState) (a : Act) (r : Answer) (n : Bool) → s.sink.pulse ≡ last_pulse h i → Step d h a r →
    (after d i s (handed d h a i) r).sink.pulse ≡ last_pulse (entry a r n ∷ h) i
unfolding after handed site_next last_pulse
pulse-step d h i s a r n k (pulsed {i = t} p q) = latest-if (λ o. (after d i s o r).sink.pulse) given.Pulse (t == i) _ (last_pulse h i) k refl
pulse-step d h i s a r n k _ = kept (λ s. s.sink.pulse) d i s (handed d h a i) r (λ input. refl) ∙ k

pub pulse-agrees : (d : Deployed) (h : List Entry) (i : ℕ) → IsRun d h → (site_state d h i).sink.pulse ≡ last_pulse h i
unfolding site_state last_pulse
pulse-agrees d [] i run = refl
pulse-agrees d (e ∷ h) i run = pulse-step d h i (site_state d h i) e.act e.answer e.inner (pulse-agrees d h i (before_of d h e run)) (step_of d h e run)

-- ---- views

plain : {Y : Type 0} (xs : List Y) → xs ++ [] ≡ xs
plain [] = refl
plain (x ∷ xs) = ap (λ ys. x ∷ ys) (plain xs)

longer : (xs : List ℕ) (y : ℕ) → 1 + length (xs ++ y ∷ []) ≡ 1 + length xs + 1
longer [] y = refl
longer (x ∷ xs) y = let k : 1 + length (xs ++ y ∷ []) ≡ 1 + length xs + 1 = longer xs y in omega arith

count : (b : Bool) (G : Option SiteInput → ℕ) (input : SiteInput) (xs : List ℕ) (y : ℕ) → G None ≡ 1 + length xs → G (Some input) ≡ 1 + length xs + 1 →
    G (if b then Some input else None) ≡ 1 + length (xs ++ elim (if b then Some y else None) [ None ↦ [] | Some x ↦ x ∷ [] ])
count true G input xs y u v = v ∙ sym (longer xs y)
count false G input xs y u v = u ∙ ap (λ (ys : List ℕ). 1 + length ys) (sym (plain xs))

same-count : (xs : List ℕ) → 1 + length xs ≡ 1 + length (xs ++ [])
same-count xs = ap (λ (ys : List ℕ). 1 + length ys) (sym (plain xs))

same_num : (t i : ℕ) (F : ℕ → ℕ) (b : Bool) → (t == i) ≡ b → b ≡ true → F t ≡ F i
same_num t i F b e w = grind (arith, nat_tests)

emission-step : (d : Deployed) (h : List Entry) (i : ℕ) (s : SiteState) (a : Act) (r : Answer) (n : Bool) → s.views.emission ≡ emission h i → Step d h a r →
    (after d i s (handed d h a i) r).views.emission ≡ emission (entry a r n ∷ h) i
unfolding after handed site_next emission
emission-step d h i s a r n k (closed {i = t} p q) = go (t == i) refl
  where
    go : (b : Bool) → (t == i) ≡ b → (after d i s (if b then Some given.Close else None) r).views.emission ≡ 1 + length (listed (closed_epoch_of_entry i) h ++ elim (if b then Some (emission h t) else None) [ None ↦ [] | Some x ↦ x ∷ [] ])
    go true e = ap (λ (m : ℕ). m + 1) (same_num t i (emission h) true e refl) ∙ sym (longer (listed (closed_epoch_of_entry i) h) (emission h t))
    go false e = k ∙ same-count (listed (closed_epoch_of_entry i) h)
emission-step d h i s a r n k _ = kept (λ s. s.views.emission) d i s (handed d h a i) r (λ input. refl) ∙ (k ∙ same-count (listed (closed_epoch_of_entry i) h))

pub emission-agrees : (d : Deployed) (h : List Entry) (i : ℕ) → IsRun d h → (site_state d h i).views.emission ≡ emission h i
unfolding site_state emission
emission-agrees d [] i run = refl
emission-agrees d (e ∷ h) i run = emission-step d h i (site_state d h i) e.act e.answer e.inner (emission-agrees d h i (before_of d h e run)) (step_of d h e run)

view-step : (d : Deployed) (h : List Entry) (i : ℕ) (s : SiteState) (a : Act) (r : Answer) (n : Bool) → s.views.view ≡ view h i → Step d h a r →
    (after d i s (handed d h a i) r).views.view ≡ view (entry a r n ∷ h) i
unfolding after handed site_next view
view-step d h i s a r n k (advanced {j = t} p q) = go (t == i) refl
  where
    go : (b : Bool) → (t == i) ≡ b → (after d i s (if b then Some given.Advance else None) r).views.view ≡ 1 + length (listed (view_entry i) h ++ elim (if b then Some (view h t + 1) else None) [ None ↦ [] | Some x ↦ x ∷ [] ])
    go true e = ap (λ (m : ℕ). m + 1) (same_num t i (view h) true e refl) ∙ sym (longer (listed (view_entry i) h) (view h t + 1))
    go false e = k ∙ same-count (listed (view_entry i) h)
view-step d h i s a r n k _ = kept (λ s. s.views.view) d i s (handed d h a i) r (λ input. refl) ∙ (k ∙ same-count (listed (view_entry i) h))

pub view-agrees : (d : Deployed) (h : List Entry) (i : ℕ) → IsRun d h → (site_state d h i).views.view ≡ view h i
unfolding site_state view
view-agrees d [] i run = refl
view-agrees d (e ∷ h) i run = view-step d h i (site_state d h i) e.act e.answer e.inner (view-agrees d h i (before_of d h e run)) (step_of d h e run)

fallen-step : (d : Deployed) (h : List Entry) (i : ℕ) (s : SiteState) (a : Act) (r : Answer) (n : Bool) → s.views.fallen ≡ fallen h i → Step d h a r →
    (after d i s (handed d h a i) r).views.fallen ≡ fallen (entry a r n ∷ h) i
unfolding after handed site_next fallen
fallen-step d h i s a r n k (advanced {j = t} p q) = latest-if (λ o. (after d i s o r).views.fallen) given.Advance (t == i) false (fallen h i) k refl
fallen-step d h i s a r n k (fell {j = t} p q) = latest-if (λ o. (after d i s o r).views.fallen) given.Fall (t == i) true (fallen h i) k refl
fallen-step d h i s a r n k _ = kept (λ s. s.views.fallen) d i s (handed d h a i) r (λ input. refl) ∙ k

pub fallen-agrees : (d : Deployed) (h : List Entry) (i : ℕ) → IsRun d h → (site_state d h i).views.fallen ≡ fallen h i
unfolding site_state fallen
fallen-agrees d [] i run = refl
fallen-agrees d (e ∷ h) i run = fallen-step d h i (site_state d h i) e.act e.answer e.inner (fallen-agrees d h i (before_of d h e run)) (step_of d h e run)

closes-step : (d : Deployed) (h : List Entry) (i f : ℕ) (s : SiteState) (a : Act) (r : Answer) (n : Bool) → s.views.closes f ≡ close_cut h i f → Step d h a r →
    (after d i s (handed d h a i) r).views.closes f ≡ close_cut (entry a r n ∷ h) i f
unfolding after handed site_next close_cut
closes-step d h i f s a r n k (closed {i = t} p q) =
    latest-and (λ o. (after d i s o r).views.closes f) given.Close (t == i) (emission h t == f) (Some (cut d h t)) (close_cut h i f) k
    (ap (λ (o : Option Point). if emission h t == f then Some (cut d h t) else o) k)
closes-step d h i f s a r n k _ = kept (λ s. s.views.closes f) d i s (handed d h a i) r (λ input. refl) ∙ k

pub closes-agrees : (d : Deployed) (h : List Entry) (i f : ℕ) → IsRun d h → (site_state d h i).views.closes f ≡ close_cut h i f
unfolding site_state close_cut
closes-agrees d [] i f run = refl
closes-agrees d (e ∷ h) i f run = closes-step d h i f (site_state d h i) e.act e.answer e.inner (closes-agrees d h i f (before_of d h e run)) (step_of d h e run)

heard-step : (d : Deployed) (h : List Entry) (j i f : ℕ) (s : SiteState) (a : Act) (r : Answer) (n : Bool) → s.views.heard i f ≡ took_close h j i f → Step d h a r →
    (after d j s (handed d h a j) r).views.heard i f ≡ took_close (entry a r n ∷ h) j i f
unfolding after handed site_next took_close
heard-step d h j i f s a r n k (took {j = t} {l = l} p q w u v) = go (t == j)
  where
    go : (b : Bool) → (after d j s (if b then Some (given.Turn (turn_front d h t)) else None) (ans.Took l)).views.heard i f ≡ ((b && is_close_of l i f) || took_close h j i f)
    go true = ap (λ (x : Bool). is_close_of l i f || x) k
    go false = k
heard-step d h j i f s a r n k _ = kept (λ s. s.views.heard i f) d j s (handed d h a j) r (λ input. refl) ∙ k

pub heard-agrees : (d : Deployed) (h : List Entry) (j i f : ℕ) → IsRun d h → (site_state d h j).views.heard i f ≡ took_close h j i f
unfolding site_state took_close
heard-agrees d [] j i f run = refl
heard-agrees d (e ∷ h) j i f run = heard-step d h j i f (site_state d h j) e.act e.answer e.inner (heard-agrees d h j i f (before_of d h e run)) (step_of d h e run)
