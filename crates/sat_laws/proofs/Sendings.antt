-- A site sends no label twice.
use Rattle.std.specs.Prelude.{◌≡◌, ◌<◌, ◌≤◌, ℕ, ◌+◌, Bool, true, false, List, [], ◌∷◌, ◌++◌, Option, Some, None, refl, ◌==◌, nat_le, if◌then◌else◌, length}
use Rattle.std.proofs.Common.{sym, subst, arith, inl, inr, ap, ◌∙◌, length-append}
use Rattle.std.proofs.lemmas.Bool.Decides.{nat_tests}
use Rattle.std.proofs.lemmas.Bool.{eqb-true}
use Rattle.sat_label.proofs.Truth.{some_if}
use Rattle.sat_label.specs.declared.label.Kind.{Kind}
use Rattle.sat_label.specs.declared.label.Kind.TheVariants as kind
use Rattle.sat_label.specs.declared.label.Label.{Label}
use Rattle.sat_label.specs.Order.{point_at}
use Rattle.sat_act.specs.declared.act.Act.{Act}
use Rattle.sat_act.specs.declared.answer.Answer.{Answer}
use Rattle.sat_act.specs.declared.entry.Entry.{Entry}
use Rattle.sat_act.specs.Deployed.{Deployed}
use Rattle.sat_act.specs.Histories.{listed}
use Rattle.sat_act.specs.Parts.{stable, sent_entry, pending, ready, is_stable, last_pulse, cut}
use Rattle.sat_act.specs.Runs.{IsRun}
use Rattle.sat_act.specs.Goals.{Gives, IsValid}
use Rattle.sat_laws.proofs.Steps.{Step, emitted, pulsed, closed}
use Rattle.sat_laws.proofs.Runs.{step_of, before_of, entry}
use Rattle.sat_laws.proofs.Labels.{some_is}
use Rattle.sat_act.specs.Parts.{emission, last_pulse, closed_epoch_of_entry, pulse_entry}
use Rattle.sat_laws.proofs.Sinks.{Sent, pending-is, gathered-made}
use Rattle.sat_laws.proofs.Labels.{made-kind}
use Rattle.sat_laws.proofs.Cuts.{Sending, by_emit, by_pulse, by_close, sending, ready-is, not_sent}
use Rattle.sat_label.proofs.Least.{IsLeast}
use Rattle.sat_label.specs.Members.{is_made}

length-more : {X : Type 0} (xs ys : List X) → length xs ≤ length (xs ++ ys)
length-more xs ys = omega (arith, length-append xs ys)

-- emission rises by the closes
pub emission-rises : (h : List Entry) (e : Entry) (i : ℕ) → emission h i ≤ emission (e ∷ h) i
unfolding emission
emission-rises h e i =
    let w : length (listed (closed_epoch_of_entry i) h) ≤ length (listed (closed_epoch_of_entry i) h ++ elim (closed_epoch_of_entry i h e) [ None ↦ [] | Some x ↦ x ∷ [] ]) = length-more (listed (closed_epoch_of_entry i) h) _ in
    omega arith

length-one : {X : Type 0} (xs : List X) (o : Option X) (y : X) → o ≡ Some y → length (xs ++ elim o [ None ↦ [] | Some x ↦ x ∷ [] ]) ≡ length xs + 1
length-one xs None y e = absurd (cc)
length-one xs (Some x) y e = omega (arith, length-append xs (x ∷ []))

pub emission-closed : (h : List Entry) (e : Entry) (i f : ℕ) → closed_epoch_of_entry i h e ≡ Some f → emission (e ∷ h) i ≡ emission h i + 1
unfolding emission
emission-closed h e i f w =
    let q : length (listed (closed_epoch_of_entry i) h ++ elim (closed_epoch_of_entry i h e) [ None ↦ [] | Some x ↦ x ∷ [] ]) ≡ length (listed (closed_epoch_of_entry i) h) + 1 = length-one (listed (closed_epoch_of_entry i) h) (closed_epoch_of_entry i h e) f w in
    omega arith

pub picked_if : {X : Type 0} (b : Bool) (x y : X) → (if b then Some x else None) ≡ Some y → (b ≡ true) × (x ≡ y)
picked_if true x y e = (refl, some_is x y e)
picked_if false x y e = absurd (cc)

kind_close : (e f : ℕ) → kind.Close e ≡ kind.Close f → e ≡ f
kind_close e f k = cc

not_made : (l : Label) (f : ℕ) → l.kind ≡ kind.Close f → is_made l.kind ≡ true → ⊥
not_made l f k m = let w : is_made (kind.Close f) ≡ true = subst (λ (x : Kind). is_made x ≡ true) k m in cc

not_made_pulse : (l : Label) → l.kind ≡ kind.Pulse → is_made l.kind ≡ true → ⊥
not_made_pulse l k m = let w : is_made kind.Pulse ≡ true = subst (λ (x : Kind). is_made x ≡ true) k m in cc

ready-made : (d : Deployed) (h : List Entry) (i : ℕ) (l : Label) → IsValid d → IsRun d h → ready d h i ≡ Some l → is_made l.kind ≡ true
ready-made d h i l v run r =
    let k : IsLeast (is_stable d h i) (pending d h i) l = ready-is d h i l r in
    made-kind d h l v run (gathered-made h i l (pending-is d h i l k.member).0)

pub close-now : (d : Deployed) (h : List Entry) (i f : ℕ) (a : Act) (r : Answer) (n : Bool) (l : Label) → IsValid d → IsRun d h → Step d h a r → sent_entry i h (entry a r n) ≡ Some l → l.kind ≡ kind.Close f →
    (f ≡ emission h i) × (closed_epoch_of_entry i h (entry a r n) ≡ Some f)
close-now d h i f a r n l v run (emitted {i = k} {l = m} q) e c =
    let w : ((k == i) ≡ true) × (m ≡ l) = picked_if (k == i) m l e in
    absurd (not_made l f c (subst (λ (x : Label). is_made x.kind ≡ true) w.1 (ready-made d h k m v run q)))
close-now d h i f a r n l v run (pulsed {i = k} q p) e c =
    let w : ((k == i) ≡ true) × (record { point = point_at (stable d h k) k 65534; kind = kind.Pulse } ≡ l) = picked_if (k == i) (record { point = point_at (stable d h k) k 65534; kind = kind.Pulse }) l e in
    absurd (let z : kind.Pulse ≡ kind.Close f = ap (λ (x : Label). x.kind) w.1 ∙ c in cc)
close-now d h i f a r n l v run (closed {i = k} q p) e c =
    let w : ((k == i) ≡ true) × (record { point = cut d h k; kind = kind.Close (emission h k) } ≡ l) = picked_if (k == i) (record { point = cut d h k; kind = kind.Close (emission h k) }) l e in
    let z : emission h k ≡ f = kind_close (emission h k) f (ap (λ (x : Label). x.kind) w.1 ∙ c) in
    (sym z ∙ ap (emission h) (eqb-true k i w.0), some_if (k == i) (emission h k) w.0 ∙ ap (λ (x : ℕ). Some x) z)
close-now d h i f a r n l v run _ e c = absurd (cc)

pub close-seq : (d : Deployed) (h : List Entry) (i f : ℕ) (l : Label) → IsValid d → IsRun d h → Sent h i l → l.kind ≡ kind.Close f → f < emission h i
unfolding Gives
close-seq d [] i f l v run m c = absurd m
close-seq d (x ∷ h) i f l v run (inl m) c =
    let a : f < emission h i = close-seq d h i f l v (before_of d h x run) m c in
    let b : emission h i ≤ emission (x ∷ h) i = emission-rises h x i in
    omega arith
close-seq d (x ∷ h) i f l v run (inr m) c =
    let w : (f ≡ emission h i) × (closed_epoch_of_entry i h x ≡ Some f) = close-now d h i f x.act x.answer x.inner l v (before_of d h x run) (step_of d h x run) m c in
    let a : f ≡ emission h i = w.0 in
    let b : emission (x ∷ h) i ≡ emission h i + 1 = emission-closed h x i f w.1 in
    omega arith

pulse-now : (d : Deployed) (h : List Entry) (i : ℕ) (a : Act) (r : Answer) (n : Bool) (l : Label) → IsValid d → IsRun d h → Step d h a r → sent_entry i h (entry a r n) ≡ Some l → l.kind ≡ kind.Pulse →
    (pulse_entry i h (entry a r n) ≡ Some l.point.ts) × (last_pulse h i < l.point.ts)
pulse-now d h i a r n l v run (emitted {i = k} {l = m} q) e c =
    let w : ((k == i) ≡ true) × (m ≡ l) = picked_if (k == i) m l e in
    absurd (not_made_pulse l c (subst (λ (x : Label). is_made x.kind ≡ true) w.1 (ready-made d h k m v run q)))
pulse-now d h i a r n l v run (pulsed {i = k} q p) e c =
    let w : ((k == i) ≡ true) × (record { point = point_at (stable d h k) k 65534; kind = kind.Pulse } ≡ l) = picked_if (k == i) (record { point = point_at (stable d h k) k 65534; kind = kind.Pulse }) l e in
    let t : stable d h k ≡ l.point.ts = ap (λ (x : Label). x.point.ts) w.1 in
    let s : last_pulse h k < stable d h k = above (stable d h k) (last_pulse h k) p in
    let s' : last_pulse h i < stable d h k = subst (λ (y : ℕ). last_pulse h y < stable d h k) (eqb-true k i w.0) s in
    (some_if (k == i) (stable d h k) w.0 ∙ ap (λ (x : ℕ). Some x) t, omega arith)
  where
    above : (a b : ℕ) → nat_le a b ≡ false → b < a
    above a b e = grind (arith, nat_tests)
pulse-now d h i a r n l v run (closed {i = k} q p) e c =
    let w : ((k == i) ≡ true) × (record { point = cut d h k; kind = kind.Close (emission h k) } ≡ l) = picked_if (k == i) (record { point = cut d h k; kind = kind.Close (emission h k) }) l e in
    absurd (let z : kind.Close (emission h k) ≡ kind.Pulse = ap (λ (x : Label). x.kind) w.1 ∙ c in cc)
pulse-now d h i a r n l v run _ e c = absurd (cc)

pulse-any : (d : Deployed) (h : List Entry) (i t : ℕ) (a : Act) (r : Answer) (n : Bool) → Step d h a r → pulse_entry i h (entry a r n) ≡ Some t → last_pulse h i ≤ t
pulse-any d h i t a r n (pulsed {i = k} q p) e =
    let w : ((k == i) ≡ true) × (stable d h k ≡ t) = picked_if (k == i) (stable d h k) t e in
    let s : last_pulse h k < stable d h k = above (stable d h k) (last_pulse h k) p in
    let s' : last_pulse h i < stable d h k = subst (λ (y : ℕ). last_pulse h y < stable d h k) (eqb-true k i w.0) s in
    let z : stable d h k ≡ t = w.1 in
    omega arith
  where
    above : (a b : ℕ) → nat_le a b ≡ false → b < a
    above a b e = grind (arith, nat_tests)
pulse-any d h i t a r n _ e = absurd (cc)

pulse-new : (h : List Entry) (x : Entry) (i t : ℕ) → pulse_entry i h x ≡ Some t → last_pulse (x ∷ h) i ≡ t
unfolding last_pulse
pulse-new h x i t e = ap (λ (o : Option ℕ). pick o) e
  where
    pick : Option ℕ → ℕ
    pick o = elim o [ None ↦ last_pulse h i | Some y ↦ y ]

pulse-old : (h : List Entry) (x : Entry) (i : ℕ) → pulse_entry i h x ≡ None → last_pulse (x ∷ h) i ≡ last_pulse h i
unfolding last_pulse
pulse-old h x i e = ap (λ (o : Option ℕ). pick o) e
  where
    pick : Option ℕ → ℕ
    pick o = elim o [ None ↦ last_pulse h i | Some y ↦ y ]

last_pulse-rises : (d : Deployed) (h : List Entry) (x : Entry) (i : ℕ) → IsRun d (x ∷ h) → last_pulse h i ≤ last_pulse (x ∷ h) i
last_pulse-rises d h x i run = go (pulse_entry i h x) refl
  where
    go : (o : Option ℕ) → pulse_entry i h x ≡ o → last_pulse h i ≤ last_pulse (x ∷ h) i
    go None e = let a : last_pulse (x ∷ h) i ≡ last_pulse h i = pulse-old h x i e in omega arith
    go (Some t) e =
        let a : last_pulse (x ∷ h) i ≡ t = pulse-new h x i t e in
        let b : last_pulse h i ≤ t = pulse-any d h i t x.act x.answer x.inner (step_of d h x run) e in
        omega arith

pulse-seq : (d : Deployed) (h : List Entry) (i : ℕ) (l : Label) → IsValid d → IsRun d h → Sent h i l → l.kind ≡ kind.Pulse → l.point.ts ≤ last_pulse h i
unfolding Gives
pulse-seq d [] i l v run m c = absurd m
pulse-seq d (x ∷ h) i l v run (inl m) c =
    let a : l.point.ts ≤ last_pulse h i = pulse-seq d h i l v (before_of d h x run) m c in
    let b : last_pulse h i ≤ last_pulse (x ∷ h) i = last_pulse-rises d h x i run in
    omega arith
pulse-seq d (x ∷ h) i l v run (inr m) c =
    let w : (pulse_entry i h x ≡ Some l.point.ts) × (last_pulse h i < l.point.ts) = pulse-now d h i x.act x.answer x.inner l v (before_of d h x run) (step_of d h x run) m c in
    let a : last_pulse (x ∷ h) i ≡ l.point.ts = pulse-new h x i l.point.ts w.0 in
    omega arith

made-sent-once : (d : Deployed) (h : List Entry) (i : ℕ) (l : Label) → Sending d h i l → is_made l.kind ≡ true → Sent h i l → ⊥
made-sent-once d h i l (by_emit r) k old = not_sent h i l (pending-is d h i l (ready-is d h i l r).member).2 old
made-sent-once d h i l (by_pulse r p w) k old = not_made_pulse l (sym (ap (λ (x : Label). x.kind) w)) k
made-sent-once d h i l (by_close w) k old = not_made l (emission h i) (sym (ap (λ (x : Label). x.kind) w)) k

-- a site sends no label twice
pub sent-once : (d : Deployed) (h : List Entry) (x : Entry) (i : ℕ) (l : Label) → IsValid d → IsRun d (x ∷ h) → sent_entry i h x ≡ Some l → Sent h i l → ⊥
sent-once d h x i l v run m old = go l.kind refl
  where
    go : (k : Kind) → l.kind ≡ k → ⊥
    go (kind.Update items) e = made-sent-once d h i l (sending d h i l x.act x.answer x.inner (step_of d h x run) m) (ap is_made e) old
    go (kind.Move y) e = made-sent-once d h i l (sending d h i l x.act x.answer x.inner (step_of d h x run) m) (ap is_made e) old
    go kind.Pulse e =
        let a : l.point.ts ≤ last_pulse h i = pulse-seq d h i l v (before_of d h x run) old e in
        let b : last_pulse h i < l.point.ts = (pulse-now d h i x.act x.answer x.inner l v (before_of d h x run) (step_of d h x run) m e).1 in
        omega arith
    go (kind.Close f) e =
        let a : f < emission h i = close-seq d h i f l v (before_of d h x run) old e in
        let b : f ≡ emission h i = (close-now d h i f x.act x.answer x.inner l v (before_of d h x run) (step_of d h x run) m e).0 in
        omega arith
