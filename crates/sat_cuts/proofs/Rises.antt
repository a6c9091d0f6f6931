-- A cut never falls.
use Rattle.std.specs.Prelude.{◌≡◌, ◌⊎◌, ◌<◌, ◌≤◌, ℕ, ◌-◌, Bool, true, false, List, [], ◌∷◌, ◌++◌, Option, Some, None, refl, nat_lt}
use Rattle.std.proofs.Common.{sym, subst, arith, inl, inr, ◌∙◌, lit≤}
use Rattle.std.proofs.lemmas.Bool.Decides.{nat_tests}
use Rattle.std.proofs.Math.Nat.{le_refl}
use Rattle.sat_label.specs.declared.point.Point.{Point}
use Rattle.sat_label.specs.declared.label.Kind.{Kind}
use Rattle.sat_label.specs.declared.label.Kind.TheVariants as kind
use Rattle.sat_label.specs.declared.label.Label.{Label}
use Rattle.sat_label.specs.Order.{point_at, mark, point_lt, point_le, label_eq}
use Rattle.sat_label.specs.Words.{has}
use Rattle.sat_act.specs.declared.entry.Entry.{Entry}
use Rattle.sat_act.specs.Deployed.{Deployed}
use Rattle.sat_act.specs.Parts.{gathered, stable, sent, sent_entry, pending, ready, is_stable, last_sent, cut, known_at, known_by}
use Rattle.sat_act.specs.Runs.{IsRun}
use Rattle.sat_act.specs.Done.{made_in}
use Rattle.sat_act.specs.Goals.{Gives, Made, IsValid}
use Rattle.sat_laws.proofs.Runs.{step_of, before_of}
use Rattle.sat_laws.proofs.Labels.{IsPlaced, made-placed, made-positive}
use Rattle.sat_laws.proofs.Orders.{point_le-mark}
use Rattle.sat_laws.proofs.Knowledge.{point_le-greater_left, point_le-greater_right}
use Rattle.sat_laws.proofs.Sinks.{Sent, pending-is, stable-rises, gathered-made, new-unstable}
use Rattle.sat_laws.proofs.Cuts.{cut-some, stable-ts, Sending, by_emit, by_pulse, by_close, sending, ready-is, not_sent, none-sent, precedes-sent, lower-sent, last-new, last-old, cut-none, cut-ts, sent-order, sent-ts, sent-site}
use Rattle.sat_cuts.specs.Laws.{CutNeverFalls, CutNeverFallsLater, CutIsStable}
use Rattle.sat_laws.proofs.Knowledge.{point_le-below}
use Rattle.sat_label.proofs.Orders.{marks-le, of-greater, point_lt-total, point_le-trans, point_le-self, ts-lt}
use Rattle.sat_label.proofs.Least.{IsLeast}
use Rattle.std.proofs.lemmas.Bool.{or_left}

-- ---- over plain points

-- a site's point is at or below the mark of its ts, and each later one
below_mark : (p : Point) (i t : ℕ) → p.site ≡ i → p.gear ≤ 65535 → p.ts ≤ t → point_le p (mark t i) ≡ true
below_mark p i t s g w = subst (λ (k : ℕ). point_le p (mark t k) ≡ true) s (point_le-mark p t g w)

lt_or_le : (a b : ℕ) → (a < b) ⊎ (b ≤ a)
lt_or_le a b = go (nat_lt a b) refl
  where
    go : (c : Bool) → nat_lt a b ≡ c → (a < b) ⊎ (b ≤ a)
    go true e = inl (grind (arith, nat_tests))
    go false e = inr (grind (arith, nat_tests))

-- what a label makes known is not below it
known-above : (l : Label) → l.point.gear ≤ 65535 → point_le l.point (known_by l) ≡ true
known-above l g = go l.kind
  where
    go : (k : Kind) → point_le l.point (known_at k l.point) ≡ true
    go (kind.Update items) = point_le-self l.point
    go (kind.Move j) = point_le-self l.point
    go kind.Pulse = point_le-mark l.point l.point.ts g (le_refl l.point.ts)
    go (kind.Close e) = point_le-self l.point

-- ---- what holds of all that was sent holds of the last, and of the cut

last-all : (P : Point → Type 0) (h : List Entry) (i : ℕ) → ((s : Label) → Sent h i s → P s.point) → P (point_at 0 i 0) → P (last_sent h i)
unfolding Gives
last-all P [] i each zero = unfold last_sent in zero
last-all P (e ∷ h) i each zero = go (sent_entry i h e) refl (last-all P h i (λ s m. each s (inl m)) zero)
  where
    go : (o : Option Label) → sent_entry i h e ≡ o → P (last_sent h i) → P (last_sent (e ∷ h) i)
    go None w old = subst P (sym (last-old h e i w)) old
    go (Some s) w old = subst P (sym (last-new h e i s w)) (each s (inr w))

cut-all : (P : Point → Type 0) (d : Deployed) (h : List Entry) (i : ℕ) → ((s : Label) → Sent h i s → P s.point) → P (point_at 0 i 0) → ((t : ℕ) → P (mark t i)) → P (cut d h i)
cut-all P d h i each zero marks = go (ready d h i) refl
  where
    go : (o : Option Label) → ready d h i ≡ o → P (cut d h i)
    go None r = subst P (sym (cut-none d h i r)) (marks (stable d h i))
    go (Some m) r = subst P (sym (cut-some d h i m r)) (of-greater P (last_sent h i) (mark (m.point.ts - 1) i) (last-all P h i each zero) (marks (m.point.ts - 1)))

few-gears : (d : Deployed) (h : List Entry) (l : Label) → IsValid d → IsRun d h → Made h l → l.point.gear ≤ 65535
few-gears d h l v run m =
    let p : IsPlaced d h l = made-placed d h l v run m in
    let f : d.gears ≤ 8 = v.few_gears in
    let g : l.point.gear < d.gears = p.gear in
    omega arith

sending-gear : (d : Deployed) (h : List Entry) (i : ℕ) (s : Label) → IsValid d → IsRun d h → ((s : Label) → Sent h i s → s.point.gear ≤ 65535) → Sending d h i s → s.point.gear ≤ 65535
sending-gear d h i s v run old (by_emit r) =
    let k : IsLeast (is_stable d h i) (pending d h i) s = ready-is d h i s r in
    few-gears d h s v run (gathered-made h i s (pending-is d h i s k.member).0)
sending-gear d h i s v run old (by_pulse r p w) = subst (λ (l : Label). l.point.gear ≤ 65535) w (lit≤ tt)
sending-gear d h i s v run old (by_close w) =
    subst (λ (l : Label). l.point.gear ≤ 65535) w (cut-all (λ p. p.gear ≤ 65535) d h i old (lit≤ tt) (λ t. lit≤ tt))

sent-gear : (d : Deployed) (h : List Entry) (i : ℕ) (s : Label) → IsValid d → IsRun d h → Sent h i s → s.point.gear ≤ 65535
unfolding Gives
sent-gear d [] i s v run m = absurd m
sent-gear d (e ∷ h) i s v run (inl m) = sent-gear d h i s v (before_of d h e run) m
sent-gear d (e ∷ h) i s v run (inr m) =
    sending-gear d h i s v (before_of d h e run) (λ l. sent-gear d h i l v (before_of d h e run)) (sending d h i s e.act e.answer e.inner (step_of d h e run) m)

cut-gear : (d : Deployed) (h : List Entry) (i : ℕ) → IsValid d → IsRun d h → (cut d h i).gear ≤ 65535
cut-gear d h i v run = cut-all (λ p. p.gear ≤ 65535) d h i (λ s. sent-gear d h i s v run) (lit≤ tt) (λ t. lit≤ tt)

cut-site : (d : Deployed) (h : List Entry) (i : ℕ) → IsRun d h → (cut d h i).site ≡ i
cut-site d h i run = cut-all (λ p. p.site ≡ i) d h i (λ s. sent-site d h i s run) refl (λ t. refl)

pub cut-stable : CutIsStable
cut-stable d h i run x = (cut-site d h i run, cut-ts d h i (λ s. sent-ts d h i s x run))

-- ---- what is ready after an entry

-- the label that a site sends next was made there, and not sent
pub record IsWaiting (h : List Entry) (i : ℕ) (l : Label) : Type 0 where
  pub made : Made h l
  pub site : l.point.site ≡ i
  pub unsent : Sent h i l → ⊥

pub ready-waits : (d : Deployed) (h : List Entry) (i : ℕ) (l : Label) → ready d h i ≡ Some l → IsWaiting h i l
ready-waits d h i l r =
    let k : IsLeast (is_stable d h i) (pending d h i) l = ready-is d h i l r in
    let q : Made (gathered h i) l × (l.point.site ≡ i) × (has label_eq (sent h i) l ≡ false) = pending-is d h i l k.member in
    record { made = gathered-made h i l q.0; site = q.1; unsent = not_sent h i l q.2 }

ready-ts : (d : Deployed) (h : List Entry) (i : ℕ) (l : Label) → ready d h i ≡ Some l → l.point.ts ≤ stable d h i
ready-ts d h i l r = let k : IsLeast (is_stable d h i) (pending d h i) l = ready-is d h i l r in stable-ts d h i l k.passes

-- what lies at or below stable was made before
was-made : (d : Deployed) (h : List Entry) (e : Entry) (i : ℕ) (l : Label) → IsValid d → IsRun d (e ∷ h) → IsWaiting (e ∷ h) i l → l.point.ts ≤ stable d h i → Made h l
unfolding Gives stable
was-made d h e i l v run k w = go k.made
  where
    go : Gives (λ before e. made_in e.answer) h l ⊎ (made_in e.answer ≡ Some l) → Made h l
    go (inl m) = m
    go (inr m) = absurd (new-unstable d h e l v run m (subst (λ (y : ℕ). l.point.ts ≤ stable d h y) (sym k.site) w))

still-unsent : (h : List Entry) (e : Entry) (i : ℕ) (l : Label) → IsWaiting (e ∷ h) i l → Sent h i l → ⊥
unfolding Gives
still-unsent h e i l k m = k.unsent (inl m)

-- what waits after an entry, where nothing was ready before it, is past what was stable
past-stable : (d : Deployed) (h : List Entry) (e : Entry) (i : ℕ) (l : Label) → IsValid d → IsRun d (e ∷ h) → IsWaiting (e ∷ h) i l → ready d h i ≡ None → stable d h i < l.point.ts
past-stable d h e i l v run k r =
    elim (lt_or_le (stable d h i) l.point.ts) [
      | inl w ↦ w
      | inr w ↦ absurd (still-unsent h e i l k (none-sent d h i l v (before_of d h e run) (was-made d h e i l v run k w) k.site w r))
    ]

-- and else not below what was ready
past-ready : (d : Deployed) (h : List Entry) (e : Entry) (i : ℕ) (l m : Label) → IsValid d → IsRun d (e ∷ h) → IsWaiting (e ∷ h) i l → ready d h i ≡ Some m → m.point.ts ≤ l.point.ts
past-ready d h e i l m v run k r =
    elim (lt_or_le l.point.ts m.point.ts) [
      | inl w ↦
          let t : m.point.ts ≤ stable d h i = ready-ts d h i m r in
          let u : l.point.ts ≤ stable d h i = omega arith in
          absurd (still-unsent h e i l k (lower-sent d h i l m v (before_of d h e run) (was-made d h e i l v run k u) k.site (ts-lt l.point m.point w) r))
      | inr w ↦ w
    ]

-- ---- the last that was sent

-- what a sent label makes known was sent
pub known-sent : (d : Deployed) (h : List Entry) (i : ℕ) (s l : Label) → IsValid d → IsRun d h → i < d.sites → Sent h i s → Made h l → l.point.site ≡ i → point_le l.point (known_by s) ≡ true → Sent h i l
known-sent d h i s l v run x a m e c =
    elim (sent-order d h i x v run s l a m e c) [ inl q ↦ subst (λ (y : Label). Sent h i y) (sym q) a | inr q ↦ precedes-sent h i l s q ]

-- what was sent is at or below what is ready
sent-below : (d : Deployed) (h : List Entry) (i : ℕ) (s m : Label) → IsValid d → IsRun d h → i < d.sites → ready d h i ≡ Some m → Sent h i s → point_le s.point m.point ≡ true
sent-below d h i s m v run x r a =
    let k : IsWaiting h i m = ready-waits d h i m r in
    elim (point_lt-total s.point m.point) [
      | inl b ↦ b
      | inr b ↦
          let c : point_le m.point (known_by s) ≡ true = point_le-trans m.point s.point (known_by s) (or_left (point_lt m.point s.point) _ b) (known-above s (sent-gear d h i s v run a)) in
          absurd (k.unsent (known-sent d h i s m v run x a k.made k.site c))
    ]

-- and so is the cut
ready-above : (d : Deployed) (h : List Entry) (i : ℕ) (m : Label) → IsValid d → IsRun d h → i < d.sites → ready d h i ≡ Some m → point_le (cut d h i) m.point ≡ true
ready-above d h i m v run x r =
    let k : IsWaiting h i m = ready-waits d h i m r in
    let t : 1 ≤ m.point.ts = made-positive d h m v run k.made in
    subst (λ (p : Point). point_le p m.point ≡ true) (sym (cut-some d h i m r))
    (of-greater (λ p. point_le p m.point ≡ true) (last_sent h i) (mark (m.point.ts - 1) i)
    (last-all (λ p. point_le p m.point ≡ true) h i (λ s. sent-below d h i s m v run x r) (point_le-below (point_at 0 i 0) m.point (omega arith)))
    (point_le-below (mark (m.point.ts - 1) i) m.point (omega arith)))

last-below : (d : Deployed) (h : List Entry) (i : ℕ) (l : Label) → ready d h i ≡ Some l → point_le (last_sent h i) (cut d h i) ≡ true
last-below d h i l r = subst (λ (p : Point). point_le (last_sent h i) p ≡ true) (sym (cut-some d h i l r)) (point_le-greater_right (mark (l.point.ts - 1) i) (last_sent h i))

mark-below : (d : Deployed) (h : List Entry) (i t : ℕ) (l : Label) → ready d h i ≡ Some l → t ≤ l.point.ts - 1 → point_le (mark t i) (cut d h i) ≡ true
mark-below d h i t l r w =
    subst (λ (p : Point). point_le (mark t i) p ≡ true) (sym (cut-some d h i l r))
    (point_le-trans (mark t i) (mark (l.point.ts - 1) i) _ (marks-le t (l.point.ts - 1) i w) (point_le-greater_left (mark (l.point.ts - 1) i) (last_sent h i)))

-- ---- the cut before an entry, and after it

none-after : (d : Deployed) (h : List Entry) (e : Entry) (i : ℕ) → IsValid d → IsRun d (e ∷ h) → i < d.sites → ready d (e ∷ h) i ≡ None → point_le (cut d h i) (cut d (e ∷ h) i) ≡ true
none-after d h e i v run x r =
    let old : IsRun d h = before_of d h e run in
    let a : (cut d h i).ts ≤ stable d h i = cut-ts d h i (λ s. sent-ts d h i s x old) in
    let b : stable d h i ≤ stable d (e ∷ h) i = stable-rises d h e i x run in
    subst (λ (p : Point). point_le (cut d h i) p ≡ true) (sym (cut-none d (e ∷ h) i r)) (below_mark (cut d h i) i (stable d (e ∷ h) i) (cut-site d h i old) (cut-gear d h i v old) (omega arith))

none-before : (d : Deployed) (h : List Entry) (e : Entry) (i : ℕ) (l : Label) → IsValid d → IsRun d (e ∷ h) → ready d h i ≡ None → ready d (e ∷ h) i ≡ Some l → point_le (cut d h i) (cut d (e ∷ h) i) ≡ true
none-before d h e i l v run r q =
    let w : stable d h i < l.point.ts = past-stable d h e i l v run (ready-waits d (e ∷ h) i l q) r in
    subst (λ (p : Point). point_le p (cut d (e ∷ h) i) ≡ true) (sym (cut-none d h i r)) (mark-below d (e ∷ h) i (stable d h i) l q (omega arith))

-- a label that is sent while another is ready is at or above the cut
sending-above : (d : Deployed) (h : List Entry) (i : ℕ) (s m : Label) → IsValid d → IsRun d h → i < d.sites → ready d h i ≡ Some m → Sending d h i s → point_le (cut d h i) s.point ≡ true
sending-above d h i s m v run x r (by_emit q) = ready-above d h i s v run x q
sending-above d h i s m v run x r (by_pulse q p w) = absurd (let z : None ≡ Some m = sym q ∙ r in cc)
sending-above d h i s m v run x r (by_close w) = subst (λ (l : Label). point_le (cut d h i) l.point ≡ true) w (point_le-self (cut d h i))

some-twice : (d : Deployed) (h : List Entry) (e : Entry) (i : ℕ) (m l : Label) → IsValid d → IsRun d (e ∷ h) → i < d.sites → ready d h i ≡ Some m → ready d (e ∷ h) i ≡ Some l → point_le (cut d h i) (cut d (e ∷ h) i) ≡ true
some-twice d h e i m l v run x r q = go (sent_entry i h e) refl
  where
    go : (o : Option Label) → sent_entry i h e ≡ o → point_le (cut d h i) (cut d (e ∷ h) i) ≡ true
    go None w =
        let t : m.point.ts ≤ l.point.ts = past-ready d h e i l m v run (ready-waits d (e ∷ h) i l q) r in
        subst (λ (p : Point). point_le p (cut d (e ∷ h) i) ≡ true) (sym (cut-some d h i m r))
        (of-greater (λ p. point_le p (cut d (e ∷ h) i) ≡ true) (last_sent h i) (mark (m.point.ts - 1) i)
        (subst (λ (p : Point). point_le p (cut d (e ∷ h) i) ≡ true) (last-old h e i w) (last-below d (e ∷ h) i l q))
        (mark-below d (e ∷ h) i (m.point.ts - 1) l q (omega arith)))
    go (Some s) w =
        let a : point_le (cut d h i) s.point ≡ true = sending-above d h i s m v (before_of d h e run) x r (sending d h i s e.act e.answer e.inner (step_of d h e run) w) in
        point_le-trans (cut d h i) s.point (cut d (e ∷ h) i) a (subst (λ (p : Point). point_le p (cut d (e ∷ h) i) ≡ true) (last-new h e i s w) (last-below d (e ∷ h) i l q))

pub rises : CutNeverFalls
rises d h e i v run x = go (ready d h i) (ready d (e ∷ h) i) refl refl
  where
    go : (o p : Option Label) → ready d h i ≡ o → ready d (e ∷ h) i ≡ p → point_le (cut d h i) (cut d (e ∷ h) i) ≡ true
    go o None r q = none-after d h e i v run x q
    go None (Some l) r q = none-before d h e i l v run r q
    go (Some m) (Some l) r q = some-twice d h e i m l v run x r q

pub later : CutNeverFallsLater
later d h [] i v run x = point_le-self (cut d h i)
later d h (e ∷ more) i v run x =
    point_le-trans (cut d h i) (cut d (more ++ h) i) (cut d (e ∷ more ++ h) i) (later d h more i v (before_of d (more ++ h) e run) x) (rises d (more ++ h) e i v run x)
