-- Labels leave a sink in the order of their points, and the cut is a true line.
use Rattle.std.specs.Prelude.{◌≡◌, ◌⊎◌, ◌<◌, ◌≤◌, ℕ, ◌-◌, Bool, true, false, ◌&&◌, ◌||◌, List, [], ◌∷◌, Option, Some, None, refl, ◌==◌, nat_le, if◌then◌else◌}
use Rattle.std.proofs.Common.{sym, subst, arith, inl, inr, ap, ◌∙◌, lit≤}
use Rattle.std.proofs.lemmas.Bool.Decides.{nat_tests}
use Rattle.std.proofs.Math.Nat.{le_refl}
use Rattle.std.proofs.lemmas.Bool.{eqb-true, or_cases, or_left}
use Rattle.sat_label.specs.declared.point.Point.{Point}
use Rattle.sat_label.specs.declared.label.Kind.{Kind}
use Rattle.sat_label.specs.declared.label.Kind.TheVariants as kind
use Rattle.sat_label.specs.declared.label.Label.{Label}
use Rattle.sat_label.specs.Order.{point_at, mark, point_lt, point_le, point_eq, greater_point, label_eq, label_lt, kind_lt}
use Rattle.sat_label.specs.Words.{has}
use Rattle.sat_act.specs.declared.act.Act.{Act}
use Rattle.sat_act.specs.declared.answer.Answer.{Answer}
use Rattle.sat_act.specs.declared.entry.Entry.{Entry}
use Rattle.sat_act.specs.Deployed.{Deployed}
use Rattle.sat_act.specs.Parts.{gathered, stable, sent, sent_entry, pending, ready, is_stable, last_sent, last_pulse, cut, known_by}
use Rattle.sat_act.specs.Runs.{IsRun}
use Rattle.sat_act.specs.Goals.{Gives, Made, IsValid}
use Rattle.sat_laws.proofs.Steps.{Step, emitted, pulsed, closed}
use Rattle.sat_laws.proofs.Runs.{step_of, before_of, entry}
use Rattle.sat_laws.proofs.Labels.{some_is, IsPlaced, made-placed, made-positive, made-point}
use Rattle.sat_laws.proofs.Members.{gives-listed}
use Rattle.sat_act.specs.Parts.{emission, known_at, last_pulse}
use Rattle.sat_laws.proofs.Labels.{made-known}
use Rattle.sat_laws.proofs.Orders.{point_le-mark, point_eq-is}
use Rattle.sat_laws.proofs.Knowledge.{point_le-ts, point_le-greater_right}
use Rattle.sat_laws.proofs.Sinks.{Sent, Precedes, pending-is, sent-or-pending, stable-made, stable-rises, gathered-made, new-unstable}
use Rattle.sat_label.specs.Members.{In}
use Rattle.sat_label.proofs.Members.{in-has}
use Rattle.sat_label.proofs.Orders.{lt-ts, ts-lt, point_lt-total, point_le-trans, point_le_lt-absurd, mark-ts, point_le-self}
use Rattle.sat_label.proofs.Least.{IsLeast, least-is, none-passes}

-- how a site sends a label
pub data Sending (d : Deployed) (h : List Entry) (i : ℕ) (s : Label) : Type 0 where
  by_emit : ready d h i ≡ Some s → Sending d h i s
  by_pulse : ready d h i ≡ None → nat_le (stable d h i) (last_pulse h i) ≡ false → record { point = point_at (stable d h i) i 65534; kind = kind.Pulse } ≡ s → Sending d h i s
  by_close : record { point = cut d h i; kind = kind.Close (emission h i) } ≡ s → Sending d h i s

taken_if : {X : Type 0} (b : Bool) (x y : X) → (if b then Some x else None) ≡ Some y → (b ≡ true) × (x ≡ y)
taken_if true x y e = (refl, some_is x y e)
taken_if false x y e = absurd (cc)

pub sending : (d : Deployed) (h : List Entry) (i : ℕ) (s : Label) (a : Act) (r : Answer) (n : Bool) → Step d h a r → sent_entry i h (entry a r n) ≡ Some s → Sending d h i s
sending d h i s a r n (emitted {i = k} {l = l} q) e =
    let w : ((k == i) ≡ true) × (l ≡ s) = taken_if (k == i) l s e in
    subst (λ (x : ℕ). Sending d h x s) (eqb-true k i w.0) (by_emit (q ∙ ap (λ (y : Label). Some y) w.1))
sending d h i s a r n (pulsed {i = k} q p) e =
    let w : ((k == i) ≡ true) × (record { point = point_at (stable d h k) k 65534; kind = kind.Pulse } ≡ s) = taken_if (k == i) (record { point = point_at (stable d h k) k 65534; kind = kind.Pulse }) s e in
    subst (λ (x : ℕ). Sending d h x s) (eqb-true k i w.0) (by_pulse q p w.1)
sending d h i s a r n (closed {i = k} q p) e =
    let w : ((k == i) ≡ true) × (record { point = cut d h k; kind = kind.Close (emission h k) } ≡ s) = taken_if (k == i) (record { point = cut d h k; kind = kind.Close (emission h k) }) s e in
    subst (λ (x : ℕ). Sending d h x s) (eqb-true k i w.0) (by_close w.1)
sending d h i s a r n _ e = absurd (cc)

pub ready-is : (d : Deployed) (h : List Entry) (i : ℕ) (s : Label) → ready d h i ≡ Some s → IsLeast (is_stable d h i) (pending d h i) s
unfolding ready
ready-is d h i s e = least-is (is_stable d h i) (pending d h i) s e

pub ready-none : (d : Deployed) (h : List Entry) (i : ℕ) (l : Label) → ready d h i ≡ None → is_stable d h i l ≡ true → In (pending d h i) l → ⊥
unfolding ready
ready-none d h i l e k m = none-passes (is_stable d h i) (pending d h i) l e k m

pub stable-ts : (d : Deployed) (h : List Entry) (i : ℕ) (l : Label) → is_stable d h i l ≡ true → l.point.ts ≤ stable d h i
unfolding is_stable
stable-ts d h i l e = grind (arith, nat_tests)

ts-stable : (d : Deployed) (h : List Entry) (i : ℕ) (l : Label) → l.point.ts ≤ stable d h i → is_stable d h i l ≡ true
unfolding is_stable
ts-stable d h i l e = grind (arith, nat_tests)

abbrev point_of : Option Label → Option Point
point_of o = elim o [ None ↦ None | Some l ↦ Some l.point ]

abbrev fold_last : Option Label → Point → Point
fold_last o p = elim (point_of o) [ None ↦ p | Some y ↦ y ]

abbrev pub fold_cut : Option Label → Point → Point → ℕ → Point
fold_cut o p q i = elim o [ None ↦ p | Some least ↦ greater_point q (mark (least.point.ts - 1) i) ]

-- the point of the last label that i sent
last-cases : (h : List Entry) (i : ℕ) → ((s : Label) × Sent h i s × (last_sent h i ≡ s.point)) ⊎ (last_sent h i ≡ point_at 0 i 0)
unfolding last_sent Gives
last-cases [] i = inr refl
last-cases (e ∷ h) i = go (sent_entry i h e) refl (last-cases h i)
  where
    go : (o : Option Label) → sent_entry i h e ≡ o → ((s : Label) × Sent h i s × (last_sent h i ≡ s.point)) ⊎ (last_sent h i ≡ point_at 0 i 0) →
        ((s : Label) × Sent (e ∷ h) i s × (last_sent (e ∷ h) i ≡ s.point)) ⊎ (last_sent (e ∷ h) i ≡ point_at 0 i 0)
    go None w (inl k) = inl (k.0, inl k.1, ap (λ (o : Option Label). fold_last o (last_sent h i)) w ∙ k.2)
    go None w (inr k) = inr (ap (λ (o : Option Label). fold_last o (last_sent h i)) w ∙ k)
    go (Some s) w old = inl (s, inr w, ap (λ (o : Option Label). fold_last o (last_sent h i)) w)

pub last-new : (h : List Entry) (e : Entry) (i : ℕ) (s : Label) → sent_entry i h e ≡ Some s → last_sent (e ∷ h) i ≡ s.point
unfolding last_sent
last-new h e i s w = ap (λ (o : Option Label). fold_last o (last_sent h i)) w

pub last-old : (h : List Entry) (e : Entry) (i : ℕ) → sent_entry i h e ≡ None → last_sent (e ∷ h) i ≡ last_sent h i
unfolding last_sent
last-old h e i w = ap (λ (o : Option Label). fold_last o (last_sent h i)) w

greater_cases : (p q : Point) → (greater_point p q ≡ p) ⊎ (greater_point p q ≡ q)
greater_cases p q = go (point_lt p q)
  where
    go : (b : Bool) → ((if b then q else p) ≡ p) ⊎ ((if b then q else p) ≡ q)
    go true = inr refl
    go false = inl refl

-- the cut, by what is ready
pub cut-none : (d : Deployed) (h : List Entry) (i : ℕ) → ready d h i ≡ None → cut d h i ≡ mark (stable d h i) i
unfolding cut
cut-none d h i e = ap (λ (o : Option Label). fold_cut o (mark (stable d h i) i) (last_sent h i) i) e

pub cut-some : (d : Deployed) (h : List Entry) (i : ℕ) (m : Label) → ready d h i ≡ Some m → cut d h i ≡ greater_point (last_sent h i) (mark (m.point.ts - 1) i)
unfolding cut
cut-some d h i m e = ap (λ (o : Option Label). fold_cut o (mark (stable d h i) i) (last_sent h i) i) e

-- ---- nothing that was sent is above stable

known-ts : (l : Label) → (known_by l).ts ≡ l.point.ts
known-ts l = go l.kind
  where
    go : (k : Kind) → (known_at k l.point).ts ≡ l.point.ts
    go (kind.Update items) = refl
    go (kind.Move j) = refl
    go kind.Pulse = refl
    go (kind.Close e) = refl

last-ts : (h : List Entry) (i t : ℕ) → ((s : Label) → Sent h i s → s.point.ts ≤ t) → (last_sent h i).ts ≤ t
last-ts h i t old =
    elim (last-cases h i) [
      | inl k ↦ subst (λ (p : Point). p.ts ≤ t) (sym k.2) (old k.0 k.1)
      | inr k ↦ subst (λ (p : Point). p.ts ≤ t) (sym k) (omega arith)
    ]

greater-ts : (p q : Point) (t : ℕ) → p.ts ≤ t → q.ts ≤ t → (greater_point p q).ts ≤ t
greater-ts p q t a b = elim (greater_cases p q) [ inl e ↦ subst (λ (x : Point). x.ts ≤ t) (sym e) a | inr e ↦ subst (λ (x : Point). x.ts ≤ t) (sym e) b ]

pub cut-ts : (d : Deployed) (h : List Entry) (i : ℕ) → ((s : Label) → Sent h i s → s.point.ts ≤ stable d h i) → (cut d h i).ts ≤ stable d h i
cut-ts d h i old = go (ready d h i) refl
  where
    go : (o : Option Label) → ready d h i ≡ o → (cut d h i).ts ≤ stable d h i
    go None e = subst (λ (p : Point). p.ts ≤ stable d h i) (sym (cut-none d h i e)) (le_refl (stable d h i))
    go (Some m) e =
        let k : IsLeast (is_stable d h i) (pending d h i) m = ready-is d h i m e in
        let t : m.point.ts ≤ stable d h i = stable-ts d h i m k.passes in
        subst (λ (p : Point). p.ts ≤ stable d h i) (sym (cut-some d h i m e))
        (greater-ts (last_sent h i) (mark (m.point.ts - 1) i) (stable d h i) (last-ts h i (stable d h i) old) (omega arith))

sending-ts : (d : Deployed) (h : List Entry) (i : ℕ) (s : Label) → ((s : Label) → Sent h i s → s.point.ts ≤ stable d h i) → Sending d h i s → s.point.ts ≤ stable d h i
sending-ts d h i s old (by_emit e) = let k : IsLeast (is_stable d h i) (pending d h i) s = ready-is d h i s e in stable-ts d h i s k.passes
sending-ts d h i s old (by_pulse e p w) = subst (λ (l : Label). l.point.ts ≤ stable d h i) w (le_refl (stable d h i))
sending-ts d h i s old (by_close w) = subst (λ (l : Label). l.point.ts ≤ stable d h i) w (cut-ts d h i old)

pub sent-ts : (d : Deployed) (h : List Entry) (i : ℕ) (s : Label) → i < d.sites → IsRun d h → Sent h i s → s.point.ts ≤ stable d h i
unfolding Gives
sent-ts d [] i s x run m = absurd m
sent-ts d (e ∷ h) i s x run (inl m) =
    let a : s.point.ts ≤ stable d h i = sent-ts d h i s x (before_of d h e run) m in
    let b : stable d h i ≤ stable d (e ∷ h) i = stable-rises d h e i x run in
    omega arith
sent-ts d (e ∷ h) i s x run (inr m) =
    let a : s.point.ts ≤ stable d h i = sending-ts d h i s (λ l. sent-ts d h i l x (before_of d h e run)) (sending d h i s e.act e.answer e.inner (step_of d h e run) m) in
    let b : stable d h i ≤ stable d (e ∷ h) i = stable-rises d h e i x run in
    omega arith

-- a sent label's point is at or below what it makes known
sent-known : (d : Deployed) (h : List Entry) (i : ℕ) (s : Label) → IsValid d → IsRun d h → Sent h i s → point_le s.point (known_by s) ≡ true
unfolding Gives
sent-known d [] i s v run m = absurd m
sent-known d (e ∷ h) i s v run (inl m) = sent-known d h i s v (before_of d h e run) m
sent-known d (e ∷ h) i s v run (inr m) = go (sending d h i s e.act e.answer e.inner (step_of d h e run) m)
  where
    go : Sending d h i s → point_le s.point (known_by s) ≡ true
    go (by_emit q) =
        let k : IsLeast (is_stable d h i) (pending d h i) s = ready-is d h i s q in
        subst (λ (p : Point). point_le s.point p ≡ true) (sym (made-known d h s v (before_of d h e run) (gathered-made h i s (pending-is d h i s k.member).0))) (point_le-self s.point)
    go (by_pulse q p w) = subst (λ (l : Label). point_le l.point (known_by l) ≡ true) w (point_le-mark (point_at (stable d h i) i 65534) (stable d h i) (lit≤ tt) (le_refl (stable d h i)))
    go (by_close w) = subst (λ (l : Label). point_le l.point (known_by l) ≡ true) w (point_le-self (cut d h i))

-- ---- the cut is a true line

points-is : (p q : Point) → (p.ts ≡ q.ts) × (p.site ≡ q.site) × (p.gear ≡ q.gear) → p ≡ q
points-is p q e = λ i. record { ts = e.0 i; site = e.1 i; gear = e.2 i }

le-cases : (p q : Point) → point_le p q ≡ true → (point_lt p q ≡ true) ⊎ (p ≡ q)
le-cases p q w = elim (or_cases (point_lt p q) (point_eq p q) w) [ inl a ↦ inl a | inr a ↦ inr (points-is p q (point_eq-is p q a)) ]

below_least : (l s : Label) → point_lt l.point s.point ≡ true → label_lt l s ≡ false → ⊥
below_least l s t f = go (point_lt l.point s.point) t f
  where
    go : (b : Bool) → b ≡ true → (b || (point_eq l.point s.point && kind_lt l.kind s.kind)) ≡ false → ⊥
    go true e f = cc
    go false e f = cc

-- what the labels made at i so far keep of those that i sent
abbrev pub SentInOrder : List Entry → ℕ → Type 0
SentInOrder h i = (s l : Label) → Sent h i s → Made h l → l.point.site ≡ i → point_le l.point (known_by s) ≡ true → (l ≡ s) ⊎ Precedes h i l s

pub precedes-sent : (h : List Entry) (i : ℕ) (a s : Label) → Precedes h i a s → Sent h i a
unfolding Gives Precedes
precedes-sent [] i a s k = absurd k
precedes-sent (e ∷ h) i a s (inl k) = inl (precedes-sent h i a s k)
precedes-sent (e ∷ h) i a s (inr k) = inl k.1

pub precedes-later : (h : List Entry) (i : ℕ) (a s : Label) → Precedes h i a s → Sent h i s
unfolding Gives Precedes
precedes-later [] i a s k = absurd k
precedes-later (e ∷ h) i a s (inl k) = inl (precedes-later h i a s k)
precedes-later (e ∷ h) i a s (inr k) = inr k.0

in-order-sent : (h : List Entry) (i : ℕ) → SentInOrder h i → (s l : Label) → Sent h i s → Made h l → l.point.site ≡ i → point_le l.point (known_by s) ≡ true → Sent h i l
in-order-sent h i order s l a b c e = elim (order s l a b c e) [ inl k ↦ subst (λ (x : Label). Sent h i x) (sym k) a | inr k ↦ precedes-sent h i l s k ]

-- a made label at or below stable, where none is ready, was sent
pub none-sent : (d : Deployed) (h : List Entry) (i : ℕ) (l : Label) → IsValid d → IsRun d h → Made h l → l.point.site ≡ i → l.point.ts ≤ stable d h i → ready d h i ≡ None → Sent h i l
none-sent d h i l v run m e t r =
    let p : IsPlaced d h l = made-placed d h l v run m in
    let g : Made (gathered h l.point.site) l = stable-made d h l v run m (subst (λ (k : ℕ). l.point.ts ≤ stable d h k) (sym e) t) in
    elim (sent-or-pending d h l p.gear g) [
      | inl a ↦ subst (λ (k : ℕ). Sent h k l) e a
      | inr a ↦ absurd (ready-none d h i l r (ts-stable d h i l t) (subst (λ (k : ℕ). In (pending d h k) l) e a))
    ]

-- one below a least pending label was sent
pub lower-sent : (d : Deployed) (h : List Entry) (i : ℕ) (l s : Label) → IsValid d → IsRun d h → Made h l → l.point.site ≡ i → point_lt l.point s.point ≡ true → ready d h i ≡ Some s → Sent h i l
lower-sent d h i l s v run m e t r =
    let k : IsLeast (is_stable d h i) (pending d h i) s = ready-is d h i s r in
    let p : IsPlaced d h l = made-placed d h l v run m in
    let w : s.point.ts ≤ stable d h i = stable-ts d h i s k.passes in
    let q : l.point.ts ≤ s.point.ts = lt-ts l.point s.point t in
    let u : l.point.ts ≤ stable d h i = omega arith in
    let g : Made (gathered h l.point.site) l = stable-made d h l v run m (subst (λ (k : ℕ). l.point.ts ≤ stable d h k) (sym e) u) in
    elim (sent-or-pending d h l p.gear g) [
      | inl a ↦ subst (λ (k : ℕ). Sent h k l) e a
      | inr a ↦ absurd (below_least l s t (k.lowest l (subst (λ (k : ℕ). In (pending d h k) l) e a) (ts-stable d h i l u)))
    ]

-- what lies at or below the cut was sent
pub cut-sent : (d : Deployed) (h : List Entry) (i : ℕ) (l : Label) → IsValid d → IsRun d h → SentInOrder h i → Made h l → l.point.site ≡ i → point_le l.point (cut d h i) ≡ true → Sent h i l
cut-sent d h i l v run order m e c = go (ready d h i) refl
  where
    at_last : point_le l.point (last_sent h i) ≡ true → Sent h i l
    at_last w =
        elim (last-cases h i) [
          | inl k ↦ in-order-sent h i order k.0 l k.1 m e (point_le-trans l.point k.0.point (known_by k.0) (subst (λ (p : Point). point_le l.point p ≡ true) k.2 w) (sent-known d h i k.0 v run k.1))
          | inr k ↦ absurd (let t : l.point.ts ≤ 0 = point_le-ts l.point (point_at 0 i 0) (subst (λ (p : Point). point_le l.point p ≡ true) k w) in let u : 1 ≤ l.point.ts = made-positive d h l v run m in omega arith)
        ]

    at_mark : (s : Label) → ready d h i ≡ Some s → point_le l.point (mark (s.point.ts - 1) i) ≡ true → Sent h i l
    at_mark s r w =
        let t : l.point.ts ≤ s.point.ts - 1 = mark-ts l.point (s.point.ts - 1) i w in
        let u : 1 ≤ l.point.ts = made-positive d h l v run m in
        lower-sent d h i l s v run m e (ts-lt l.point s.point (omega arith)) r

    go : (o : Option Label) → ready d h i ≡ o → Sent h i l
    go None r = none-sent d h i l v run m e (mark-ts l.point (stable d h i) i (subst (λ (p : Point). point_le l.point p ≡ true) (cut-none d h i r) c)) r
    go (Some s) r =
        let w : point_le l.point (greater_point (last_sent h i) (mark (s.point.ts - 1) i)) ≡ true = subst (λ (p : Point). point_le l.point p ≡ true) (cut-some d h i s r) c in
        elim (greater_cases (last_sent h i) (mark (s.point.ts - 1) i)) [
          | inl k ↦ at_last (subst (λ (p : Point). point_le l.point p ≡ true) k w)
          | inr k ↦ at_mark s r (subst (λ (p : Point). point_le l.point p ≡ true) k w)
        ]

-- a label that is being sent comes after all that it makes known
sending-order : (d : Deployed) (h : List Entry) (i : ℕ) (s l : Label) → IsValid d → IsRun d h → SentInOrder h i → Sending d h i s → Made h l → l.point.site ≡ i → point_le l.point (known_by s) ≡ true → (l ≡ s) ⊎ Sent h i l
sending-order d h i s l v run order (by_emit r) m e c =
    let k : IsLeast (is_stable d h i) (pending d h i) s = ready-is d h i s r in
    let made_s : Made h s = gathered-made h i s (pending-is d h i s k.member).0 in
    let w : point_le l.point s.point ≡ true = subst (λ (p : Point). point_le l.point p ≡ true) (made-known d h s v run made_s) c in
    elim (le-cases l.point s.point w) [
      | inl t ↦ inr (lower-sent d h i l s v run m e t r)
      | inr q ↦ inl (made-point d h l s v run m made_s q)
    ]
sending-order d h i s l v run order (by_pulse r _ q) m e c =
    inr (none-sent d h i l v run m e (mark-ts l.point (stable d h i) i (subst (λ (x : Label). point_le l.point (known_by x) ≡ true) (sym q) c)) r)
sending-order d h i s l v run order (by_close q) m e c =
    inr (cut-sent d h i l v run order m e (subst (λ (x : Label). point_le l.point (known_by x) ≡ true) (sym q) c))

-- labels leave in order: what a sent label makes known was sent no later
pub sent-order : (d : Deployed) (h : List Entry) (i : ℕ) → i < d.sites → IsValid d → IsRun d h → SentInOrder h i
unfolding Gives Precedes stable
sent-order d [] i x v run s l a b c k = absurd a
sent-order d (e ∷ h) i x v run s l (inl a) (inl b) c k =
    elim (sent-order d h i x v (before_of d h e run) s l a b c k) [ inl w ↦ inl w | inr w ↦ inr (inl w) ]
sent-order d (e ∷ h) i x v run s l (inr a) (inl b) c k =
    elim (sending-order d h i s l v (before_of d h e run) (sent-order d h i x v (before_of d h e run)) (sending d h i s e.act e.answer e.inner (step_of d h e run) a) b c k) [ inl w ↦ inl w | inr w ↦ inr (inr (a, w)) ]
sent-order d (e ∷ h) i x v run s l a (inr b) c k =
    let t : l.point.ts ≤ (known_by s).ts = point_le-ts l.point (known_by s) k in
    let u : (known_by s).ts ≡ s.point.ts = known-ts s in
    let w : s.point.ts ≤ stable d h i = below a in
    let z : l.point.ts ≤ stable d h i = omega arith in
    absurd (new-unstable d h e l v run b (subst (λ (y : ℕ). l.point.ts ≤ stable d h y) (sym c) z))
  where
    below : Gives (sent_entry i) h s ⊎ (sent_entry i h e ≡ Some s) → s.point.ts ≤ stable d h i
    below (inl q) = sent-ts d h i s x (before_of d h e run) q
    below (inr q) = sending-ts d h i s (λ m. sent-ts d h i m x (before_of d h e run)) (sending d h i s e.act e.answer e.inner (step_of d h e run) q)

-- ---- and nothing above the cut was

pub not_sent : (h : List Entry) (i : ℕ) (l : Label) → has label_eq (sent h i) l ≡ false → Sent h i l → ⊥
unfolding sent
not_sent h i l e a = let w : has label_eq (sent h i) l ≡ true = in-has (sent h i) l (gives-listed (sent_entry i) h l a) in cc

low_gear : (p : Point) (t i : ℕ) → p.site ≡ i → p.ts ≤ t → p.gear < 8 → point_lt (point_at t i 65534) p ≡ true → ⊥
low_gear p t i e h g w = grind (arith, nat_tests)

-- the cut, from the last sent point
cut-above : (d : Deployed) (h : List Entry) (i : ℕ) (l : Label) → IsValid d → IsRun d h → l.point.gear ≤ 65535 → l.point.ts ≤ stable d h i → l.point.site ≡ i → point_le l.point (last_sent h i) ≡ true → point_le l.point (cut d h i) ≡ true
cut-above d h i l v run g t e w = go (ready d h i) refl
  where
    go : (o : Option Label) → ready d h i ≡ o → point_le l.point (cut d h i) ≡ true
    go None r = subst (λ (p : Point). point_le l.point p ≡ true) (sym (cut-none d h i r)) (subst (λ (k : ℕ). point_le l.point (mark (stable d h i) k) ≡ true) e (point_le-mark l.point (stable d h i) g t))
    go (Some s) r = subst (λ (p : Point). point_le l.point p ≡ true) (sym (cut-some d h i s r)) (point_le-trans l.point (last_sent h i) _ w (point_le-greater_right (mark (s.point.ts - 1) i) (last_sent h i)))

-- the last sent point is at or above each made label that was sent
sending-last : (d : Deployed) (h : List Entry) (i : ℕ) (s l : Label) → i < d.sites → IsValid d → IsRun d h → Sending d h i s → Sent h i l → Made h l → l.point.site ≡ i → point_le l.point (last_sent h i) ≡ true → point_lt s.point l.point ≡ true → ⊥
sending-last d h i s l x v run (by_emit r) a m e w t =
    let k : IsLeast (is_stable d h i) (pending d h i) s = ready-is d h i s r in
    let q : Made (gathered h i) s × (s.point.site ≡ i) × (has label_eq (sent h i) s ≡ false) = pending-is d h i s k.member in
    let b : point_le s.point (known_by l) ≡ true = subst (λ (p : Point). point_le s.point p ≡ true) (sym (made-known d h l v run m)) (or_left (point_lt s.point l.point) (point_eq s.point l.point) t) in
    not_sent h i s q.2 (in-order-sent h i (sent-order d h i x v run) l s a (gathered-made h i s q.0) q.1 b)
sending-last d h i s l x v run (by_pulse r _ q) a m e w t =
    let p : IsPlaced d h l = made-placed d h l v run m in
    let f : d.gears ≤ 8 = v.few_gears in
    let g : l.point.gear < d.gears = p.gear in
    low_gear l.point (stable d h i) i e (sent-ts d h i l x run a) (omega arith) (subst (λ (y : Label). point_lt y.point l.point ≡ true) (sym q) t)
sending-last d h i s l x v run (by_close q) a m e w t =
    let p : IsPlaced d h l = made-placed d h l v run m in
    let f : d.gears ≤ 8 = v.few_gears in
    let g : l.point.gear < d.gears = p.gear in
    point_le_lt-absurd l.point (cut d h i) (cut-above d h i l v run (omega arith) (sent-ts d h i l x run a) e w) (subst (λ (y : Label). point_lt y.point l.point ≡ true) (sym q) t)

sent-old : (d : Deployed) (h : List Entry) (e : Entry) (i : ℕ) (l : Label) → i < d.sites → IsValid d → IsRun d (e ∷ h) → Sent h i l → Made (e ∷ h) l → l.point.site ≡ i → Made h l
unfolding Gives stable
sent-old d h e i l x v run a (inl m) k = m
sent-old d h e i l x v run a (inr m) k = absurd (new-unstable d h e l v run m (subst (λ (y : ℕ). l.point.ts ≤ stable d h y) (sym k) (sent-ts d h i l x (before_of d h e run) a)))

pub sent-last : (d : Deployed) (h : List Entry) (i : ℕ) (l : Label) → i < d.sites → IsValid d → IsRun d h → Sent h i l → Made h l → l.point.site ≡ i → point_le l.point (last_sent h i) ≡ true
unfolding Gives
sent-last d [] i l x v run a m k = absurd a
sent-last d (e ∷ h) i l x v run (inr a) m k = subst (λ (p : Point). point_le l.point p ≡ true) (sym (last-new h e i l a)) (point_le-self l.point)
sent-last d (e ∷ h) i l x v run (inl a) m k = go (sent_entry i h e) refl (sent-last d h i l x v (before_of d h e run) a (sent-old d h e i l x v run a m k) k)
  where
    go : (o : Option Label) → sent_entry i h e ≡ o → point_le l.point (last_sent h i) ≡ true → point_le l.point (last_sent (e ∷ h) i) ≡ true
    go None w old = subst (λ (p : Point). point_le l.point p ≡ true) (sym (last-old h e i w)) old
    go (Some s) w old =
        subst (λ (p : Point). point_le l.point p ≡ true) (sym (last-new h e i s w))
        (elim (point_lt-total l.point s.point) [
          | inl b ↦ b
          | inr b ↦ absurd (sending-last d h i s l x v (before_of d h e run) (sending d h i s e.act e.answer e.inner (step_of d h e run) w) a (sent-old d h e i l x v run a m k) k old b)
        ])

-- a made label that was sent is at or below the cut
pub sent-cut : (d : Deployed) (h : List Entry) (i : ℕ) (l : Label) → i < d.sites → IsValid d → IsRun d h → Sent h i l → Made h l → l.point.site ≡ i → point_le l.point (cut d h i) ≡ true
sent-cut d h i l x v run a m k =
    let p : IsPlaced d h l = made-placed d h l v run m in
    let f : d.gears ≤ 8 = v.few_gears in
    let g : l.point.gear < d.gears = p.gear in
    cut-above d h i l v run (omega arith) (sent-ts d h i l x run a) k (sent-last d h i l x v run a m k)

-- ---- a site sends labels of its own

last-site : (h : List Entry) (i : ℕ) → ((s : Label) → Sent h i s → s.point.site ≡ i) → (last_sent h i).site ≡ i
last-site h i old =
    elim (last-cases h i) [
      | inl k ↦ subst (λ (p : Point). p.site ≡ i) (sym k.2) (old k.0 k.1)
      | inr k ↦ subst (λ (p : Point). p.site ≡ i) (sym k) refl
    ]

cut-site : (d : Deployed) (h : List Entry) (i : ℕ) → ((s : Label) → Sent h i s → s.point.site ≡ i) → (cut d h i).site ≡ i
cut-site d h i old = go (ready d h i) refl
  where
    go : (o : Option Label) → ready d h i ≡ o → (cut d h i).site ≡ i
    go None e = subst (λ (p : Point). p.site ≡ i) (sym (cut-none d h i e)) refl
    go (Some m) e =
        subst (λ (p : Point). p.site ≡ i) (sym (cut-some d h i m e))
        (elim (greater_cases (last_sent h i) (mark (m.point.ts - 1) i)) [ inl k ↦ subst (λ (p : Point). p.site ≡ i) (sym k) (last-site h i old) | inr k ↦ subst (λ (p : Point). p.site ≡ i) (sym k) refl ])

sending-site : (d : Deployed) (h : List Entry) (i : ℕ) (s : Label) → ((s : Label) → Sent h i s → s.point.site ≡ i) → Sending d h i s → s.point.site ≡ i
sending-site d h i s old (by_emit e) = let k : IsLeast (is_stable d h i) (pending d h i) s = ready-is d h i s e in (pending-is d h i s k.member).1
sending-site d h i s old (by_pulse e p w) = subst (λ (l : Label). l.point.site ≡ i) w refl
sending-site d h i s old (by_close w) = subst (λ (l : Label). l.point.site ≡ i) w (cut-site d h i old)

pub sent-site : (d : Deployed) (h : List Entry) (i : ℕ) (s : Label) → IsRun d h → Sent h i s → s.point.site ≡ i
unfolding Gives
sent-site d [] i s run m = absurd m
sent-site d (e ∷ h) i s run (inl m) = sent-site d h i s (before_of d h e run) m
sent-site d (e ∷ h) i s run (inr m) = sending-site d h i s (λ l. sent-site d h i l (before_of d h e run)) (sending d h i s e.act e.answer e.inner (step_of d h e run) m)
