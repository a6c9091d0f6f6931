-- What is true of each sink, kept by each of its calls; and its cut.
use Rattle.std.specs.Prelude.{◌≡◌, ◌⊎◌, ◌<◌, ◌≤◌, ◌-◌, ℕ, zero, suc, Bool, true, false, not, List, [], ◌∷◌, length, get_or, set, drop, map, filter, cond, Option, Some, None, nat_le, if◌then◌else◌, refl}
use Rattle.std.proofs.Common.{arith, ap, subst, sym, ◌∙◌, inl, inr}
use Rattle.std.proofs.lemmas.Bool.{cases_eq, not-true, not_from_false}
use Rattle.std.proofs.lemmas.Bool.Decides.{nat_tests}
use Rattle.std.proofs.lemmas.List.{ext_get_or, get_or-set_same, get_or-set_other, length-map, length-set}
use Rattle.sat_label.specs.declared.point.Point.{Point}
use Rattle.sat_label.specs.declared.label.Label.{Label}
use Rattle.sat_label.specs.declared.limits.TheConstants.{PULSE_GEAR}
use Rattle.sat_label.specs.Order.{point_at, point_lt, point_le, mark, greater_point, label_lt, label_eq}
use Rattle.sat_bulk.specs.declared.Drained.{Drained}
use Rattle.sat_label.specs.Members.{In}
use Rattle.sat_bulk.specs.Drains.{IsNew, Rises}
use Rattle.sat_label.proofs.Members.{In-parts, In-filter}
use Rattle.sat_bulk.proofs.Members.{rises-both}
use Rattle.sat_sink.specs.Pending.{least, is_up_to, all_of, without, joined, labels_of, promise_of}
use Rattle.sat_sink.specs.Sink.{Sink, stable_of, ready_of, cut_of, after_gather, after_emit_of, after_pulse, after_close, IsDrainOf, IsDrain, IsPending, IsQueue, IsSink, AllAbove}
use Rattle.sat_label.proofs.Orders.{point_lt-le, point_le-self, point_le-trans, point_le_lt-trans, ts-lt, lt-ts, le-mark, marks-le, mark-lt, apart, lt-not_eq, gears-not_eq, le-greater_left, le-greater_right, of-greater, labels-lt, points-not_lt, labels-differ, label_eq-self}
use Rattle.sat_label.proofs.Least.{IsLeast, least-is, none-passes}
use Rattle.sat_sink.proofs.Leasts.{least-each, least-above}
use Rattle.sat_sink.proofs.Queues.{filter-all, Place, In-all, all-In, rises-filter, length-joined, joined-get, without-get}

-- ---- tests

up-or-past : (t : ℕ) (m : Label) → (is_up_to t m ≡ true) ⊎ (t < m.point.ts)
up-or-past t m = go (nat_le m.point.ts t) refl
  where
    go : (b : Bool) → nat_le m.point.ts t ≡ b → (nat_le m.point.ts t ≡ true) ⊎ (t < m.point.ts)
    go true e = inl e
    go false e = inr (grind (arith, nat_tests))

up-to : (t : ℕ) (m : Label) → is_up_to t m ≡ true → m.point.ts ≤ t
up-to t m e = grind (arith, nat_tests)

is-up : (t : ℕ) (m : Label) → m.point.ts ≤ t → is_up_to t m ≡ true
is-up t m e = grind (arith, nat_tests)

not-below : (l m : Label) → label_lt m l ≡ false → l.point.ts ≤ m.point.ts
not-below l m e = let f : point_lt m.point l.point ≡ false = points-not_lt m l e in by-ts m.point l.point f
  where
    by-ts : (p q : Point) → point_lt p q ≡ false → q.ts ≤ p.ts
    by-ts p q f = grind (arith, nat_tests)

-- a queue with a member is one of the queues
pub in-within : (qs : List (List Label)) (g : ℕ) (m : Label) → In (get_or qs g []) m → g < length qs
in-within [] g m i = absurd i
in-within (q ∷ qs) zero m i = omega arith
in-within (q ∷ qs) (suc g) m i = let k : g < length qs = in-within qs g m i in omega arith

pub pending-is : (s : Sink) (g : ℕ) (m : Label) → IsSink s → In (get_or s.pending g []) m → IsPending s g m
pending-is s g m k i =
    let h : g < length s.pending = in-within s.pending g m i in
    (k.queues g (omega (arith, k.rows))).labels m i

-- ---- the label that would be emitted next

pub record IsNext (s : Sink) (l : Label) : Type 0 where
  pub within : l.point.gear < length s.promises
  pub queue : get_or s.pending l.point.gear [] ≡ l ∷ drop 1 (get_or s.pending l.point.gear [])
  pub pending : IsPending s l.point.gear l
  pub stable : l.point.ts ≤ stable_of s
  pub lowest : (m : Label) → In (all_of s.pending) m → is_up_to (stable_of s) m ≡ true → label_lt m l ≡ false

front-of : (t : ℕ) (l : Label) (ls : List Label) → Rises ls → In ls l → l.point.ts ≤ t → ((m : Label) → In ls m → is_up_to t m ≡ true → label_lt m l ≡ false) → ls ≡ l ∷ drop 1 ls
front-of t l [] r i h f = absurd i
front-of t l (x ∷ ls) r (inl e) h f = ap (λ (y : Label). y ∷ ls) e
front-of t l (x ∷ ls) r (inr i) h f =
    let w : point_lt x.point l.point ≡ true = r.0 l i in
    let k : x.point.ts ≤ l.point.ts = lt-ts x.point l.point w in
    absurd (let a : label_lt x l ≡ true = labels-lt x l w in let b : label_lt x l ≡ false = f x (inl refl) (is-up t x (omega arith)) in cc)

pub next-is : (s : Sink) (l : Label) → IsSink s → ready_of s ≡ Some l → IsNext s l
next-is s l k e =
    let w : IsLeast (is_up_to (stable_of s)) (all_of s.pending) l = least-is (is_up_to (stable_of s)) (all_of s.pending) l e in
    let at : Place s.pending l = In-all s.pending l w.member in
    let within : at.gear < length s.promises = omega (arith, k.rows, at.within) in
    let q : IsQueue s at.gear (get_or s.pending at.gear []) = k.queues at.gear within in
    let p : IsPending s at.gear l = q.labels l at.there in
    let up : l.point.ts ≤ stable_of s = up-to (stable_of s) l w.passes in
    let same : at.gear ≡ l.point.gear = sym p.new.gear in
    record {
      within = omega arith;
      queue = subst (λ (g : ℕ). get_or s.pending g [] ≡ l ∷ drop 1 (get_or s.pending g [])) same
          (front-of (stable_of s) l (get_or s.pending at.gear []) q.rises at.there up (λ m i t. w.lowest m (all-In s.pending at.gear m i) t));
      pending = subst (λ (g : ℕ). IsPending s g l) same p;
      stable = up;
      lowest = w.lowest;
    }

-- every other pending label is above it
pub others-above : (s : Sink) (l : Label) → IsSink s → IsNext s l → (g : ℕ) (m : Label) → In (get_or s.pending g []) m → label_eq l m ≡ false → point_lt l.point m.point ≡ true
others-above s l k n g m i ne = elim (cases_eq g l.point.gear) [
  | inl same ↦ behind (get_or s.pending l.point.gear []) n.queue (k.queues l.point.gear n.within).rises (subst (λ (h : ℕ). In (get_or s.pending h []) m) same i)
  | inr other ↦ elim (up-or-past (stable_of s) m) [
    | inl up ↦ apart m.point l.point (points-not_lt m l (n.lowest m (all-In s.pending g m i) up)) (λ e. other (sym (pending-is s g m k i).new.gear ∙ e))
    | inr past ↦ ts-lt l.point m.point (omega (arith, n.stable))
  ]
]
  where
    behind : (ls : List Label) → ls ≡ l ∷ drop 1 ls → Rises ls → In ls m → point_lt l.point m.point ≡ true
    behind [] e r j = absurd j
    behind (x ∷ ls) e r (inl j) = absurd (let f : x ≡ l = cc in let h : label_eq l l ≡ true = label_eq-self l in cc)
    behind (x ∷ ls) e r (inr j) = let f : x ≡ l = cc in subst (λ (y : Label). point_lt y.point m.point ≡ true) f (r.0 m j)

-- taking the front away leaves the queues without the label
front-left : (l : Label) (ls : List Label) → Rises ls → ls ≡ l ∷ drop 1 ls → drop 1 ls ≡ filter (λ m. not (label_eq l m)) ls
front-left l [] r e = absurd (cc)
front-left l (x ∷ ls) r e =
    let f : l ≡ x = cc in
    let own : not (label_eq l x) ≡ false = subst (λ (y : Label). not (label_eq l y) ≡ false) f (ap not (label_eq-self l)) in
    sym (ap (λ (b : Bool). cond b (x ∷ filter (λ m. not (label_eq l m)) ls) (filter (λ m. not (label_eq l m)) ls)) own
    ∙ filter-all (λ m. not (label_eq l m)) ls (λ m i. not_from_false (label_eq l m) (labels-differ l m (lt-not_eq l.point m.point (subst (λ (y : Label). point_lt y.point m.point ≡ true) (sym f) (r.0 m i))))))

pub popped : (s : Sink) (l : Label) → IsSink s → IsNext s l → set s.pending l.point.gear (drop 1 (get_or s.pending l.point.gear [])) ≡ without l s.pending
popped s l k n =
    let lengths : length (set s.pending l.point.gear (drop 1 (get_or s.pending l.point.gear []))) ≡ length (without l s.pending) = length-set s.pending l.point.gear _ ∙ sym (length-map s.pending (filter (λ m. not (label_eq l m)))) in
    ext_get_or [] _ _ lengths (λ i h. elim (cases_eq i l.point.gear) [
      | inl same ↦ subst (λ (g : ℕ). get_or (set s.pending l.point.gear (drop 1 (get_or s.pending l.point.gear []))) g [] ≡ get_or (without l s.pending) g []) (sym same)
          (get_or-set_same s.pending l.point.gear _ [] (omega (arith, n.within, k.rows)) ∙ (front-left l (get_or s.pending l.point.gear []) (k.queues l.point.gear n.within).rises n.queue ∙ sym (without-get l s.pending l.point.gear)))
      | inr other ↦ get_or-set_other s.pending l.point.gear i _ [] other ∙ sym (without-get l s.pending i ∙ filter-all (λ m. not (label_eq l m)) (get_or s.pending i [])
          (λ m j. not_from_false (label_eq l m) (labels-differ l m (gears-not_eq l.point m.point (λ e. other (sym (pending-is s i m k j).new.gear ∙ sym e))))))
    ])

-- ---- the cut

past-stable : (s : Sink) (g : ℕ) (m : Label) → ready_of s ≡ None → In (get_or s.pending g []) m → stable_of s < m.point.ts
past-stable s g m e i = elim (up-or-past (stable_of s) m) [
  | inl up ↦ absurd (none-passes (is_up_to (stable_of s)) (all_of s.pending) m e up (all-In s.pending g m i))
  | inr past ↦ past
]

not-before : (s : Sink) (l m : Label) → IsNext s l → In (all_of s.pending) m → l.point.ts ≤ m.point.ts
not-before s l m n i = elim (up-or-past (stable_of s) m) [
  | inl up ↦ not-below l m (n.lowest m i up)
  | inr past ↦ omega (arith, n.stable)
]

-- every pending label is above it
pub cut-below : (s : Sink) → IsSink s → AllAbove (cut_of s) s.pending
cut-below s k g m i = go (ready_of s) refl
  where
    go : (o : Option Label) → ready_of s ≡ o → point_lt (elim o as (λ x. Point) [ None ↦ mark (stable_of s) s.site | Some l ↦ greater_point s.last (mark (l.point.ts - 1) s.site) ]) m.point ≡ true
    go None e = mark-lt (stable_of s) s.site m.point (past-stable s g m e i)
    go (Some l) e =
        let n : IsNext s l = next-is s l k e in
        let h : l.point.ts ≤ m.point.ts = not-before s l m n (all-In s.pending g m i) in
        of-greater (λ p. point_lt p m.point ≡ true) s.last (mark (l.point.ts - 1) s.site) (pending-is s g m k i).unsent (mark-lt (l.point.ts - 1) s.site m.point (omega (arith, n.pending.new.above)))

-- what was sent is at or below it
pub cut-above : (s : Sink) → IsSink s → point_le s.last (cut_of s) ≡ true
cut-above s k = go (ready_of s)
  where
    go : (o : Option Label) → point_le s.last (elim o as (λ x. Point) [ None ↦ mark (stable_of s) s.site | Some l ↦ greater_point s.last (mark (l.point.ts - 1) s.site) ]) ≡ true
    go None = k.last
    go (Some l) = le-greater_left s.last (mark (l.point.ts - 1) s.site)

pub cut-stable : (s : Sink) → IsSink s → point_le (cut_of s) (mark (stable_of s) s.site) ≡ true
cut-stable s k = go (ready_of s) refl
  where
    go : (o : Option Label) → ready_of s ≡ o → point_le (elim o as (λ x. Point) [ None ↦ mark (stable_of s) s.site | Some l ↦ greater_point s.last (mark (l.point.ts - 1) s.site) ]) (mark (stable_of s) s.site) ≡ true
    go None e = point_le-self (mark (stable_of s) s.site)
    go (Some l) e =
        let n : IsNext s l = next-is s l k e in
        of-greater (λ p. point_le p (mark (stable_of s) s.site) ≡ true) s.last (mark (l.point.ts - 1) s.site) k.last (marks-le (l.point.ts - 1) (stable_of s) s.site (omega (arith, n.stable)))

-- ---- after a label was sent

pub with-last : (s : Sink) (p : Point) (t : ℕ) → IsSink s → point_le p (mark (stable_of s) s.site) ≡ true → AllAbove p s.pending → IsSink (record s { last = p; pulse = t })
with-last s p t k h above = record {
  some = k.some;
  few = k.few;
  rows = k.rows;
  queues = λ g w. record { rises = (k.queues g w).rises; labels = λ l i. record { new = ((k.queues g w).labels l i).new; unsent = above g l i } };
  last = h;
}

less-one : (s : Sink) (l : Label) → IsSink s → IsSink (record s { pending = without l s.pending })
less-one s l k =
    let p : Label → Bool = λ m. not (label_eq l m) in
    record {
      some = k.some;
      few = k.few;
      rows = length-map s.pending (filter p) ∙ k.rows;
      queues = λ g w. subst (IsQueue (record s { pending = without l s.pending }) g) (sym (without-get l s.pending g)) (record {
        rises = rises-filter p (get_or s.pending g []) (k.queues g w).rises;
        labels = λ m i. let q : IsPending s g m = (k.queues g w).labels m (In-filter p (get_or s.pending g []) m i).0 in record { new = q.new; unsent = q.unsent };
      });
      last = k.last;
    }

pub emitted-is : (s : Sink) (l : Label) → IsSink s → ready_of s ≡ Some l → IsSink (after_emit_of s l)
emitted-is s l k e =
    let n : IsNext s l = next-is s l k e in
    with-last (record s { pending = without l s.pending }) l.point s.pulse (less-one s l k)
    (le-mark l.point (stable_of s) s.site n.stable n.pending.new.site (omega (arith, n.within, k.few)))
    (λ g m i.
    let j : In (get_or s.pending g []) m × (not (label_eq l m) ≡ true) = In-filter (λ m. not (label_eq l m)) (get_or s.pending g []) m (subst (λ (ls : List Label). In ls m) (without-get l s.pending g) i) in
    others-above s l k n g m j.0 (not-true (label_eq l m) j.1))

pub emit-above : (s : Sink) (l : Label) → IsSink s → ready_of s ≡ Some l → point_lt (cut_of s) l.point ≡ true
emit-above s l k e =
    let n : IsNext s l = next-is s l k e in
    cut-below s k l.point.gear l (subst (λ (ls : List Label). In ls l) (sym n.queue) (inl refl))

pub emit-upto : (s : Sink) (l : Label) → IsSink s → ready_of s ≡ Some l → point_le l.point (cut_of (after_emit_of s l)) ≡ true
emit-upto s l k e = cut-above (after_emit_of s l) (emitted-is s l k e)

pub emit-cut : (s : Sink) (l : Label) → IsSink s → ready_of s ≡ Some l → point_le (cut_of s) (cut_of (after_emit_of s l)) ≡ true
emit-cut s l k e = point_le-trans (cut_of s) l.point (cut_of (after_emit_of s l)) (point_lt-le (cut_of s) l.point (emit-above s l k e)) (emit-upto s l k e)

pulse-mark : (t i : ℕ) → point_le (point_at t i PULSE_GEAR) (mark t i) ≡ true
pulse-mark t i = grind (arith, nat_tests)

pub pulsed-is : (s : Sink) → IsSink s → ready_of s ≡ None → IsSink (after_pulse s)
pulsed-is s k e = with-last s (point_at (stable_of s) s.site PULSE_GEAR) (stable_of s) k (pulse-mark (stable_of s) s.site) (λ g m i. ts-lt (point_at (stable_of s) s.site PULSE_GEAR) m.point (past-stable s g m e i))

pub closed-is : (s : Sink) → IsSink s → IsSink (after_close s)
closed-is s k = with-last s (cut_of s) s.pulse k (cut-stable s k) (cut-below s k)

greater-twice : (p q : Point) → greater_point (greater_point p q) q ≡ greater_point p q
greater-twice p q = go (point_lt p q) refl
  where
    either : (b : Bool) → (if b then q else q) ≡ q
    either true = refl
    either false = refl

    go : (b : Bool) → point_lt p q ≡ b → greater_point (if b then q else p) q ≡ (if b then q else p)
    go true e = either (point_lt q q)
    go false e = ap (λ (b : Bool). if b then q else p) e

pub closed-cut : (s : Sink) → cut_of (after_close s) ≡ cut_of s
closed-cut s = go (ready_of s)
  where
    go : (o : Option Label) →
        elim o as (λ x. Point) [ None ↦ mark (stable_of s) s.site | Some l ↦ greater_point (elim o as (λ x. Point) [ None ↦ mark (stable_of s) s.site | Some m ↦ greater_point s.last (mark (m.point.ts - 1) s.site) ]) (mark (l.point.ts - 1) s.site) ]
        ≡ elim o as (λ x. Point) [ None ↦ mark (stable_of s) s.site | Some l ↦ greater_point s.last (mark (l.point.ts - 1) s.site) ]
    go None = refl
    go (Some l) = greater-twice s.last (mark (l.point.ts - 1) s.site)

-- ---- after a gather

map-get : (ds : List Drained) (g : ℕ) (d : Drained) → g < length ds → get_or (map promise_of ds) g 0 ≡ (get_or ds g d).promise
map-get [] g d h = absurd (omega arith)
map-get (x ∷ ds) zero d h = refl
map-get (x ∷ ds) (suc g) d h = map-get ds g d (omega arith)

map-labels : (ds : List Drained) (g : ℕ) (d : Drained) → g < length ds → get_or (map labels_of ds) g [] ≡ (get_or ds g d).labels
map-labels [] g d h = absurd (omega arith)
map-labels (x ∷ ds) zero d h = refl
map-labels (x ∷ ds) (suc g) d h = map-labels ds g d (omega arith)

some-drained : (ds : List Drained) (g : ℕ) → g < length ds → Drained
some-drained [] g h = absurd (omega arith)
some-drained (d ∷ ds) g h = d

promises-rise : (s : Sink) (ds : List Drained) → IsDrain s ds → (g : ℕ) → g < length s.promises → get_or s.promises g 0 ≤ get_or (map promise_of ds) g 0
promises-rise s ds r g h =
    let w : g < length ds = omega (arith, r.count) in
    let d : Drained = some-drained ds g w in
    let k : IsDrainOf s g (get_or ds g d) = r.each g d w in
    omega (arith, k.promise, map-get ds g d w)

stable-rises : (s : Sink) (ds : List Drained) → IsSink s → IsDrain s ds → stable_of s ≤ stable_of (after_gather s ds)
stable-rises s ds k r =
    let same : length (map promise_of ds) ≡ length s.promises = length-map ds promise_of ∙ r.count in
    least-above (least s.promises) (map promise_of ds) (omega (arith, k.some)) (λ g h.
    let w : g < length s.promises = omega arith in
    omega (arith, least-each s.promises g w, promises-rise s ds r g w))

-- what was drained from gear g
record IsFresh (s : Sink) (g : ℕ) (high : ℕ) (ls : List Label) : Type 0 where
  rises : Rises ls
  labels : (l : Label) → In ls l → IsNew s.site g (get_or s.promises g 0) high l

fresh-is : (s : Sink) (ds : List Drained) → IsDrain s ds → (g : ℕ) → g < length s.promises → IsFresh s g (get_or (map promise_of ds) g 0) (get_or (map labels_of ds) g [])
fresh-is s ds r g h =
    let w : g < length ds = omega (arith, r.count) in
    let d : Drained = some-drained ds g w in
    let k : IsDrainOf s g (get_or ds g d) = r.each g d w in
    subst (IsFresh s g (get_or (map promise_of ds) g 0)) (sym (map-labels ds g d w))
    (subst (λ (n : ℕ). IsFresh s g n (get_or ds g d).labels) (sym (map-get ds g d w)) (record { rises = k.rises; labels = k.labels }))

pub gathered-is : (s : Sink) (ds : List Drained) → IsSink s → IsDrain s ds → IsSink (after_gather s ds)
gathered-is s ds k r =
    let same : length (map promise_of ds) ≡ length s.promises = length-map ds promise_of ∙ r.count in
    let up : stable_of s ≤ stable_of (after_gather s ds) = stable-rises s ds k r in
    record {
      some = omega (arith, k.some);
      few = omega (arith, k.few);
      rows = length-joined s.pending (map labels_of ds) ∙ (k.rows ∙ sym same);
      queues = λ g h. queue g (omega arith);
      last = point_le-trans s.last (mark (stable_of s) s.site) (mark (stable_of (after_gather s ds)) s.site) k.last (marks-le (stable_of s) (stable_of (after_gather s ds)) s.site up);
    }
  where
    old : (g : ℕ) → g < length s.promises → (l : Label) → IsPending s g l → IsPending (after_gather s ds) g l
    old g h l p = record {
      new = record { site = p.new.site; gear = p.new.gear; made = p.new.made; above = p.new.above; upto = omega (arith, p.new.upto, promises-rise s ds r g h) };
      unsent = p.unsent;
    }

    new : (g : ℕ) → g < length s.promises → (l : Label) → IsNew s.site g (get_or s.promises g 0) (get_or (map promise_of ds) g 0) l → IsPending (after_gather s ds) g l
    new g h l n = record {
      new = record { site = n.site; gear = n.gear; made = n.made; above = omega (arith, n.above); upto = n.upto };
      unsent = point_le_lt-trans s.last (mark (stable_of s) s.site) l.point k.last (mark-lt (stable_of s) s.site l.point (omega (arith, n.above, least-each s.promises g h)));
    }

    queue : (g : ℕ) → g < length s.promises → IsQueue (after_gather s ds) g (get_or (joined s.pending (map labels_of ds)) g [])
    queue g h =
        let f : IsFresh s g (get_or (map promise_of ds) g 0) (get_or (map labels_of ds) g []) = fresh-is s ds r g h in
        let q : IsQueue s g (get_or s.pending g []) = k.queues g h in
        subst (IsQueue (after_gather s ds) g) (sym (joined-get s.pending (map labels_of ds) g (omega (arith, k.rows)))) (record {
          rises = rises-both (get_or s.pending g []) (get_or (map labels_of ds) g []) q.rises f.rises (λ x y i j. ts-lt x.point y.point (omega (arith, (q.labels x i).new.upto, (f.labels y j).above)));
          labels = λ l i. elim (In-parts (get_or s.pending g []) (get_or (map labels_of ds) g []) l i) [
            | inl a ↦ old g h l (q.labels l a)
            | inr b ↦ new g h l (f.labels l b)
          ];
        })

-- what is pending after it was so before, or is past what was stable
after-gather : (s : Sink) (ds : List Drained) → IsSink s → IsDrain s ds → (m : Label) → In (all_of (after_gather s ds).pending) m → In (all_of s.pending) m ⊎ (stable_of s < m.point.ts)
after-gather s ds k r m i =
    let at : Place (joined s.pending (map labels_of ds)) m = In-all (joined s.pending (map labels_of ds)) m i in
    let h : at.gear < length s.promises = omega (arith, at.within, length-joined s.pending (map labels_of ds), k.rows) in
    elim (In-parts (get_or s.pending at.gear []) (get_or (map labels_of ds) at.gear []) m (subst (λ (ls : List Label). In ls m) (joined-get s.pending (map labels_of ds) at.gear (omega (arith, k.rows))) at.there)) [
      | inl a ↦ inl (all-In s.pending at.gear m a)
      | inr b ↦ inr (omega (arith, ((fresh-is s ds r at.gear h).labels m b).above, least-each s.promises at.gear h))
    ]

pub gather-cut : (s : Sink) (ds : List Drained) → IsSink s → IsDrain s ds → point_le (cut_of s) (cut_of (after_gather s ds)) ≡ true
gather-cut s ds k r = go (ready_of (after_gather s ds)) refl
  where
    late : (m : Label) → In (all_of (after_gather s ds).pending) m → point_le (cut_of s) (greater_point s.last (mark (m.point.ts - 1) s.site)) ≡ true
    late m i = by (ready_of s) refl
      where
        by : (o : Option Label) → ready_of s ≡ o → point_le (elim o as (λ x. Point) [ None ↦ mark (stable_of s) s.site | Some l ↦ greater_point s.last (mark (l.point.ts - 1) s.site) ]) (greater_point s.last (mark (m.point.ts - 1) s.site)) ≡ true
        by None e =
            let h : stable_of s < m.point.ts = elim (after-gather s ds k r m i) [ inl a ↦ (let at : Place s.pending m = In-all s.pending m a in past-stable s at.gear m e at.there) | inr b ↦ b ] in
            point_le-trans (mark (stable_of s) s.site) (mark (m.point.ts - 1) s.site) _ (marks-le (stable_of s) (m.point.ts - 1) s.site (omega arith)) (le-greater_right s.last (mark (m.point.ts - 1) s.site))
        by (Some l) e =
            let n : IsNext s l = next-is s l k e in
            let h : l.point.ts ≤ m.point.ts = elim (after-gather s ds k r m i) [ inl a ↦ not-before s l m n a | inr b ↦ omega (arith, n.stable) ] in
            of-greater (λ p. point_le p (greater_point s.last (mark (m.point.ts - 1) s.site)) ≡ true) s.last (mark (l.point.ts - 1) s.site)
            (le-greater_left s.last (mark (m.point.ts - 1) s.site))
            (point_le-trans (mark (l.point.ts - 1) s.site) (mark (m.point.ts - 1) s.site) _ (marks-le (l.point.ts - 1) (m.point.ts - 1) s.site (omega arith)) (le-greater_right s.last (mark (m.point.ts - 1) s.site)))

    go : (o : Option Label) → ready_of (after_gather s ds) ≡ o → point_le (cut_of s) (elim o as (λ x. Point) [ None ↦ mark (stable_of (after_gather s ds)) s.site | Some l ↦ greater_point s.last (mark (l.point.ts - 1) s.site) ]) ≡ true
    go None e = point_le-trans (cut_of s) (mark (stable_of s) s.site) (mark (stable_of (after_gather s ds)) s.site) (cut-stable s k) (marks-le (stable_of s) (stable_of (after_gather s ds)) s.site (stable-rises s ds k r))
    go (Some m) e = late m (least-is (is_up_to (stable_of (after_gather s ds))) (all_of (after_gather s ds).pending) m e).member
