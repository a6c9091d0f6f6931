-- What each call makes of a sink, by the view of its fields.
use Rattle.std.specs.Prelude.{◌≡◌, ◌<◌, ℕ, true, not, List, [], length, get_or, set, drop, map, Option, Some, None, is_some, nat_lt, refl}
use Rattle.std.proofs.Common.{arith, ap, subst, sym, ◌∙◌}
use Rattle.std.proofs.lemmas.Bool.{and_parts}
use Rattle.std.proofs.lemmas.List.{map-set, length-map}
use Rattle.sat_label.specs.declared.point.Point.{Point}
use Rattle.sat_label.specs.declared.label.Label.{Label}
use Rattle.sat_label.specs.declared.limits.TheConstants.{PULSE_GEAR}
use Rattle.sat_label.specs.Order.{point_at, point_lt, point_le}
use Rattle.sat_bulk.specs.declared.Drained.{Drained}
use Rattle.sat_queue.specs.Queued.{Queued, members_of}
use Rattle.sat_sink.specs.Pending.{labels_of, promise_of, joined, without}
use Rattle.sat_sink.specs.Sink.{Sink, stable_of, ready_of, cut_of, may_pulse, after_emit_of, after_emit, AllAbove, IsDrain, IsSink}
use Rattle.sat_sink.proofs.Fronts.{labels-get}
use Rattle.sat_sink.proofs.Sinks.{IsNext, next-is, popped, emitted-is, emit-above, emit-upto, emit-cut, pulsed-is, closed-is, closed-cut, cut-below, gathered-is, gather-cut}

-- ---- emit

pub next-queue : (s v : Sink) (qs : List (Queued Label)) (l : Label) → v ≡ s → IsSink v → ready_of s ≡ Some l → map members_of qs ≡ v.pending → l.point.gear < length qs
next-queue s v qs l same k e q =
    let n : IsNext v l = next-is v l k (ap ready_of same ∙ e) in
    omega (arith, n.within, k.rows, ap (λ (ls : List (List Label)). length ls) q, length-map qs members_of)

pub record Emits (s w : Sink) (l : Label) : Type 0 where
  pub sink : IsSink w
  pub new : w ≡ after_emit s
  pub above : point_lt (cut_of s) l.point ≡ true
  pub upto : point_le l.point (cut_of w) ≡ true
  pub cut : point_le (cut_of s) (cut_of w) ≡ true

emits-as : (s : Sink) (l : Label) → IsSink s → ready_of s ≡ Some l → Emits s (after_emit_of s l) l
emits-as s l k e = record {
  sink = emitted-is s l k e;
  new = ap (λ (o : Option Label). elim o as (λ x. Sink) [ None ↦ s | Some m ↦ after_emit_of s m ]) (sym e);
  above = emit-above s l k e;
  upto = emit-upto s l k e;
  cut = emit-cut s l k e;
}

pub emits : (s v : Sink) (qs : List (Queued Label)) (q r : Queued Label) (l : Label) → v ≡ s → IsSink v → ready_of s ≡ Some l → map members_of qs ≡ v.pending → q ≡ get_or qs l.point.gear q → r.members ≡ drop 1 q.members →
    Emits s (record v { pending = map members_of (set qs l.point.gear r); last = l.point }) l
emits s v qs q r l same k e rows at rest =
    let f : ready_of v ≡ Some l = ap ready_of same ∙ e in
    let n : IsNext v l = next-is v l k f in
    let w : l.point.gear < length qs = next-queue s v qs l same k e rows in
    let own : r.members ≡ drop 1 (get_or v.pending l.point.gear []) =
    rest ∙ ap (λ (ls : List Label). drop 1 ls) (ap members_of at ∙ (labels-get qs l.point.gear q w ∙ ap (λ (ls : List (List Label)). get_or ls l.point.gear []) rows)) in
    let left : map members_of (set qs l.point.gear r) ≡ without l v.pending =
    map-set members_of qs l.point.gear r ∙ ((λ i. set (rows i) l.point.gear (own i)) ∙ popped v l k n) in
    subst (λ (t : Sink). Emits t (record v { pending = map members_of (set qs l.point.gear r); last = l.point }) l) same
    (subst (λ (ls : List (List Label)). Emits v (record v { pending = ls; last = l.point }) l) (sym left) (emits-as v l k f))

-- ---- pulse

none-ready : (o : Option Label) → not (is_some o) ≡ true → o ≡ None
none-ready None e = refl
none-ready (Some l) e = absurd (cc)

pub pulses : (s v : Sink) (t : ℕ) → v ≡ s → IsSink v → may_pulse s ≡ true → t ≡ stable_of s → IsSink (record v { last = point_at t v.site PULSE_GEAR; pulse = t })
pulses s v t same k e is =
    let f : may_pulse v ≡ true = ap may_pulse same ∙ e in
    let u : stable_of v ≡ t = ap stable_of same ∙ sym is in
    subst (λ (n : ℕ). IsSink (record v { last = point_at n v.site PULSE_GEAR; pulse = n })) u (pulsed-is v k (none-ready (ready_of v) (and_parts (not (is_some (ready_of v))) (nat_lt v.pulse (stable_of v)) f).0))

-- ---- cut

pub cuts : (s v : Sink) (p : Point) → v ≡ s → IsSink v → p ≡ cut_of s → AllAbove p s.pending
cuts s v p same k is = subst (λ (q : Point). AllAbove q s.pending) (sym is) (subst (λ (t : Sink). AllAbove (cut_of t) t.pending) same (cut-below v k))

pub late-next : (s v : Sink) (l : Label) → v ≡ s → IsSink v → ready_of s ≡ Some l → 0 < l.point.ts
late-next s v l same k e = (next-is v l k (ap ready_of same ∙ e)).pending.new.above

-- ---- closed

pub record Closes (s w : Sink) : Type 0 where
  pub sink : IsSink w
  pub cut : cut_of w ≡ cut_of s

pub closes : (s v : Sink) (p : Point) → v ≡ s → IsSink v → p ≡ cut_of s → Closes s (record v { last = p })
closes s v p same k is =
    subst (λ (t : Sink). Closes t (record v { last = p })) same
    (subst (λ (q : Point). Closes v (record v { last = q })) (ap cut_of same ∙ sym is) (record { sink = closed-is v k; cut = closed-cut v }))

-- ---- gather

pub record Gathers (s w : Sink) : Type 0 where
  pub sink : IsSink w
  pub cut : point_le (cut_of s) (cut_of w) ≡ true

pub gathers : (s v : Sink) (ds : List Drained) (ps : List ℕ) (qs : List (List Label)) → v ≡ s → IsSink v → IsDrain s ds → ps ≡ map promise_of ds → qs ≡ joined v.pending (map labels_of ds) →
    Gathers s (record v { promises = ps; pending = qs })
gathers s v ds ps qs same k r p q =
    let d : IsDrain v ds = subst (λ (t : Sink). IsDrain t ds) (sym same) r in
    subst (λ (t : Sink). Gathers t (record v { promises = ps; pending = qs })) same
    (subst (λ (ns : List ℕ). Gathers v (record v { promises = ns; pending = qs })) (sym p)
    (subst (λ (ls : List (List Label)). Gathers v (record v { promises = map promise_of ds; pending = ls })) (sym q) (record { sink = gathered-is v ds k d; cut = gather-cut v ds k d })))
