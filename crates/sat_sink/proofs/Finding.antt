-- One queue more, as the least label is looked for.
use Rattle.std.specs.Prelude.{◌≡◌, ◌<◌, ◌≤◌, ◌+◌, ℕ, Bool, true, false, List, [], ◌∷◌, length, get_or, take, map, Option, Some, None, slice_get, nat_le, nat_lt, if◌then◌else◌, refl}
use Rattle.std.proofs.Common.{arith, ap, subst, sym, ◌∙◌, inl}
use Rattle.std.proofs.lemmas.Bool.Decides.{nat_tests}
use Rattle.sat_label.specs.declared.label.Label.{Label}
use Rattle.sat_label.specs.declared.point.Point.{Point}
use Rattle.sat_label.specs.Order.{label_lt, point_lt}
use Rattle.sat_label.proofs.Orders.{labels-lt}
use Rattle.sat_label.specs.Members.{In}
use Rattle.sat_label.specs.Least.{least_label, lesser}
use Rattle.sat_label.proofs.Least.{least-is, least-nil}
use Rattle.sat_bulk.specs.Drains.{Rises}
use Rattle.sat_queue.specs.Queued.{Queued, members_of}
use Rattle.sat_sink.specs.Pending.{is_up_to, all_of, AllRise}
use Rattle.sat_sink.specs.declared.queue.Found.{Found}
use Rattle.sat_sink.specs.Found.{goes_before, queue_at, InGearOrder, IsFound}
use Rattle.sat_sink.specs.Sink.{Sink, IsPending, IsSink}
use Rattle.sat_sink.proofs.Sinks.{pending-is}
use Rattle.sat_sink.proofs.Fronts.{no_front, front_up, front_past, labels-get, least-more}

first-in : (ls : List Label) (l : Label) → slice_get ls 0 ≡ Some l → In ls l
first-in [] l e = absurd (cc)
first-in (x ∷ ls) l e = let same : x ≡ l = cc in inl same

-- the front of the next queue is in that queue
front-in : (queues : List (Queued Label)) (i : ℕ) (q : Queued Label) (l : Label) → i < length queues → q ≡ get_or queues i q → Some l ≡ slice_get q.members 0 → In (queue_at queues i) l
front-in queues i q l less here front = subst (λ (ls : List Label). In ls l) (ap members_of here ∙ labels-get queues i q less) (first-in q.members l (sym front))

rises-at : (queues : List (Queued Label)) (i : ℕ) (q : Queued Label) → i < length queues → q ≡ get_or queues i q → AllRise queues → Rises q.members
rises-at queues i q less here rise = subst (λ (p : Queued Label). Rises p.members) (sym here) (rise i q less)

-- where the next queue adds no label up to t, what was found stays
kept : (t : ℕ) (queues : List (Queued Label)) (i : ℕ) (q : Queued Label) (found : Option Found) → i < length queues → q ≡ get_or queues i q → None ≡ least_label (is_up_to t) q.members → IsFound t queues i found → IsFound t queues (i + 1) found
kept t queues i q None less here none had = sym (least-more t queues i q less here) ∙ (λ j. lesser (had j) (sym none j))
kept t queues i q (Some f) less here none had =
    (had.0, sym (least-more t queues i q less here) ∙ (λ j. lesser (had.1 j) (sym none j)), had.2, had.3, (let k : f.place < i = had.4 in omega arith))

pub found_none : (t : ℕ) (queues : List (Queued Label)) (i : ℕ) (q : Queued Label) (found : Option Found) → i < length queues → q ≡ get_or queues i q → None ≡ slice_get q.members 0 → IsFound t queues i found → IsFound t queues (i + 1) found
found_none t queues i q found less here front had = kept t queues i q found less here (no_front t q.members front) had

past : (n t : ℕ) → nat_le n t ≡ false → t < n
past n t e = grind (arith, nat_tests)

upto : (n t : ℕ) → nat_le n t ≡ true → n ≤ t
upto n t e = grind (arith, nat_tests)

not-lower : (n m : ℕ) → nat_lt n m ≡ false → m ≤ n
not-lower n m e = grind (arith, nat_tests)

lower : (n m : ℕ) → nat_lt n m ≡ true → n < m
lower n m e = grind (arith, nat_tests)

-- a label with a later timestamp is not below
not-below : (m l : Label) → l.point.ts < m.point.ts → label_lt m l ≡ false
not-below m l h = grind (arith, nat_tests)

lesser-first : (m l : Label) → label_lt m l ≡ true → lesser (Some m) (Some l) ≡ Some m
lesser-first m l e = ap (λ (b : Bool). if b then Some m else Some l) e

lesser-second : (m l : Label) → label_lt m l ≡ false → lesser (Some m) (Some l) ≡ Some l
lesser-second m l e = ap (λ (b : Bool). if b then Some m else Some l) e

pub found_stays : (t : ℕ) (queues : List (Queued Label)) (i : ℕ) (q : Queued Label) (found : Option Found) (l : Label) → i < length queues → q ≡ get_or queues i q → AllRise queues → InGearOrder queues →
    Some l ≡ slice_get q.members 0 → goes_before l.point.ts found t ≡ false → IsFound t queues i found → IsFound t queues (i + 1) found
found_stays t queues i q None l less here rise order front test had =
    kept t queues i q None less here (front_past t l q.members (rises-at queues i q less here rise) front (past l.point.ts t test)) had
found_stays t queues i q (Some f) l less here rise order front test had = go (nat_le l.point.ts t) refl
  where
    go : (b : Bool) → nat_le l.point.ts t ≡ b → IsFound t queues (i + 1) (Some f)
    go false e = kept t queues i q (Some f) less here (front_past t l q.members (rises-at queues i q less here rise) front (past l.point.ts t e)) had
    go true e =
        let some : Some l ≡ least_label (is_up_to t) q.members = front_up t l q.members (rises-at queues i q less here rise) front (upto l.point.ts t e) in
        let after : had.0.point.ts ≤ l.point.ts = subst (λ (n : ℕ). n ≤ l.point.ts) had.2 (not-lower l.point.ts f.ts test) in
        let before : label_lt had.0 l ≡ true = order f.place i had.0 l had.4 (first-in (queue_at queues f.place) had.0 had.3) (front-in queues i q l less here front) after in
        (had.0, sym (least-more t queues i q less here) ∙ ((λ j. lesser (had.1 j) (sym some j)) ∙ lesser-first had.0 l before), had.2, had.3, (let k : f.place < i = had.4 in omega arith))

pub found_more : (t : ℕ) (queues : List (Queued Label)) (i : ℕ) (q : Queued Label) (found : Option Found) (l : Label) → i < length queues → q ≡ get_or queues i q → AllRise queues →
    Some l ≡ slice_get q.members 0 → goes_before l.point.ts found t ≡ true → IsFound t queues i found → IsFound t queues (i + 1) (Some (record { place = i; ts = l.point.ts }))
found_more t queues i q found l less here rise front test had =
    let at : slice_get (queue_at queues i) 0 ≡ Some l = ap (λ (ls : List Label). slice_get ls 0) (sym (ap members_of here ∙ labels-get queues i q less)) ∙ sym front in
    (l, sym (least-more t queues i q less here) ∙ go found test had, refl, at, omega arith)
  where
    up : l.point.ts ≤ t → Some l ≡ least_label (is_up_to t) q.members
    up k = front_up t l q.members (rises-at queues i q less here rise) front k

    go : (found : Option Found) → goes_before l.point.ts found t ≡ true → IsFound t queues i found → lesser (least_label (is_up_to t) (all_of (map members_of (take i queues)))) (least_label (is_up_to t) q.members) ≡ Some l
    go None test had = (λ j. lesser (had j) (sym (up (upto l.point.ts t test)) j))
    go (Some f) test had =
        let m : Label = had.0 in
        let soon : l.point.ts < had.0.point.ts = subst (λ (n : ℕ). l.point.ts < n) had.2 (lower l.point.ts f.ts test) in
        let passes : nat_le had.0.point.ts t ≡ true = (least-is (is_up_to t) (all_of (map members_of (take i queues))) had.0 had.1).passes in
        let k : had.0.point.ts ≤ t = upto had.0.point.ts t passes in
        (λ j. lesser (had.1 j) (sym (up (omega arith)) j)) ∙ lesser-second had.0 l (not-below had.0 l soon)

pub found_start : (t : ℕ) (queues : List (Queued Label)) → IsFound t queues 0 None
found_start t queues = least-nil (is_up_to t)

by-gear : (p q : Point) → p.ts ≤ q.ts → p.site ≡ q.site → p.gear < q.gear → point_lt p q ≡ true
by-gear p q h e less = grind (arith, nat_tests)

-- the labels of a sink's queues are each of one gear
pub queues-order : (s : Sink) (queues : List (Queued Label)) → map members_of queues ≡ s.pending → IsSink s → InGearOrder queues
queues-order s queues e k g h l m less i j late =
    let a : IsPending s g l = pending-is s g l k (subst (λ (ls : List (List Label)). In (get_or ls g []) l) e i) in
    let b : IsPending s h m = pending-is s h m k (subst (λ (ls : List (List Label)). In (get_or ls h []) m) e j) in
    labels-lt l m (by-gear l.point m.point late (a.new.site ∙ sym b.new.site) (omega (arith, a.new.gear, b.new.gear)))
