-- The front of a queue that rises.
use Rattle.std.specs.Prelude.{◌≡◌, ◌<◌, ◌≤◌, ◌+◌, ℕ, zero, suc, Bool, true, false, List, [], ◌∷◌, ◌++◌, length, get_or, take, set, map, Some, None, slice_get, nat_le, if◌then◌else◌, refl}
use Rattle.std.proofs.Common.{arith, ap, subst, sym, ◌∙◌, inl, inr}
use Rattle.std.proofs.lemmas.Bool.{cases_eq, le-leb, lt-leb}
use Rattle.std.proofs.lemmas.List.{take_more, map-append, map-set, set-get_or, get_or-map, get_or-set_same, get_or-set_other, get_or_default, length-map, length-set, length-take-le, append-nil, get_or_past}
use Rattle.std.proofs.lemmas.List.Concat.{flat_map-append}
use Rattle.sat_label.specs.declared.label.Label.{Label}
use Rattle.sat_bulk.specs.declared.Drained.{Drained}
use Rattle.sat_bulk.specs.Drains.{Rises}
use Rattle.sat_gear.specs.Gear.{GearSeen, drained_of}
use Rattle.sat_queue.specs.Queued.{Queued, members_of}
use Rattle.sat_sink.specs.Pending.{labels_of, is_up_to, all_of, joined, AllRise, HaveRoomFrom}
use Rattle.sat_label.specs.Least.{least_label, lesser}
use Rattle.sat_sink.specs.Sink.{Sink, IsSink}
use Rattle.sat_label.proofs.Least.{least-append, least-nil}
use Rattle.sat_sink.proofs.Leasts.{least-front}
use Rattle.sat_sink.proofs.Queues.{joined-get, joined-more}

pub no_front : (t : ℕ) (ls : List Label) → None ≡ slice_get ls 0 → None ≡ least_label (is_up_to t) ls
no_front t [] e = sym (least-nil (is_up_to t))
no_front t (l ∷ ls) e = absurd (cc)

chosen : (b c : Bool) (l : Label) → b ≡ c → (if b then Some l else None) ≡ (if c then Some l else None)
chosen b c l e = ap (λ (k : Bool). if k then Some l else None) e

pub front_up : (t : ℕ) (l : Label) (ls : List Label) → Rises ls → Some l ≡ slice_get ls 0 → l.point.ts ≤ t → Some l ≡ least_label (is_up_to t) ls
front_up t l [] r e k = absurd (cc)
front_up t l (x ∷ ls) r e k =
    let same : l ≡ x = cc in
    let early : nat_le x.point.ts t ≡ true = subst (λ (y : Label). nat_le y.point.ts t ≡ true) same (le-leb l.point.ts t k) in
    e ∙ sym (least-front t x ls r ∙ chosen (nat_le x.point.ts t) true x early)

pub front_past : (t : ℕ) (l : Label) (ls : List Label) → Rises ls → Some l ≡ slice_get ls 0 → t < l.point.ts → None ≡ least_label (is_up_to t) ls
front_past t l [] r e k = absurd (cc)
front_past t l (x ∷ ls) r e k =
    let same : l ≡ x = cc in
    let late : nat_le x.point.ts t ≡ false = subst (λ (y : Label). nat_le y.point.ts t ≡ false) same (lt-leb l.point.ts t k) in
    sym (least-front t x ls r ∙ chosen (nat_le x.point.ts t) false x late)

all-append : (xs ys : List (List Label)) → all_of (xs ++ ys) ≡ all_of xs ++ all_of ys
all-append xs ys = flat_map-append (λ ls. ls) xs ys

-- one queue more
pub least-more : (t : ℕ) (queues : List (Queued Label)) (i : ℕ) (q : Queued Label) → i < length queues → q ≡ get_or queues i q →
    lesser (least_label (is_up_to t) (all_of (map members_of (take i queues)))) (least_label (is_up_to t) q.members) ≡ least_label (is_up_to t) (all_of (map members_of (take (i + 1) queues)))
least-more t queues i q h e =
    let p = is_up_to t in
    let more : map members_of (take (i + 1) queues) ≡ map members_of (take i queues) ++ q.members ∷ [] =
    ap (λ (qs : List (Queued Label)). map members_of qs) (take_more queues i q h) ∙ (map-append members_of (take i queues) (get_or queues i q ∷ []) ∙ ap (λ (x : Queued Label). map members_of (take i queues) ++ x.members ∷ []) (sym e)) in
    let all : all_of (map members_of (take (i + 1) queues)) ≡ all_of (map members_of (take i queues)) ++ q.members =
    ap (λ (ls : List (List Label)). all_of ls) more ∙ (all-append (map members_of (take i queues)) (q.members ∷ []) ∙ ap (λ (ls : List Label). all_of (map members_of (take i queues)) ++ ls) (append-nil q.members)) in
    sym (ap (λ (ls : List Label). least_label (is_up_to t) ls) all ∙ least-append (is_up_to t) (all_of (map members_of (take i queues))) q.members)

pub labels-get : (qs : List (Queued Label)) (n : ℕ) (d : Queued Label) → n < length qs → (get_or qs n d).members ≡ get_or (map members_of qs) n []
labels-get [] n d w = absurd (omega arith)
labels-get (x ∷ qs) zero d w = refl
labels-get (x ∷ qs) (suc n) d w = labels-get qs n d (omega arith)

-- a queue that keeps its labels
pub same-labels : (queues : List (Queued Label)) (i : ℕ) (q r : Queued Label) → i < length queues → r.members ≡ (get_or queues i q).members → map members_of (set queues i r) ≡ map members_of queues
same-labels queues i q r h k =
    map-set members_of queues i r ∙ (ap (λ (ls : List Label). set (map members_of queues) i ls) (k ∙ labels-get queues i q h) ∙ set-get_or (map members_of queues) i [])

-- ---- room

pub room-more : (queues : List (Queued Label)) (ds : List Drained) (i : ℕ) (r : Queued Label) (x : Drained) → i < length queues → i < length ds → x ≡ get_or ds i x →
    ((g : ℕ) (q : Queued Label) (d : Drained) → g < i → length (get_or queues g q).members + length (get_or ds g d).labels ≤ (get_or queues g q).room) → length r.members + length x.labels ≤ r.room →
    (g : ℕ) (q : Queued Label) (d : Drained) → g < i + 1 → length (get_or (set queues i r) g q).members + length (get_or ds g d).labels ≤ (get_or (set queues i r) g q).room
room-more queues ds i r x h w e before here g q d k = elim (cases_eq g i) [
  | inl same ↦ subst (λ (n : ℕ). length (get_or (set queues i r) n q).members + length (get_or ds n d).labels ≤ (get_or (set queues i r) n q).room) (sym same)
      (subst (λ (y : Queued Label). length y.members + length (get_or ds i d).labels ≤ y.room) (sym (get_or-set_same queues i r q h))
      (subst (λ (y : Drained). length r.members + length y.labels ≤ r.room) (e ∙ get_or_default ds i x d w) here))
  | inr other ↦ subst (λ (y : Queued Label). length y.members + length (get_or ds g d).labels ≤ y.room) (sym (get_or-set_other queues i g r q other)) (before g q d (below-other g i k other))
]
  where
    below-other : (g i : ℕ) → g < i + 1 → (g ≡ i → ⊥) → g < i
    below-other g i k ne = grind arith

pub room-left : (queues : List (Queued Label)) (ds : List Drained) (i : ℕ) (r : Queued Label) → HaveRoomFrom i queues ds → HaveRoomFrom (i + 1) (set queues i r) ds
room-left queues ds i r before g q d k h =
    let w : g < length queues = omega (arith, length-set queues i r) in
    let other : g ≡ i → ⊥ = λ e. absurd (omega arith) in
    subst (λ (y : Queued Label). length y.members + length (get_or ds g d).labels ≤ y.room) (sym (get_or-set_other queues i g r q other)) (before g q d (omega arith) w)

-- one queue more has its labels
pub extended : (start queues : List (Queued Label)) (ds : List Drained) (i : ℕ) (q r : Queued Label) (d : Drained) → i < length queues → i < length ds → length queues ≡ length start → d ≡ get_or ds i d →
    map members_of queues ≡ joined (map members_of start) (map labels_of (take i ds)) → r.members ≡ (get_or queues i q).members ++ d.labels →
    map members_of (set queues i r) ≡ joined (map members_of start) (map labels_of (take (i + 1) ds))
extended start queues ds i q r d h w same e before now =
    let ms : List (List Label) = map labels_of (take i ds) in
    let n : length ms ≡ i = length-map (take i ds) labels_of ∙ length-take-le i ds (omega arith) in
    let some : i < length (map members_of start) = omega (arith, length-map start members_of) in
    let own : get_or (map members_of queues) i [] ≡ get_or (map members_of start) i [] =
    ap (λ (ls : List (List Label)). get_or ls i []) before ∙ (joined-get (map members_of start) ms i some ∙ (ap (λ (ls : List Label). get_or (map members_of start) i [] ++ ls) (get_or_past ms i [] (omega arith)) ∙ append-nil (get_or (map members_of start) i []))) in
    let more : map labels_of (take (i + 1) ds) ≡ ms ++ d.labels ∷ [] =
    ap (λ (xs : List Drained). map labels_of xs) (take_more ds i d w) ∙ (map-append labels_of (take i ds) (get_or ds i d ∷ []) ∙ ap (λ (x : Drained). ms ++ x.labels ∷ []) (sym e)) in
    let step : joined (map members_of start) (ms ++ d.labels ∷ []) ≡ set (joined (map members_of start) ms) i (get_or (map members_of start) i [] ++ d.labels) =
    subst (λ (k : ℕ). joined (map members_of start) (ms ++ d.labels ∷ []) ≡ set (joined (map members_of start) ms) k (get_or (map members_of start) k [] ++ d.labels)) n (joined-more (map members_of start) ms d.labels (omega arith)) in
    map-set members_of queues i r ∙ (ap (λ (ls : List Label). set (map members_of queues) i ls) (now ∙ ap (λ (ls : List Label). ls ++ d.labels) (labels-get queues i q h ∙ own))
    ∙ (ap (λ (qs : List (List Label)). set qs i (get_or (map members_of start) i [] ++ d.labels)) before ∙ sym (ap (λ (xs : List (List Label)). joined (map members_of start) xs) more ∙ step)))

-- what was drained of the gears, one of them after another
pub drained-length : (gears : List GearSeen) → length (map drained_of gears) ≡ length gears
drained-length gears = length-map gears drained_of

pub drained-here : (gears : List GearSeen) (i : ℕ) (gear : GearSeen) → i < length gears → gear ≡ get_or gears i gear → drained_of gear ≡ get_or (map drained_of gears) i (drained_of gear)
drained-here gears i gear less here = ap drained_of here ∙ sym (get_or-map drained_of gears i gear (drained_of gear) less)

pub queues-rise : (s : Sink) (queues : List (Queued Label)) → map members_of queues ≡ s.pending → IsSink s → AllRise queues
queues-rise s queues e k g q h =
    let w : g < length s.promises = omega (arith, k.rows, ap (λ (ls : List (List Label)). length ls) e, length-map queues members_of) in
    subst Rises (sym (labels-get queues g q h ∙ ap (λ (ls : List (List Label)). get_or ls g []) e)) (k.queues g w).rises
