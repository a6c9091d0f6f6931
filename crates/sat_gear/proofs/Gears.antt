-- What stays true of a gear.
use Rattle.std.specs.Prelude.{◌≡◌, ◌<◌, ◌≤◌, ◌+◌, ◌^◌, ◌%◌, ℕ, zero, suc, Bool, true, false, max, List, [], ◌∷◌, ◌++◌, length, map, replicate, get_or, slice_get, Option, Some, None, if◌then◌else◌, refl}
use Rattle.std.specs.List.{list_all}
use Rattle.std.proofs.Common.{arith, ap, subst, sym, ◌∙◌, inl, inr, zero-add}
use Rattle.std.proofs.lemmas.Bool.Decides.{nat_tests}
use Rattle.std.proofs.lemmas.List.{length-replicate, length-set}
use Rattle.sat_label.specs.declared.items.Items.{Items}
use Rattle.sat_label.specs.declared.label.Kind.{Kind}
use Rattle.sat_label.specs.declared.label.Kind.TheVariants.{Update, Move, Pulse, Close}
use Rattle.sat_label.specs.declared.label.Label.{Label}
use Rattle.sat_label.specs.declared.point.Point.{Point}
use Rattle.sat_label.specs.Grouped.{least_item, list_of}
use Rattle.sat_label.specs.Order.{kind_numbers, point_lt}
use Rattle.sat_bulk.specs.Payloads.{Payload}
use Rattle.sat_label.specs.Members.{In, is_made}
use Rattle.sat_bulk.specs.Drains.{Rises}
use Rattle.sat_label.proofs.Members.{In-parts}
use Rattle.sat_bulk.proofs.Members.{rises-both}
use Rattle.sat_sites.specs.Interested.{AreBelow, is_for, keeps}
use Rattle.sat_sites.specs.declared.shape.Shape.{Shape}
use Rattle.sat_label.specs.Versions.{Version}
use Rattle.sat_gear.specs.Lanes.{lanes_where, numbers_where}
use Rattle.sat_gear.specs.Gear.{GearSeen, IsGear, IsShape, IsUndrained, IsInLane, AreItemsOf, IsItemOf, IsKindHere, IsNextStamp, EachLane, after_drain, fresh_gear, lane_to, lanes_from, after_move, places, after_show, after_tick, after_write}
use Rattle.sat_gear.proofs.Spreads.{less-or-not, lanes-get, lanes-length, slice-more}

-- ---- labels

-- an item of a gear is one of it whatever else changes
abbrev pub SameGear : GearSeen → GearSeen → Type 0
SameGear s t = (s.shape ≡ t.shape) × (s.gear ≡ t.gear)

pub item-too : (s t : GearSeen) (x : ℕ) → SameGear s t → IsItemOf s x → IsItemOf t x
item-too s t x same i = record {
  item = subst (λ (shape : Shape). x < length shape.interest.replicas) same.0 i.item;
  gear = subst (λ (shape : Shape). x % shape.gears ≡ t.gear) same.0 (i.gear ∙ same.1);
  kept = subst (λ (shape : Shape). keeps shape.interest x shape.site ≡ true) same.0 i.kept;
}

items-too : (s t : GearSeen) (xs : List ℕ) → SameGear s t → AreItemsOf s xs → AreItemsOf t xs
items-too s t xs same i = record {
  known = subst (λ (shape : Shape). AreBelow (length shape.interest.replicas) xs) same.0 i.known;
  least = item-too s t (least_item xs) same i.least;
  kept = subst (λ (shape : Shape). list_all (λ x. keeps shape.interest x shape.site) xs ≡ true) same.0 i.kept;
}

pub kind-too : (s t : GearSeen) (k : Kind) → SameGear s t → IsKindHere s k → IsKindHere t k
kind-too s t (Update items) same here = items-too s t (list_of items) same here
kind-too s t (Move j) same here = (subst (λ (shape : Shape). j < shape.sites) same.0 here.0, sym same.1 ∙ here.1)
kind-too s t Pulse same here = absurd here
kind-too s t (Close e) same here = absurd here

lane-too : (s t : GearSeen) (j : ℕ) (p : Payload) → SameGear s t → s.promise ≤ t.promise → IsInLane s j p → IsInLane t j p
lane-too s t j p same up f = record {
  site = subst (λ (shape : Shape). p.label.point.site ≡ shape.site) same.0 f.site;
  gear = f.gear ∙ same.1;
  kind = (f.kind.0, f.kind.1, items-too s t (list_of f.kind.0) same f.kind.2);
  values = f.values;
  target = subst (λ (shape : Shape). is_for shape.interest p.label j ≡ true) same.0 f.target;
  upto = let e : p.label.point.ts ≤ s.promise = f.upto in omega arith;
}

fresh-too : (s t : GearSeen) (l : Label) → SameGear s t → s.drained_promise ≡ t.drained_promise → s.promise ≤ t.promise → IsUndrained s l → IsUndrained t l
fresh-too s t l same low up f = record {
  new = record {
    site = subst (λ (shape : Shape). l.point.site ≡ shape.site) same.0 f.new.site;
    gear = f.new.gear ∙ same.1;
    made = f.new.made;
    above = (let e : s.drained_promise < l.point.ts = f.new.above in omega arith);
    upto = (let e : l.point.ts ≤ s.promise = f.new.upto in omega arith);
  };
  kind = kind-too s t l.kind same f.kind;
}

later : (s : GearSeen) (t : ℕ) (l : Label) → s.promise ≤ t → IsUndrained s l → IsUndrained (record s { promise = t }) l
later s t l up f = fresh-too s (record s { promise = t }) l (refl, refl) refl up f

made-kind : (s : GearSeen) (k : Kind) → IsKindHere s k → is_made k ≡ true
made-kind s (Update items) here = refl
made-kind s (Move j) here = refl
made-kind s Pulse here = absurd here
made-kind s (Close e) here = absurd here

-- a point of a later timestamp is greater
above : (p q : Point) → p.ts < q.ts → point_lt p q ≡ true
above p q less = grind (arith, nat_tests)

fresh-more : (s : GearSeen) (l : Label) → IsGear s → IsNextStamp s l → IsKindHere s l.kind → (m : Label) → In (s.fresh ++ l ∷ []) m → IsUndrained (record s { promise = l.point.ts }) m
fresh-more s l g next here m i = elim (In-parts s.fresh (l ∷ []) m i) [
  | inl old ↦ later s l.point.ts m (let a : s.promise < l.point.ts = next.above in omega arith) (g.fresh m old)
  | inr (inl e) ↦ subst (λ (n : Label). IsUndrained (record s { promise = l.point.ts }) n) e (record {
    new = record { site = next.site; gear = next.gear; made = made-kind s l.kind here; above = (let a : s.promise < l.point.ts = next.above in let b : s.drained_promise ≤ s.promise = g.drained_promise in omega arith); upto = let e : l.point.ts ≤ l.point.ts = omega arith in e };
    kind = kind-too s (record s { promise = l.point.ts }) l.kind (refl, refl) here;
  })
  | inr (inr none) ↦ absurd none
]

rises-more : (s : GearSeen) (l : Label) → IsGear s → IsNextStamp s l → Rises (s.fresh ++ l ∷ [])
rises-more s l g next = rises-both s.fresh (l ∷ []) g.rises ((λ m none. absurd none), tt)
    (λ x y i j. elim j [
      | inl e ↦ subst (λ (n : Label). point_lt x.point n.point ≡ true) e (above x.point l.point (let a : s.promise < l.point.ts = next.above in let b : x.point.ts ≤ s.promise = (g.fresh x i).new.upto in omega arith))
      | inr none ↦ absurd none
    ])

-- ---- payloads

still-in : (s : GearSeen) (t j : ℕ) (p : Payload) → s.promise ≤ t → IsInLane s j p → IsInLane (record s { promise = t }) j p
still-in s t j p up f = lane-too s (record s { promise = t }) j p (refl, refl) up f

no-lane : (lanes : List (List Payload)) (j : ℕ) → (j < length lanes → ⊥) → get_or lanes j [] ≡ []
no-lane [] j high = refl
no-lane (lane ∷ lanes) zero high = absurd (high (omega arith))
no-lane (lane ∷ lanes) (suc j) high = no-lane lanes j (λ h. high (omega arith))

none-in : (n : ℕ) (p : Payload) → slice_get [] n ≡ Some p → ⊥
none-in zero p e = cc
none-in (suc n) p e = cc

-- ---- the changes

pub ticks : (s : GearSeen) (t : ℕ) → IsGear s → t ≤ 2 ^ 62 → IsGear (after_tick s t)
ticks s t g few = record {
  shape = g.shape;
  gear = g.gear;
  promise = let p : s.promise ≤ 2 ^ 62 = g.promise in omega arith;
  drained_promise = let p : s.drained_promise ≤ s.promise = g.drained_promise in omega arith;
  rises = g.rises;
  fresh = λ l i. fresh-too s (after_tick s t) l (refl, refl) refl (omega arith) (g.fresh l i);
  lanes = g.lanes;
  payloads = λ j n p at. lane-too s (after_tick s t) j p (refl, refl) (omega arith) (g.payloads j n p at);
  versions = g.versions;
}

pub makes : (s : GearSeen) (l : Label) → IsGear s → IsNextStamp s l → IsKindHere s l.kind → IsGear (after_move s l)
makes s l g next here =
    let up : s.promise < l.point.ts = next.above in record {
      shape = g.shape;
      gear = g.gear;
      promise = next.upto;
      drained_promise = let p : s.drained_promise ≤ s.promise = g.drained_promise in omega arith;
      rises = rises-more s l g next;
      fresh = λ m i. fresh-too (record s { promise = l.point.ts }) (after_move s l) m (refl, refl) refl (omega arith) (fresh-more s l g next here m i);
      lanes = g.lanes;
      payloads = λ j n p at. lane-too s (after_move s l) j p (refl, refl) (omega arith) (g.payloads j n p at);
      versions = g.versions;
    }

-- an update that the gear stamps next, with a value for each of its items
pub record IsUpdateOf (s : GearSeen) (items : Items) (p : Payload) : Type 0 where
  pub next : IsNextStamp s p.label
  pub kind : p.label.kind ≡ Update items
  pub here : AreItemsOf s (list_of items)
  pub values : (values : List (List ℕ)) × (p.values ≡ map Some values) × (length values ≡ length (list_of items))

in-lanes : (s : GearSeen) (items : Items) (p : Payload) → IsGear s → IsUpdateOf s items p → (j n : ℕ) (q : Payload) →
    slice_get (get_or (lanes_from s.shape.interest p 0 s.lanes) j []) n ≡ Some q → IsInLane (record s { promise = p.label.point.ts }) j q
in-lanes s items p g update j n q at = elim (less-or-not j (length s.lanes)) [
  | inl low ↦ go (is_for s.shape.interest p.label j) refl (lanes-get (is_for s.shape.interest p.label) p 0 s.lanes j low ∙ ap (λ (k : ℕ). if is_for s.shape.interest p.label k then lane_to s j ++ p ∷ [] else lane_to s j) (zero-add j))
  | inr high ↦ absurd (none-in n q (subst (λ (lane : List Payload). slice_get lane n ≡ Some q) (no-lane (lanes_from s.shape.interest p 0 s.lanes) j (λ h. high (subst (λ (k : ℕ). j < k) (lanes-length (is_for s.shape.interest p.label) p 0 s.lanes) h))) at))
]
  where
    up : s.promise ≤ p.label.point.ts
    up = let a : s.promise < p.label.point.ts = update.next.above in omega arith

    new : is_for s.shape.interest p.label j ≡ true → IsInLane (record s { promise = p.label.point.ts }) j p
    new target = record {
      site = update.next.site;
      gear = update.next.gear;
      kind = (items, update.kind, items-too s (record s { promise = p.label.point.ts }) (list_of items) (refl, refl) update.here);
      values = (update.values.0, update.values.1, update.values.2 ∙ ap (λ (k : Kind). length (kind_numbers k)) (sym update.kind));
      target = target;
      upto = let e : p.label.point.ts ≤ p.label.point.ts = omega arith in e;
    }

    go : (b : Bool) → is_for s.shape.interest p.label j ≡ b → get_or (lanes_from s.shape.interest p 0 s.lanes) j [] ≡ (if is_for s.shape.interest p.label j then lane_to s j ++ p ∷ [] else lane_to s j) → IsInLane (record s { promise = p.label.point.ts }) j q
    go true target lane = elim (slice-more (lane_to s j) p q n (subst (λ (ls : List Payload). slice_get ls n ≡ Some q) (lane ∙ ap (λ (b : Bool). if b then lane_to s j ++ p ∷ [] else lane_to s j) target) at)) [
      | inl old ↦ still-in s p.label.point.ts j q up (g.payloads j n q old)
      | inr same ↦ subst (λ (r : Payload). IsInLane (record s { promise = p.label.point.ts }) j r) (sym same) (new target)
    ]
    go false target lane = still-in s p.label.point.ts j q up (g.payloads j n q (subst (λ (ls : List Payload). slice_get ls n ≡ Some q) (lane ∙ ap (λ (b : Bool). if b then lane_to s j ++ p ∷ [] else lane_to s j) target) at))

pub writes : (s : GearSeen) (items : Items) (p : Payload) → IsGear s → IsUpdateOf s items p → IsGear (after_write s p)
writes s items p g update =
    let up : s.promise < p.label.point.ts = update.next.above in record {
      shape = g.shape;
      gear = g.gear;
      promise = update.next.upto;
      drained_promise = let p : s.drained_promise ≤ s.promise = g.drained_promise in omega arith;
      rises = rises-more s p.label g update.next;
      fresh = λ m i. fresh-too (record s { promise = p.label.point.ts }) (after_write s p) m (refl, refl) refl (omega arith) (fresh-more s p.label g update.next (subst (λ (k : Kind). IsKindHere s k) (sym update.kind) update.here) m i);
      lanes = lanes-length (is_for s.shape.interest p.label) p 0 s.lanes ∙ g.lanes;
      payloads = λ j n q at. lane-too (record s { promise = p.label.point.ts }) (after_write s p) j q (refl, refl) (omega arith) (in-lanes s items p g update j n q at);
      versions = g.versions;
    }

pub shows : (s : GearSeen) (x : ℕ) (v : Version) → IsGear s → IsGear (after_show s x v)
shows s x v g = record {
  shape = g.shape;
  gear = g.gear;
  promise = g.promise;
  drained_promise = g.drained_promise;
  rises = g.rises;
  fresh = λ l i. fresh-too s (after_show s x v) l (refl, refl) refl (omega arith) (g.fresh l i);
  lanes = g.lanes;
  payloads = λ j n q at. lane-too s (after_show s x v) j q (refl, refl) (omega arith) (g.payloads j n q at);
  versions = length-set s.versions _ _ ∙ g.versions;
}

pub drains : (s : GearSeen) → IsGear s → IsGear (after_drain s)
drains s g = record {
  shape = g.shape;
  gear = g.gear;
  promise = g.promise;
  drained_promise = let e : s.promise ≤ s.promise = omega arith in e;
  rises = tt;
  fresh = λ l none. absurd none;
  lanes = g.lanes;
  payloads = λ j n p at. lane-too s (after_drain s) j p (refl, refl) (omega arith) (g.payloads j n p at);
  versions = g.versions;
}

none-lanes : (n j : ℕ) → get_or (replicate {A = List Payload} n []) j [] ≡ []
none-lanes zero j = refl
none-lanes (suc n) zero = refl
none-lanes (suc n) (suc j) = none-lanes n j

pub starts : (shape : Shape) (gear : ℕ) → IsShape shape → gear < shape.gears → IsGear (fresh_gear shape gear)
starts shape gear is low = record {
  shape = is;
  gear = low;
  promise = omega arith;
  drained_promise = omega arith;
  rises = tt;
  fresh = λ l none. absurd none;
  lanes = length-replicate shape.sites [];
  payloads = λ j n p at. absurd (none-in n p (subst (λ (lane : List Payload). slice_get lane n ≡ Some p) (none-lanes shape.sites j) at));
  versions = length-replicate (places (length shape.interest.replicas) shape.gears) None;
}

pub each-lane : EachLane
each-lane = record {
  lanes = λ a p lanes j low. lanes-get (is_for a p.label) p 0 lanes j low ∙ ap (λ (k : ℕ). if is_for a p.label k then get_or lanes j [] ++ p ∷ [] else get_or lanes j []) (zero-add j);
  count = λ a p lanes. lanes-length (is_for a p.label) p 0 lanes;
}

-- ---- the same over what the fields became

pub ticked-by : (s : GearSeen) (t p : ℕ) → IsGear s → t ≤ 2 ^ 62 → p ≡ max s.promise t → IsGear (record s { promise = p })
ticked-by s t p g few e = subst (λ (q : ℕ). IsGear (record s { promise = q })) (sym e) (ticks s t g few)

pub drained-by : (s : GearSeen) (labels : List Label) → IsGear s → labels ≡ [] → IsGear (record s { drained_promise = s.promise; fresh = labels })
drained-by s labels g e = subst (λ (ls : List Label). IsGear (record s { drained_promise = s.promise; fresh = ls })) (sym e) (drains s g)

pub kept-by : (s : GearSeen) (labels : List Label) → IsGear s → labels ≡ s.fresh → IsGear (record s { fresh = labels })
kept-by s labels g e = subst (λ (ls : List Label). IsGear (record s { fresh = ls })) (sym e) g

pub made-by : (s : GearSeen) (l : Label) (labels : List Label) → IsGear s → IsNextStamp s l → IsKindHere s l.kind → labels ≡ s.fresh ++ l ∷ [] → IsGear (record s { promise = l.point.ts; fresh = labels })
made-by s l labels g next here e = subst (λ (ls : List Label). IsGear (record s { promise = l.point.ts; fresh = ls })) (sym e) (makes s l g next here)

pub shown-by : (s : GearSeen) (x : ℕ) (v : Version) (versions : List (Option Version)) → IsGear s → versions ≡ (after_show s x v).versions → IsGear (record s { versions = versions })
shown-by s x v versions g e = subst (λ (vs : List (Option Version)). IsGear (record s { versions = vs })) (sym e) (shows s x v g)

pub written : (s : GearSeen) (p : Payload) (labels : List Label) (lanes : List (List Payload)) →
    labels ≡ s.fresh ++ p.label ∷ [] → lanes ≡ lanes_from s.shape.interest p 0 s.lanes →
    record s { promise = p.label.point.ts; fresh = labels; lanes = lanes } ≡ after_write s p
written s p labels lanes a b =
    ap (λ (ls : List Label). record s { promise = p.label.point.ts; fresh = ls; lanes = lanes }) a
    ∙ ap (λ (ps : List (List Payload)). record s { promise = p.label.point.ts; fresh = s.fresh ++ p.label ∷ []; lanes = ps }) b

-- the lanes and the numbers of a set of sites are those of a label's targets
pub same-lanes : (test other : ℕ → Bool) (p : Payload) (k : ℕ) (lanes : List (List Payload)) → ((j : ℕ) → test j ≡ other j) → lanes_where test p k lanes ≡ lanes_where other p k lanes
same-lanes test other p k [] same = refl
same-lanes test other p k (lane ∷ lanes) same =
    ap (λ (b : Bool). (if b then lane ++ p ∷ [] else lane) ∷ lanes_where test p (k + 1) lanes) (same k)
    ∙ ap (λ (rest : List (List Payload)). (if other k then lane ++ p ∷ [] else lane) ∷ rest) (same-lanes test other p (k + 1) lanes same)

pub same-numbers : (test other : ℕ → Bool) (k : ℕ) (lanes : List (List Payload)) → ((j : ℕ) → test j ≡ other j) → numbers_where test k lanes ≡ numbers_where other k lanes
same-numbers test other k [] same = refl
same-numbers test other k (lane ∷ lanes) same =
    ap (λ (b : Bool). if b then length lane ∷ numbers_where test (k + 1) lanes else numbers_where test (k + 1) lanes) (same k)
    ∙ ap (λ (rest : List ℕ). if other k then length lane ∷ rest else rest) (same-numbers test other (k + 1) lanes same)

-- what a write leaves, over what the fields became
pub record Written (s : GearSeen) (p : Payload) (t : GearSeen) : Type 0 where
  pub gear : IsGear t
  pub is : t ≡ after_write s p

pub written-by : (v s : GearSeen) (items : Items) (p : Payload) (test : ℕ → Bool) (labels : List Label) (lanes : List (List Payload)) →
    v ≡ s → IsGear v → IsUpdateOf s items p → ((k : ℕ) → test k ≡ is_for v.shape.interest p.label k) →
    labels ≡ v.fresh ++ p.label ∷ [] → lanes ≡ lanes_where test p 0 v.lanes →
    Written s p (record v { promise = p.label.point.ts; fresh = labels; lanes = lanes })
written-by v s items p test labels lanes same g update targets a b =
    let is : record v { promise = p.label.point.ts; fresh = labels; lanes = lanes } ≡ after_write v p =
    written v p labels lanes a (b ∙ same-lanes test (is_for v.shape.interest p.label) p 0 v.lanes targets) in
    record {
      gear = subst (λ (t : GearSeen). IsGear t) (sym is) (writes v items p g (subst (λ (t : GearSeen). IsUpdateOf t items p) (sym same) update));
      is = is ∙ ap (λ (t : GearSeen). after_write t p) same;
    }

pub kept-lanes : (s : GearSeen) (labels : List Label) (lanes : List (List Payload)) → IsGear s → labels ≡ s.fresh → lanes ≡ s.lanes → IsGear (record s { fresh = labels; lanes = lanes })
kept-lanes s labels lanes g a b =
    subst (λ (ls : List Label). IsGear (record s { fresh = ls; lanes = lanes })) (sym a) (subst (λ (ps : List (List Payload)). IsGear (record s { lanes = ps })) (sym b) g)

pub started-by : (shape other : Shape) (gear places-count : ℕ) (labels : List Label) (lanes : List (List Payload)) (versions : List (Option Version)) →
    shape ≡ other → IsShape other → gear < other.gears → labels ≡ [] → lanes ≡ replicate shape.sites [] → versions ≡ replicate places-count None → places-count ≡ places (length shape.interest.replicas) shape.gears →
    IsGear (record { shape = shape; gear = gear; promise = 0; drained_promise = 0; fresh = labels; lanes = lanes; versions = versions })
started-by shape other gear count labels lanes versions same is low a b c d =
    let e : record { shape = shape; gear = gear; promise = 0; drained_promise = 0; fresh = labels; lanes = lanes; versions = versions } ≡ fresh_gear shape gear =
    ap (λ (ls : List Label). record { shape = shape; gear = gear; promise = 0; drained_promise = 0; fresh = ls; lanes = lanes; versions = versions }) a
    ∙ (ap (λ (ps : List (List Payload)). record { shape = shape; gear = gear; promise = 0; drained_promise = 0; fresh = []; lanes = ps; versions = versions }) b
    ∙ ap (λ (vs : List (Option Version)). record { shape = shape; gear = gear; promise = 0; drained_promise = 0; fresh = []; lanes = replicate shape.sites []; versions = vs }) (c ∙ ap (λ (n : ℕ). replicate n None) d)) in
    subst (λ (s : GearSeen). IsGear s) (sym e) (starts shape gear (subst (λ (s : Shape). IsShape s) (sym same) is) (subst (λ (s : Shape). gear < s.gears) (sym same) low))
