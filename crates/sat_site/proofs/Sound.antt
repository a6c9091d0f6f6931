-- What is true of each site stays so.
use Rattle.std.specs.Prelude.{◌≡◌, ◌<◌, ◌≤◌, ℕ, zero, suc, Bool, true, false, ◌==◌, ◌&&◌, not, List, [], ◌∷◌, length, map, set, get_or, Some, slice_get, refl}
use Rattle.std.proofs.Common.{subst, ap, sym, ◌∙◌, inl, inr}
use Rattle.std.proofs.lemmas.List.{length-map, length-set}
use Rattle.sat_site.proofs.Equals.{eqb-self, eqb-comm}
use Rattle.sat_label.specs.declared.label.Label.{Label}
use Rattle.sat_label.specs.declared.items.Items.{Items}
use Rattle.sat_label.specs.declared.label.Kind.{Kind}
use Rattle.sat_label.specs.declared.label.Kind.TheVariants.{Update, Move}
use Rattle.sat_label.specs.declared.point.Point.{Point}
use Rattle.sat_label.specs.Grouped.{list_of}
use Rattle.sat_bulk.specs.declared.Drained.{Drained}
use Rattle.sat_label.specs.Members.{In}
use Rattle.sat_bulk.specs.Drains.{IsNew}
use Rattle.sat_label.proofs.Members.{In-parts}
use Rattle.sat_sites.specs.declared.shape.Shape.{Shape}
use Rattle.sat_sites.specs.Interested.{Interested, is_for, keeps_one, AreBelow}
use Rattle.sat_label.specs.Versions.{Version}
use Rattle.sat_gear.specs.Gear.{GearSeen, IsGear, after_tick, after_move, after_write, after_show, payload_with, stamped, after_drain, drained_of}
use Rattle.sat_sink.specs.Pending.{labels_of, promise_of}
use Rattle.sat_sink.specs.Sink.{Sink, IsDrain, IsDrainOf, after_gather}
use Rattle.sat_sink.proofs.Queues.{joined-get, length-joined}
use Rattle.sat_site.specs.Seen.{SiteSeen, AreGears, IsSite, IsGearAt, IsMadeHere}
use Rattle.sat_site.specs.Changes.{with_gear, gathered_all, counts_of, clocked, ticked_to, HasGear}
use Rattle.sat_hub.proofs.Lists.{set-cases, map-cases, Mapped, get-within}
use Rattle.sat_site.proofs.Gathers.{promise-at, labels-at, each-gear, length-drained}

-- ---- one gear

set-gears : (gears : List GearSeen) (g : ℕ) (new : GearSeen) → AreGears gears → IsGear new → AreGears (set gears g new)
set-gears gears g new old good m gear at = elim (set-cases gears g m new gear at) [ inl w ↦ subst IsGear w.0 good | inr w ↦ old m gear w.0 ]

pub with-gear-site : (x : SiteSeen) (g : ℕ) (new : GearSeen) → IsSite x → IsGearAt x.shape x.sink g new → IsGear new → IsSite (with_gear x g new)
with-gear-site x g new k a good = record {
  shape = k.shape;
  gears = record {
    count = length-set x.gears g new ∙ k.gears.count;
    each = λ m gear at. elim (set-cases x.gears g m new gear at) [
      | inl w ↦ subst (λ (y : GearSeen). IsGearAt x.shape x.sink m y) w.0 (subst (λ (n : ℕ). IsGearAt x.shape x.sink n new) (sym w.1) a)
      | inr w ↦ k.gears.each m gear w.0
    ];
    are = set-gears x.gears g new k.gears.are good;
  };
  sink = k.sink;
  counts = k.counts;
  views = k.views;
  proxy = k.proxy;
  made = k.made;
}

pub ticked-gear : (shape : Shape) (sink : Sink) (g t : ℕ) (gear : GearSeen) → IsGearAt shape sink g gear → IsGearAt shape sink g (after_tick gear t)
ticked-gear shape sink g t gear a = record { shape = a.shape; number = a.number; gathered = a.gathered; fresh = a.fresh; pending = a.pending }

pub shown-gear : (shape : Shape) (sink : Sink) (g k : ℕ) (gear : GearSeen) (v : Version) → IsGearAt shape sink g gear → IsGearAt shape sink g (after_show gear k v)
shown-gear shape sink g k gear v a = record { shape = a.shape; number = a.number; gathered = a.gathered; fresh = a.fresh; pending = a.pending }

-- an update is not for its own site
away-from : (a : Interested) (l : Label) (items : Items) (k : ℕ) → l.kind ≡ Update items → l.point.site ≡ k → is_for a l k ≡ false
unfolding is_for
away-from a l items k kind own =
    ap (λ (kind : Kind). is_for a (record { point = l.point; kind = kind }) k) kind ∙ go (keeps_one a (list_of items) k) (k == l.point.site) (ap (λ (m : ℕ). k == m) own ∙ eqb-self k)
  where
    go : (b c : Bool) → c ≡ true → (b && not c) ≡ false
    go true c e = ap not e
    go false c e = refl

pub wrote-gear : (shape : Shape) (sink : Sink) (g : ℕ) (gear : GearSeen) (seen : Point) (items : Items) (values : List (List ℕ)) → IsGearAt shape sink g gear → AreBelow (length shape.interest.replicas) (list_of items) →
    IsGearAt shape sink g (after_write gear (payload_with (stamped gear seen (Update items)) values))
wrote-gear shape sink g gear seen items values a known = record {
  shape = a.shape;
  number = a.number;
  gathered = a.gathered;
  fresh = λ l i. elim (In-parts gear.fresh (stamped gear seen (Update items) ∷ []) l i) [
    | inl old ↦ a.fresh l old
    | inr new ↦ elim new [
      | inl w ↦ subst (IsMadeHere shape) w (record { site = (λ j. (a.shape j).site); kind = known; made = refl; away = away-from shape.interest (stamped gear seen (Update items)) items shape.site refl (λ j. (a.shape j).site) })
      | inr w ↦ absurd w
    ]
  ];
  pending = a.pending;
}

-- a move is not for its own site
moves-away : (a : Interested) (l : Label) (j k : ℕ) → l.kind ≡ Move j → (j == k) ≡ false → is_for a l k ≡ false
unfolding is_for
moves-away a l j k kind other = ap (λ (kind : Kind). is_for a (record { point = l.point; kind = kind }) k) kind ∙ (eqb-comm k j ∙ other)

pub moved-gear : (shape : Shape) (sink : Sink) (g j : ℕ) (gear : GearSeen) (seen : Point) → IsGearAt shape sink g gear → j < shape.interest.sites → (j == shape.site) ≡ false → IsGearAt shape sink g (after_move gear (stamped gear seen (Move j)))
moved-gear shape sink g j gear seen a lt other = record {
  shape = a.shape;
  number = a.number;
  gathered = a.gathered;
  fresh = λ l i. elim (In-parts gear.fresh (stamped gear seen (Move j) ∷ []) l i) [
    | inl old ↦ a.fresh l old
    | inr new ↦ elim new [
      | inl w ↦ subst (IsMadeHere shape) w (record { site = (λ i. (a.shape i).site); kind = lt; made = refl; away = moves-away shape.interest (stamped gear seen (Move j)) j shape.site refl other })
      | inr w ↦ absurd w
    ]
  ];
  pending = a.pending;
}

-- ---- all gears

pub clocked-site : (x : SiteSeen) (t : ℕ) → IsSite x → AreGears (map (ticked_to t) x.gears) → IsSite (clocked x t)
clocked-site x t k good = record {
  shape = k.shape;
  gears = record {
    count = length-map x.gears (ticked_to t) ∙ k.gears.count;
    each = λ m gear at.
        let w : Mapped (ticked_to t) x.gears m gear = map-cases (ticked_to t) x.gears m gear at in
        subst (IsGearAt x.shape x.sink m) w.is (ticked-gear x.shape x.sink m t w.old (k.gears.each m w.old w.at));
    are = good;
  };
  sink = k.sink;
  counts = k.counts;
  views = k.views;
  proxy = k.proxy;
  made = k.made;
}

drained-at : (gears : List GearSeen) (g : ℕ) (gear : GearSeen) (d : Drained) → slice_get gears g ≡ Some gear → get_or (map drained_of gears) g d ≡ drained_of gear
drained-at gears g gear d at = go gears g at
  where
    go : (gears : List GearSeen) (g : ℕ) → slice_get gears g ≡ Some gear → get_or (map drained_of gears) g d ≡ drained_of gear
    go [] g at = absurd (cc)
    go (y ∷ gears) zero at = let e : y ≡ gear = cc in ap drained_of e
    go (y ∷ gears) (suc g) at = go gears g at

-- what is drained of a gear is what the sink asks for
drain-of : (x : SiteSeen) (g : ℕ) (gear : GearSeen) → IsSite x → HasGear x g gear → IsGear gear → IsDrainOf x.sink g (drained_of gear)
drain-of x g gear k at good =
    let a : IsGearAt x.shape x.sink g gear = k.gears.each g gear at in
    record {
      promise = subst (λ (n : ℕ). n ≤ gear.promise) (sym a.gathered) good.drained_promise;
      rises = good.rises;
      labels = λ l i.
          let n : IsNew gear.shape.site gear.gear gear.drained_promise gear.promise l = (good.fresh l i).new in
          record {
            site = n.site ∙ ((λ j. (a.shape j).site) ∙ sym k.sink.own);
            gear = n.gear ∙ a.number;
            made = n.made;
            above = subst (λ (m : ℕ). m < l.point.ts) (sym a.gathered) n.above;
            upto = n.upto;
          };
    }

pub drains : (x : SiteSeen) → IsSite x → IsDrain x.sink (map drained_of x.gears)
drains x k = record {
  count = length-map x.gears drained_of ∙ (k.gears.count ∙ sym k.sink.promises);
  each = λ g d lt.
      let y = each-gear x g (subst (λ (n : ℕ). g < n) (length-map x.gears drained_of) lt) in
      subst (IsDrainOf x.sink g) (sym (drained-at x.gears g y.0 d y.1)) (drain-of x g y.0 k y.1 (k.gears.are g y.0 y.1));
}

pub gathered-site : (x : SiteSeen) → IsSite x → AreGears (map after_drain x.gears) → IsSite (gathered_all x)
gathered-site x k good = record {
  shape = k.shape;
  gears = record {
    count = length-map x.gears after_drain ∙ k.gears.count;
    each = λ g gear at.
        let w : Mapped after_drain x.gears g gear = map-cases after_drain x.gears g gear at in
        let a : IsGearAt x.shape x.sink g w.old = k.gears.each g w.old w.at in
        let lt : g < length x.sink.pending = subst (λ (n : ℕ). g < n) (k.gears.count ∙ sym k.sink.rows) (get-within x.gears g w.old w.at) in
        subst (IsGearAt x.shape (after_gather x.sink (map drained_of x.gears)) g) w.is (record {
          shape = a.shape;
          number = a.number;
          gathered = promise-at x.gears g w.old w.at;
          fresh = λ l i. absurd i;
          pending = λ l i. elim (In-parts (get_or x.sink.pending g []) (get_or (map labels_of (map drained_of x.gears)) g []) l (subst (λ (ls : List Label). In ls l) (joined-get x.sink.pending (map labels_of (map drained_of x.gears)) g lt) i)) [
            | inl old ↦ a.pending l old
            | inr new ↦ a.fresh l (subst (λ (ls : List Label). In ls l) (labels-at x.gears g w.old w.at) new)
          ];
        });
    are = good;
  };
  sink = record {
    own = k.sink.own;
    promises = length-drained promise_of x.gears ∙ k.gears.count;
    rows = length-joined x.sink.pending (map labels_of (map drained_of x.gears)) ∙ k.sink.rows;
    last = k.sink.last;
  };
  counts = length-drained counts_of x.gears ∙ k.gears.count;
  views = k.views;
  proxy = k.proxy;
  made = k.made;
}
