-- The gears of a site stay what they are to be.
use Rattle.std.proofs.Common.{◌≡◌, ◌<◌, ◌≤◌, ◌%◌, ◌+◌, ◌^◌, ◌==◌, ℕ, Bool, true, false, max, List, [], ◌∷◌, length, map, slice_get, Option, Some, None, refl, sym, subst, arith}
use Rattle.std.proofs.lemmas.Bool.{leb-false}
use Rattle.sat_label.specs.declared.carried.Carried.{Carried}
use Rattle.sat_label.specs.declared.items.Items.{Items}
use Rattle.sat_label.specs.declared.label.Kind.{Kind}
use Rattle.sat_label.specs.declared.label.Kind.TheVariants.{Update, Move, Pulse, Close}
use Rattle.sat_label.specs.declared.label.Label.{Label}
use Rattle.sat_label.specs.declared.point.Point.{Point}
use Rattle.sat_label.specs.Grouped.{list_of}
use Rattle.sat_label.specs.Versions.{Version}
use Rattle.sat_bulk.specs.Payloads.{Payload}
use Rattle.sat_sites.specs.Interested.{AreBelow, keeps}
use Rattle.sat_sites.specs.declared.shape.Shape.{Shape}
use Rattle.sat_gear.specs.Gear.{GearSeen, IsGear, IsNextStamp, after_drain, after_show, after_tick, after_write, is_spent, payload_with, stamp_base, stamped}
use Rattle.sat_gear.proofs.Gears.{drains, makes, shows, ticks, writes}
use Rattle.sat_hub.proofs.Lists.{get-default, get-within, map-cases, Mapped}
use Rattle.sat_site.specs.Changes.{gathered_all, gear_for, HasGear}
use Rattle.sat_site.specs.Seen.{AreGears, IsGearAt, IsSite, SiteSeen}
use Rattle.sat_site.specs.SiteSteps.{keeps_each, move_after, moved_gear, show_some, shown_at, shown_by, shown_each, shown_of, stamp_after_of, stamped_by, tick_after, write_after}
use Rattle.sat_site.proofs.Changed.{move-site}
use Rattle.sat_site.proofs.Deeds.{items-here}
use Rattle.sat_site.proofs.Sound.{gathered-site, shown-gear, ticked-gear, with-gear-site, wrote-gear}

-- ---- a tick

pub ticked-site : (x : SiteSeen) (g t : ℕ) → IsSite x → t ≤ 2 ^ 62 → IsSite (tick_after x g t (slice_get x.gears g))
ticked-site x g t k few = go (slice_get x.gears g) refl
  where
    go : (o : Option GearSeen) → slice_get x.gears g ≡ o → IsSite (tick_after x g t o)
    go None e = k
    go (Some gear) e = with-gear-site x g (after_tick gear t) k (ticked-gear x.shape x.sink g t gear (k.gears.each g gear e)) (ticks gear t (k.gears.are g gear e) few)

-- ---- an update that is shown

by-gear : (x : SiteSeen) (g k : ℕ) (l : Label) (p : Option (List ℕ)) (o : Option GearSeen) → IsSite x → slice_get x.gears g ≡ o → IsSite (record x { gears = shown_by x.gears g l k p o })
by-gear x g k l None o site e = site
by-gear x g k l (Some value) None site e = site
by-gear x g k l (Some value) (Some gear) site e =
    let v : Version = record { label = l; value = value } in
    with-gear-site x g (after_show gear k v) site (shown-gear x.shape x.sink g k gear v (site.gears.each g gear e)) (shows gear k v (site.gears.are g gear e))

at-item : (x : SiteSeen) (b : Bool) (l : Label) (k : ℕ) (p : Option (List ℕ)) → IsSite x → IsSite (record x { gears = shown_at b x.shape x.gears l k p })
at-item x false l k p site = site
at-item x true l k p site = by-gear x (k % x.shape.gears) k l p (slice_get x.gears (k % x.shape.gears)) site refl

each-item : (x : SiteSeen) (l : Label) (ks : List ℕ) (ps : List (Option (List ℕ))) → IsSite x → IsSite (record x { gears = shown_each x.shape x.gears l ks ps })
unfolding shown_each
each-item x l [] ps site = site
each-item x l (k ∷ ks) [] site = site
each-item x l (k ∷ ks) (p ∷ ps) site =
    each-item (record x { gears = shown_at (keeps x.shape.interest k x.shape.site) x.shape x.gears l k p }) l ks ps (at-item x (keeps x.shape.interest k x.shape.site) l k p site)

of-kind : (x : SiteSeen) (p : Payload) (kind : Kind) → IsSite x → IsSite (shown_of x p kind)
of-kind x p (Update items) site = each-item x p.label (list_of items) p.values site
of-kind x p (Move j) site = site
of-kind x p Pulse site = site
of-kind x p (Close e) site = site

pub shown-site : (x : SiteSeen) (o : Option Payload) → IsSite x → IsSite (show_some x o)
shown-site x None site = site
shown-site x (Some p) site = of-kind x p p.label.kind site

-- ---- a label that a gear stamps

next-stamp : (gear : GearSeen) (seen : Point) (kind : Kind) → is_spent gear seen ≡ false → IsNextStamp gear (stamped gear seen kind)
next-stamp gear seen kind free = record {
  site = refl;
  gear = refl;
  above = over gear.promise seen.ts;
  upto = under (stamp_base gear seen) (leb-false (2 ^ 62) (stamp_base gear seen) free);
}
  where
    over : (a b : ℕ) → a < max a b + 1
    over a b = omega arith

    under : (n : ℕ) → n < 2 ^ 62 → n + 1 ≤ 2 ^ 62
    under n lt = omega arith

-- ---- a move

pub moved-site : (x : SiteSeen) (seen : Carried) (j : ℕ) → IsSite x → j < x.shape.sites → IsSite (move_after x (j == x.shape.site) (slice_get x.gears 0) seen j)
moved-site x seen j k low = go (j == x.shape.site) refl (slice_get x.gears 0) refl
  where
    fine : (gear : GearSeen) (b : Bool) → is_spent gear seen.point ≡ b → HasGear x 0 gear → IsGear (moved_gear b gear (stamped gear seen.point (Move j)))
    fine gear true e at = k.gears.are 0 gear at
    fine gear false e at =
        let a : IsGearAt x.shape x.sink 0 gear = k.gears.each 0 gear at in
        makes gear (stamped gear seen.point (Move j)) (k.gears.are 0 gear at) (next-stamp gear seen.point (Move j) e) (subst (λ (s : Shape). j < s.sites) (sym a.shape) low, a.number)

    go : (b : Bool) → (j == x.shape.site) ≡ b → (o : Option GearSeen) → slice_get x.gears 0 ≡ o → IsSite (move_after x b o seen j)
    go true e o at = k
    go false e None at = k
    go false e (Some gear) at =
        move-site x gear (moved_gear (is_spent gear seen.point) gear (stamped gear seen.point (Move j))) seen j k (get-within x.gears 0 gear at) (sym (get-default x.gears 0 gear gear at)) low e refl (fine gear (is_spent gear seen.point) refl at)

-- ---- a write

stamped-site : (x : SiteSeen) (gear : GearSeen) (seen : Point) (items : Items) (values : List (List ℕ)) → IsSite x → HasGear x (gear_for x items) gear → is_spent gear seen ≡ false → AreBelow (length x.shape.interest.replicas) (list_of items) → length values ≡ length (list_of items) →
    keeps_each x (list_of items) ≡ true → IsSite (stamped_by x gear seen items values)
stamped-site x gear seen items values k at free known many kept =
    with-gear-site x (gear_for x items) (after_write gear p) k (wrote-gear x.shape x.sink (gear_for x items) gear seen items values (k.gears.each (gear_for x items) gear at) known)
    (writes gear items p (k.gears.are (gear_for x items) gear at) (record {
      next = next-stamp gear seen (Update items) free;
      kind = refl;
      here = items-here x x (gear_for x items) items gear refl k refl (sym (get-default x.gears (gear_for x items) gear gear at)) known kept;
      values = (values, refl, many);
    }))
  where
    p : Payload
    p = payload_with (stamped gear seen (Update items)) values

pub written-site : (x : SiteSeen) (seen : Point) (items : Items) (values : List (List ℕ)) → IsSite x → AreBelow (length x.shape.interest.replicas) (list_of items) → length values ≡ length (list_of items) →
    IsSite (write_after x (keeps_each x (list_of items)) (slice_get x.gears (gear_for x items)) seen items values)
written-site x seen items values k known many = go (keeps_each x (list_of items)) refl (slice_get x.gears (gear_for x items)) refl
  where
    free-or-not : (gear : GearSeen) (b : Bool) → is_spent gear seen ≡ b → HasGear x (gear_for x items) gear → keeps_each x (list_of items) ≡ true → IsSite (stamp_after_of x b gear seen items values)
    free-or-not gear true e at kept = k
    free-or-not gear false e at kept = each-item (stamped_by x gear seen items values) (stamped gear seen (Update items)) (list_of items) (map Some values) (stamped-site x gear seen items values k at e known many kept)

    go : (b : Bool) → keeps_each x (list_of items) ≡ b → (o : Option GearSeen) → slice_get x.gears (gear_for x items) ≡ o → IsSite (write_after x b o seen items values)
    go false e o at = k
    go true e None at = k
    go true e (Some gear) at = free-or-not gear (is_spent gear seen) refl at e

-- ---- a gather

drained-gears : (gears : List GearSeen) → AreGears gears → AreGears (map after_drain gears)
drained-gears gears are g gear at =
    let w : Mapped after_drain gears g gear = map-cases after_drain gears g gear at in
    subst (λ (s : GearSeen). IsGear s) w.is (drains w.old (are g w.old w.at))

pub gathers-site : (x : SiteSeen) → IsSite x → IsSite (gathered_all x)
gathers-site x k = gathered-site x k (drained-gears x.gears k.gears.are)
