-- What a site shows is what the machine keeps.
use Rattle.std.specs.Prelude.{◌≡◌, ◌<◌, ◌%◌, ℕ, true, false, List, length, take, drop, Option, Some, None, slice_get, IfOk, IfSome, IsNone, MatchOption}
use Rattle.std.proofs.Common.{Bor, Result, Ok, Err, subst, ap, sym, ◌∙◌}
use Rattle.sat_bulk.specs.Payloads.{Payload}
use Rattle.sat_label.specs.declared.label.Kind.{Kind}
use Rattle.sat_label.specs.Order.{kind_numbers}
use Rattle.sat_sites.specs.declared.shape.Shape.{Shape}
use Rattle.sat_label.specs.Grouped.{list_of}
use Rattle.sat_sites.specs.Interested.{is_for, AreBelow}
use Rattle.sat_label.specs.Versions.{Version}
use Rattle.sat_gear.specs.Gear.{GearSeen, IsGear, IsInLane, lane_to, version_of}
use Rattle.sat_act.specs.Deployed.{Deployed}
use Rattle.sat_act.specs.Parts.{items_of, replicates}
use Rattle.sat_model.specs.State.{SiteState}
use Rattle.sat_model.specs.Look.{front_of}
use Rattle.sat_proxy.specs.Proxy.{front_at}
use Rattle.sat_proxy.proofs.SameLanes.{front-same}
use Rattle.sat_site.specs.Seen.{SiteSeen, IsSite, IsGearAt}
use Rattle.sat_site.specs.Stands.{StandsSite, version_seen}
use Rattle.sat_site.specs.Changes.{HasGear}
use Rattle.sat_site.specs.SiteSteps.{keeps_item}
use Rattle.sat_site.specs.Gives.{IsOfLane}
use Rattle.sat_site.proofs.Interests.{keeps-here}
use Rattle.sat_site.proofs.Parts.{sites-are}
use Rattle.sat_hub.proofs.Lists.{same-get}
use Rattle.sat_site.proofs.Writes.{shows-none, shows-some}

pub no-version : (d : Deployed) (i : ℕ) (x : SiteSeen) (s : SiteState) (g n : ℕ) (gear : GearSeen) → HasGear x g gear → g ≡ n % x.shape.gears → n < length x.shape.interest.replicas → keeps_item x n ≡ true → StandsSite d i x s → version_of gear n ≡ None → s.store n ≡ None
no-version d i x s g n gear at e item kept st none = shows-none d i x s n gear item kept (subst (λ (g : ℕ). HasGear x g gear) e at) none st

pub some-version : (d : Deployed) (i : ℕ) (x : SiteSeen) (s : SiteState) (g n : ℕ) (gear : GearSeen) (v : Version) → HasGear x g gear → g ≡ n % x.shape.gears → n < length x.shape.interest.replicas → keeps_item x n ≡ true → StandsSite d i x s → version_of gear n ≡ Some v → s.store n ≡ version_seen (Some v)
some-version d i x s g n gear v at e item kept st some = shows-some d i x s n gear v item kept (subst (λ (g : ℕ). HasGear x g gear) e at) some st

-- the lane of a gear is the machine's
pub lane-same : (d : Deployed) (i : ℕ) (x : SiteSeen) (s : SiteState) (g to n : ℕ) (gear : GearSeen) (o : Option Payload) → HasGear x g gear → to < x.shape.sites → StandsSite d i x s → slice_get (lane_to gear to) n ≡ o → slice_get ((s.gears g).lanes to) n ≡ o
lane-same d i x s g to n gear o at lt st e = ap (λ (ps : List Payload). slice_get ps n) (sym ((st.gears.each g gear at).lanes to (subst (λ (m : ℕ). to < m) (sites-are d i x s st) lt))) ∙ e

-- so are copies of a part of it
copies-same : (d : Deployed) (i : ℕ) (x : SiteSeen) (s : SiteState) (g to n most : ℕ) (gear : GearSeen) (ps : List Payload) → HasGear x g gear → to < x.shape.sites → StandsSite d i x s → ps ≡ take most (drop n (lane_to gear to)) → ps ≡ take most (drop n ((s.gears g).lanes to))
copies-same d i x s g to n most gear ps at lt st e = e ∙ ap (λ (qs : List Payload). take most (drop n qs)) ((st.gears.each g gear at).lanes to (subst (λ (m : ℕ). to < m) (sites-are d i x s st) lt))

pub copies-shown : {X E : Type 0} (r : Result X E) (items : X → List Payload) (d : Deployed) (i : ℕ) (x : SiteSeen) (s : SiteState) (g to n most : ℕ) (gear : GearSeen) → HasGear x g gear → to < x.shape.sites → StandsSite d i x s → IfOk r (λ c. items c ≡ take most (drop n (lane_to gear to))) →
    IfOk r (λ c. items c ≡ take most (drop n ((s.gears g).lanes to)))
copies-shown (Ok c) items d i x s g to n most gear at lt st e = copies-same d i x s g to n most gear (items c) at lt st e
copies-shown (Err e) items d i x s g to n most gear at lt st h = tt

pub of-lane : (x : SiteSeen) (g to n : ℕ) (gear : GearSeen) (p : Payload) → IsSite x → HasGear x g gear → IsGear gear → slice_get (lane_to gear to) n ≡ Some p → IsOfLane x.shape g to p
of-lane x g to n gear p k at good e =
    let q : IsInLane gear to p = good.payloads to n p e in
    let a : IsGearAt x.shape x.sink g gear = k.gears.each g gear at in
    record {
      made_at = q.site ∙ (λ j. (a.shape j).site);
      made_by = q.gear ∙ a.number;
      items = (q.kind.0, q.kind.1, subst (λ (s : Shape). AreBelow (length s.interest.replicas) (list_of q.kind.0)) a.shape q.kind.2.known);
      values = (q.values.0, q.values.1, q.values.2 ∙ (ap (λ (kind : Kind). length (kind_numbers kind)) q.kind.1 ∙ ap (λ (kind : Kind). length (items_of kind)) (sym q.kind.1)));
      target = subst (λ (s : Shape). is_for s.interest p.label to ≡ true) a.shape q.target;
    }

pub version-shown : (d : Deployed) (i : ℕ) (x : SiteSeen) (s : SiteState) (g n : ℕ) (gear : GearSeen) (o : Option (Bor Version)) → HasGear x g gear → g ≡ n % x.shape.gears → n < length x.shape.interest.replicas → keeps_item x n ≡ true → StandsSite d i x s → MatchOption o (version_of gear n ≡ None) (λ v. version_of gear n ≡ Some v.now) →
    MatchOption o (s.store n ≡ None) (λ v. s.store n ≡ version_seen (Some v.now))
version-shown d i x s g n gear None at e item kept st h = no-version d i x s g n gear at e item kept st h
version-shown d i x s g n gear (Some v) at e item kept st h = some-version d i x s g n gear v.now at e item kept st h

-- an item that is not kept here is none of those that the site keeps
pub away-version : (d : Deployed) (i : ℕ) (x : SiteSeen) (s : SiteState) (n : ℕ) → keeps_item x n ≡ false → StandsSite d i x s → replicates d n i ≡ true → s.store n ≡ None
away-version d i x s n away st kept = absurd (let clash : false ≡ true = sym away ∙ (keeps-here d i x s n st ∙ kept) in cc)

pub kept-away : (x : SiteSeen) (n : ℕ) → keeps_item x n ≡ true → keeps_item x n ≡ false → (o : Option (Bor Version)) → IsNone o
kept-away x n kept away o = absurd (let clash : true ≡ false = sym kept ∙ away in cc)

pub payload-shown : (d : Deployed) (i : ℕ) (x : SiteSeen) (s : SiteState) (g to n : ℕ) (gear : GearSeen) (o : Option (Bor Payload)) → HasGear x g gear → to < x.shape.sites → StandsSite d i x s → MatchOption o (slice_get (lane_to gear to) n ≡ None) (λ p. slice_get (lane_to gear to) n ≡ Some p.now) →
    MatchOption o (slice_get ((s.gears g).lanes to) n ≡ None) (λ p. slice_get ((s.gears g).lanes to) n ≡ Some p.now)
payload-shown d i x s g to n gear None at lt st h = lane-same d i x s g to n gear None at lt st h
payload-shown d i x s g to n gear (Some p) at lt st h = lane-same d i x s g to n gear (Some p.now) at lt st h

pub payload-lane : (x : SiteSeen) (g to n : ℕ) (gear : GearSeen) (o : Option (Bor Payload)) → IsSite x → HasGear x g gear → IsGear gear → MatchOption o (slice_get (lane_to gear to) n ≡ None) (λ p. slice_get (lane_to gear to) n ≡ Some p.now) → IfSome o (λ p. IsOfLane x.shape g to p.now)
payload-lane x g to n gear None k at good h = tt
payload-lane x g to n gear (Some p) k at good h = of-lane x g to n gear p.now k at good h

pub promise-same : (x : SiteSeen) (g n : ℕ) (gear new : GearSeen) → HasGear x g gear → n ≡ gear.promise → HasGear x g new → n ≡ new.promise
promise-same x g n gear new at e there = e ∙ ap (λ (y : GearSeen). y.promise) (same-get x.gears g gear new at there)

-- the front of a lane is the machine's
pub front-is : (w v : SiteSeen) (d : Deployed) (i : ℕ) (s : SiteState) (from gear n : ℕ) → w ≡ v → IsSite w → from < v.shape.sites → gear < v.shape.gears → n ≡ front_at w.proxy from gear → StandsSite d i v s → n ≡ front_of s from gear
front-is w v d i s from gear n same k lf lg e st =
    let site : IsSite v = subst IsSite same k in
    e ∙ (ap (λ (y : SiteSeen). front_at y.proxy from gear) same ∙ sym (front-same v.proxy s.proxy site.proxy.sound st.proxy from gear (subst (λ (m : ℕ). from < m) (sym site.proxy.sites) lf) (subst (λ (m : ℕ). gear < m) (sym site.proxy.gears) lg)))
