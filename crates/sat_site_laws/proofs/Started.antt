-- A site at which nothing has happened is one.
use Rattle.std.proofs.Common.{◌≡◌, ◌<◌, ◌≤◌, ℕ, true, length, map, slice_get, Some, refl, sym, subst}
use Rattle.std.proofs.lemmas.List.{length-map}
use Rattle.sat_label.specs.declared.limits.TheConstants.{MOST_EPOCHS, MOST_SITES}
use Rattle.sat_label.specs.declared.site_set.SiteSet.{SiteSet}
use Rattle.sat_label.specs.Words.{below, bit}
use Rattle.sat_label.proofs.Numbers.{below-get, length-below}
use Rattle.sat_sites.specs.Interested.{IsInterest}
use Rattle.sat_act.specs.Deployed.{Deployed}
use Rattle.sat_act.specs.Limits.{IsDeployment}
use Rattle.sat_model.specs.Interests.{interest_of, replicas_of}
use Rattle.sat_gear.specs.Gear.{GearSeen, IsGear, IsShape, fresh_gear}
use Rattle.sat_gear.proofs.Gears.{starts}
use Rattle.sat_hub.specs.Changes.{is_stamp_plan, new_hub, shape_for}
use Rattle.sat_hub.specs.Seen.{IsHub}
use Rattle.sat_hub.proofs.Fresh.{fresh-is, shape-sound}
use Rattle.sat_hub.proofs.Lists.{get-within, map-cases, same-get, Mapped}
use Rattle.sat_site.specs.Seen.{AreGears}
use Rattle.sat_site.proofs.Fresh.{fresh-site}
use Rattle.sat_site_laws.specs.Stays.{SitesStart}
use Rattle.sat_site_laws.proofs.Epoched.{first-epochs}
use Rattle.sat_site_laws.proofs.Others.{first-proxy}

few : (n : ℕ) → n ≤ MOST_SITES → n ≤ 64
few n low = low

interest-is : (d : Deployed) → IsDeployment d → IsInterest (interest_of d)
interest-is d limits = record {
  few = few d.sites limits.few_sites;
  kept = λ x set at.
      let w : Mapped replicas_of d.items x set = map-cases replicas_of d.items x set at in
      subst (λ (s : SiteSet). (k : ℕ) × (bit s.bits k ≡ true)) w.is (limits.kept x w.old w.at);
  within = λ x k set at has.
      let w : Mapped replicas_of d.items x set = map-cases replicas_of d.items x set at in
      limits.replicas x k w.old w.at (subst (λ (s : SiteSet). bit s.bits k ≡ true) (sym w.is) has);
}

shape-is : (d : Deployed) (i : ℕ) → IsDeployment d → i < d.sites → IsShape (shape_for d i)
shape-is d i limits lt = shape-sound d i (shape_for d i) limits lt (interest-is d limits) refl

hub-is : (d : Deployed) (i : ℕ) → IsDeployment d → i < d.sites → IsHub (new_hub d i)
hub-is d i limits lt =
    fresh-is (shape_for d i) (map is_stamp_plan d.plans) (shape-is d i limits lt)
    (first-epochs d.sites i (map is_stamp_plan d.plans) lt (subst (λ (n : ℕ). 0 < n) (sym long) limits.some_plan) (subst (λ (n : ℕ). n ≤ MOST_EPOCHS) (sym long) limits.few_plans))
    (first-proxy d.sites d.gears i lt)
  where
    long : length (map is_stamp_plan d.plans) ≡ length d.plans
    long = length-map d.plans is_stamp_plan

below-place : (n g k : ℕ) → slice_get (below n) g ≡ Some k → k < n
below-place n g k at =
    let lt : g < n = subst (λ (m : ℕ). g < m) (length-below n) (get-within (below n) g k at) in
    subst (λ (m : ℕ). m < n) (same-get (below n) g g k (below-get n g lt) at) lt

gears-are : (d : Deployed) (i : ℕ) → IsDeployment d → i < d.sites → AreGears (map (fresh_gear (shape_for d i)) (below d.gears))
gears-are d i limits lt g gear at = subst (λ (s : GearSeen). IsGear s) w.is (starts (shape_for d i) w.old (shape-is d i limits lt) low)
  where
    w : Mapped (fresh_gear (shape_for d i)) (below d.gears) g gear
    w = map-cases (fresh_gear (shape_for d i)) (below d.gears) g gear at

    low : w.old < d.gears
    low = below-place d.gears g w.old w.at

pub start : SitesStart
start d i limits lt = fresh-site d i (new_hub d i) (shape_for d i) (map (fresh_gear (shape_for d i)) (below d.gears)) (hub-is d i limits lt) refl refl refl (gears-are d i limits lt)
