-- The parts of a state, where one gear or all gears change.
use Rattle.std.specs.Prelude.{◌≡◌, ◌≢◌, ◌≤◌, ◌<◌, ◌%◌, ℕ, List, length, map, set, Option, Some, slice_get}
use Rattle.std.proofs.Common.{subst, ap, sym, ◌∙◌, inl, inr}
use Rattle.sat_sites.specs.Interested.{Interested}
use Rattle.sat_gear.specs.Gear.{GearSeen, version_of}
use Rattle.sat_act.specs.Answers.{gear_of}
use Rattle.sat_act.specs.Deployed.{Deployed}
use Rattle.sat_model.specs.Interests.{interest_of}
use Rattle.sat_model.specs.State.{SiteState, GearState, Version as VersionSeen}
use Rattle.sat_site.specs.Changes.{gear_at}
use Rattle.sat_site.specs.Seen.{SiteSeen}
use Rattle.sat_site.specs.Stands.{StandsSite, StandsGear, StandsGears, StandsStore, version_seen}
use Rattle.sat_site.proofs.Interests.{items-are}
use Rattle.sat_hub.proofs.Lists.{set-cases, map-cases, Mapped}

-- ---- the shape

pub sites-are : (d : Deployed) (i : ℕ) (x : SiteSeen) (s : SiteState) → StandsSite d i x s → x.shape.sites ≡ d.sites
sites-are d i x s st = λ j. (st.shape j).sites

pub count-is : (d : Deployed) (i : ℕ) (x : SiteSeen) (s : SiteState) → StandsSite d i x s → x.shape.gears ≡ d.gears
count-is d i x s st = λ j. (st.shape j).gears

pub site-is : (d : Deployed) (i : ℕ) (x : SiteSeen) (s : SiteState) → StandsSite d i x s → x.shape.site ≡ i
site-is d i x s st = λ j. (st.shape j).site

pub interest-is : (d : Deployed) (i : ℕ) (x : SiteSeen) (s : SiteState) → StandsSite d i x s → x.shape.interest ≡ interest_of d
interest-is d i x s st = λ j. (st.shape j).interest

pub gear-of-is : (d : Deployed) (i : ℕ) (x : SiteSeen) (s : SiteState) (n : ℕ) → StandsSite d i x s → gear_at x n ≡ gear_of d n
gear-of-is d i x s n st = ap (λ (g : ℕ). n % g) (count-is d i x s st)

pub item-known : (d : Deployed) (i : ℕ) (x : SiteSeen) (s : SiteState) (n : ℕ) → StandsSite d i x s → n < length x.shape.interest.replicas → n < length d.items
item-known d i x s n st item = subst (λ (q : ℕ). n < q) (ap (λ (a : Interested). length a.replicas) (interest-is d i x s st) ∙ items-are d) item

-- ---- one gear changes

pub gears-set : (d : Deployed) (gears : List GearSeen) (g : ℕ) (new : GearSeen) (s t : ℕ → GearState) → StandsGears d gears s → StandsGear d new (t g) →
    ((k : ℕ) (gear : GearSeen) → k ≢ g → StandsGear d gear (s k) → StandsGear d gear (t k)) → ((k j : ℕ) → d.gears ≤ k → (t k).lanes j ≡ (s k).lanes j) → StandsGears d (set gears g new) t
gears-set d gears g new s t st here there rest = record {
  none = λ k j past. rest k j past ∙ st.none k j past;
  each = λ k gear at. elim (set-cases gears g k new gear at) [
    | inl w ↦ subst (λ (y : GearSeen). StandsGear d y (t k)) w.0 (subst (λ (n : ℕ). StandsGear d new (t n)) (sym w.1) here)
    | inr w ↦ there k gear w.1 (st.each k gear w.0)
  ];
}

pub store-set : (d : Deployed) (i : ℕ) (gears : List GearSeen) (g : ℕ) (gear new : GearSeen) (s t : ℕ → Option VersionSeen) → slice_get gears g ≡ Some gear → StandsStore d i gears s →
    ((n : ℕ) → gear_of d n ≡ g → version_seen (version_of gear n) ≡ s n → version_seen (version_of new n) ≡ t n) → ((n : ℕ) → gear_of d n ≢ g → s n ≡ t n) → StandsStore d i (set gears g new) t
store-set d i gears g gear new s t at st here there = record {
  each = λ n y lt kept f. elim (set-cases gears g (gear_of d n) new y f) [
    | inl w ↦ subst (λ (y : GearSeen). version_seen (version_of y n) ≡ t n) w.0 (here n w.1 (st.each n gear lt kept (subst (λ (k : ℕ). slice_get gears k ≡ Some gear) (sym w.1) at)))
    | inr w ↦ st.each n y lt kept w.0 ∙ there n w.1
  ];
}

-- ---- all gears change

pub gears-map : (d : Deployed) (f : GearSeen → GearSeen) (gears : List GearSeen) (s t : ℕ → GearState) → StandsGears d gears s →
    ((g : ℕ) (gear : GearSeen) → slice_get gears g ≡ Some gear → StandsGear d gear (s g) → StandsGear d (f gear) (t g)) → ((g j : ℕ) → (t g).lanes j ≡ (s g).lanes j) → StandsGears d (map f gears) t
gears-map d f gears s t st each rest = record {
  none = λ g j past. rest g j ∙ st.none g j past;
  each = λ g new at.
      let w : Mapped f gears g new = map-cases f gears g new at in
      subst (λ (y : GearSeen). StandsGear d y (t g)) w.is (each g w.old w.at (st.each g w.old w.at));
}

pub store-map : (d : Deployed) (i : ℕ) (f : GearSeen → GearSeen) (gears : List GearSeen) (s : ℕ → Option VersionSeen) → StandsStore d i gears s → ((gear : GearSeen) (n : ℕ) → version_of (f gear) n ≡ version_of gear n) → StandsStore d i (map f gears) s
store-map d i f gears s st same = record {
  each = λ n new lt kept at.
      let w : Mapped f gears (gear_of d n) new = map-cases f gears (gear_of d n) new at in
      subst (λ (y : GearSeen). version_seen (version_of y n) ≡ s n) w.is (ap version_seen (same w.old n) ∙ st.each n w.old lt kept w.at);
}
