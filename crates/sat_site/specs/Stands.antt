-- The state of the model's machine that a site stands for, part by part.
use Rattle.std.specs.Prelude.{ℕ, ◌≡◌, ◌≢◌, ◌≤◌, ◌<◌, true, false, List, [], length, map, get_or, slice_get, Option}
use Rattle.std.specs.Prelude.{Some, None, is_none}
use Rattle.sat_beat.specs.declared.Beat.{Beat}
use Rattle.sat_epoch.specs.Epochs.{Epochs, close_cut, is_stamp}
use Rattle.sat_proxy.specs.Proxy.{note_of}
use Rattle.sat_proxy.specs.Stands.{StandsProxy}
use Rattle.sat_label.specs.Versions.{Version}
use Rattle.sat_gear.specs.Gear.{GearSeen, lane_to, version_of}
use Rattle.sat_sink.specs.Sink.{Sink}
use Rattle.sat_act.specs.Deployed.{Deployed}
use Rattle.sat_act.specs.Answers.{gear_of}
use Rattle.sat_act.specs.Parts.{BeatNote, replicates, tree_of}
use Rattle.sat_model.specs.State.{SiteState, GearState, SinkState, ViewState, Version as VersionSeen}
use Rattle.sat_site.specs.Changes.{shape_for}
use Rattle.sat_site.specs.Seen.{SiteSeen}

-- a version, as the machine keeps it
abbrev pub version_seen : Option Version → Option VersionSeen
version_seen None = None
version_seen (Some v) = Some (record { label = v.label; value = v.value })

-- ---- gears

pub record StandsGear (d : Deployed) (gear : GearSeen) (s : GearState) : Type 0 where
  pub promise : gear.promise ≡ s.promise
  pub fresh : gear.fresh ≡ s.fresh
  pub lanes : (j : ℕ) → j < d.sites → lane_to gear j ≡ s.lanes j

-- no payload was made by a gear that there is not
pub record StandsGears (d : Deployed) (gears : List GearSeen) (s : ℕ → GearState) : Type 0 where
  pub each : (g : ℕ) (gear : GearSeen) → slice_get gears g ≡ Some gear → StandsGear d gear (s g)
  pub none : (g j : ℕ) → d.gears ≤ g → (s g).lanes j ≡ []

-- ---- the sink, and what was counted of the lanes

pub record StandsSink (d : Deployed) (sink : Sink) (counts : List (List ℕ)) (s : SinkState) : Type 0 where
  pub promises : (g : ℕ) → g < d.gears → get_or sink.promises g 0 ≡ s.promises g
  pub pending : (g : ℕ) → g < d.gears → get_or sink.pending g [] ≡ s.pending g
  pub counted : (g j : ℕ) → j < d.sites → get_or (get_or counts g []) j 0 ≡ s.counts g j
  pub last : sink.last ≡ s.last
  pub pulse : sink.pulse ≡ s.pulse

-- ---- views: of the closes that were taken, those of the view by the other sites. None is of a later epoch

-- the views of a site are those of a state of the model: view, emission, fall, cuts at closes, the closes heard in
-- this view, and which plans are timestamp order
pub record StandsViews (d : Deployed) (i : ℕ) (views : Epochs) (s : ViewState) : Type 0 where
  pub view : views.view ≡ s.view
  pub emission : views.emission ≡ s.emission
  pub fallen : views.fallen ≡ s.fallen
  pub closes : (e : ℕ) → s.closes e ≡ close_cut views e
  pub heard : (k : ℕ) → k < d.sites → k ≢ i → s.heard k s.view ≡ get_or views.heard k false
  pub later : (k e : ℕ) → s.view < e → s.heard k e ≡ false
  pub plans : (e : ℕ) → 1 ≤ e → e ≤ length d.plans → is_stamp views e ≡ is_none (tree_of d e)
  pub count : length views.stamp ≡ length d.plans

-- ---- the store: the versions of the items that site i keeps. That of another item, of which the machine knows by an
-- update of more than one item, no gear has

pub record StandsStore (d : Deployed) (i : ℕ) (gears : List GearSeen) (store : ℕ → Option VersionSeen) : Type 0 where
  pub each : (n : ℕ) (gear : GearSeen) → n < length d.items → replicates d n i ≡ true
      → slice_get gears (gear_of d n) ≡ Some gear → version_seen (version_of gear n) ≡ store n

-- ---- the beats that it made

abbrev pub StandsMade : Deployed → List (List Beat) → (ℕ → List BeatNote) → Type 0
StandsMade d made s = (j : ℕ) → j < d.sites → map note_of (get_or made j []) ≡ s j

-- ---- the site

-- site i of the deployment stands for a state of the machine's
pub record StandsSite (d : Deployed) (i : ℕ) (x : SiteSeen) (s : SiteState) : Type 0 where
  pub shape : x.shape ≡ shape_for d i
  pub gears : StandsGears d x.gears s.gears
  pub sink : StandsSink d x.sink x.counts s.sink
  pub views : StandsViews d i x.views s.views
  pub proxy : StandsProxy x.proxy s.proxy
  pub store : StandsStore d i x.gears s.store
  pub made : StandsMade d x.made s.made_beats
