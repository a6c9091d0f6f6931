-- What a site keeps. A table is a function of the number of its row; the code keeps the rows below the deployment's
-- numbers.
use Rattle.std.specs.Prelude.{ℕ, Bool, false, List, [], Option, None}
use Rattle.sat_label.specs.declared.point.Point.{Point}
use Rattle.sat_label.specs.declared.label.Label.{Label}
use Rattle.sat_label.specs.Order.{point_at}
use Rattle.sat_bulk.specs.Payloads.{Payload}
use Rattle.sat_act.specs.Parts.{BeatNote}

-- a gear: its promise, the labels that were not gathered, and by site the payloads of its lane to it
pub record GearState : Type 0 where
  pub promise : ℕ
  pub fresh : List Label
  pub lanes : ℕ → List Payload

-- a sink. By gear: the gathered promise, the gathered labels that were not emitted, and how much of each lane was
-- gathered. Beside these the point that it sent last and the timestamp of its last pulse
pub record SinkState : Type 0 where
  pub promises : ℕ → ℕ
  pub pending : ℕ → List Label
  pub counts : ℕ → ℕ → ℕ
  pub last : Point
  pub pulse : ℕ

-- a site's epochs: its view, the epoch in which it sends, whether it has fallen, its close cuts by epoch, and the
-- closes that it took from its tree, by site and epoch
pub record ViewState : Type 0 where
  pub view : ℕ
  pub emission : ℕ
  pub fallen : Bool
  pub closes : ℕ → Option Point
  pub heard : ℕ → ℕ → Bool

-- what a site has of others: taken numbers by site and gear, what waits, the taken beats by site with their numbers,
-- and what is known of each site
pub record ProxyState : Type 0 where
  pub taken : ℕ → ℕ → List ℕ
  pub pool : List Payload
  pub beats : ℕ → List (ℕ × BeatNote)
  pub last : ℕ → Point

-- a version of an item: the label of the update, and its value for the item
pub record Version : Type 0 where
  pub label : Label
  pub value : List ℕ

-- a site: its gears, its sink, its views, what it has of other sites, its version of each item, and by site the beats
-- that it made
pub record SiteState : Type 0 where
  pub gears : ℕ → GearState
  pub sink : SinkState
  pub views : ViewState
  pub proxy : ProxyState
  pub store : ℕ → Option Version
  pub made_beats : ℕ → List BeatNote

-- a site in the beginning
abbrev pub fresh_site : ℕ → SiteState
fresh_site i = record {
  gears = λ g. record { promise = 0; fresh = []; lanes = λ j. [] };
  sink = record { promises = λ g. 0; pending = λ g. []; counts = λ g j. 0; last = point_at 0 i 0; pulse = 0 };
  views = record { view = 1; emission = 1; fallen = false; closes = λ e. None; heard = λ k e. false };
  proxy = record { taken = λ k g. []; pool = []; beats = λ k. []; last = λ k. point_at 0 k 0 };
  store = λ x. None;
  made_beats = λ j. [];
}
