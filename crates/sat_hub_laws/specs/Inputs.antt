-- What a hub and a gear of a site are handed.
use Rattle.std.specs.Prelude.{ℕ, List, Option}
use Rattle.sat_label.specs.declared.carried.Carried.{Carried}
use Rattle.sat_label.specs.declared.items.Items.{Items}
use Rattle.sat_label.specs.declared.label.Label.{Label}
use Rattle.sat_act.specs.Parts.{BeatNote}
use Rattle.sat_bulk.specs.Payloads.{Payload}
use Rattle.sat_joint.specs.Pieces.{Drain as GearDrain}

-- what a hub is handed: an act, with all that it needs of the world beside the hub. To a gather this is what each gear
-- gives
pub data HubInput : Type 0 where
  Attach : (seen : Carried) → HubInput
  Gather : (drains : ℕ → GearDrain) → HubInput
  Emit : HubInput
  Pulse : HubInput
  Turn : (front : Option Label) → HubInput
  Bulk : (from gear number : ℕ) (payload : Payload) → HubInput
  Beat : (to : ℕ) → HubInput
  BeatIn : (from number : ℕ) (note : BeatNote) → HubInput
  Stamp : HubInput
  Close : HubInput
  Fall : HubInput
  Advance : HubInput

-- the act in which a gear shows a payload that another node gave to it: a turn or a stamp of its hub, or a write at
-- another gear
pub data ShownBy : Type 0 where
  ByTurn : ShownBy
  ByStamp : ShownBy
  ByWrite : ShownBy

-- what a gear is handed: an act of its own, or its part of an act of another node, with what that answered. Its part of
-- a gather is what it gives to it
pub data GearInput : Type 0 where
  Tick : (ts : ℕ) → GearInput
  Write : (seen : Carried) (items : Items) (values : List (List ℕ)) → GearInput
  Read : (seen : Carried) (item : ℕ) → GearInput
  Move : (seen : Carried) (to : ℕ) → GearInput
  Drain : (drain : GearDrain) (labels stable : ℕ) → GearInput
  Show : (by : ShownBy) (payload : Payload) → GearInput
