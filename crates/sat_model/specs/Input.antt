-- What a site is handed. `Clock` is the part of the act clock at one site: a tick of each gear to one number.
use Rattle.std.specs.Prelude.{ℕ, List, Option}
use Rattle.sat_label.specs.declared.items.Items.{Items}
use Rattle.sat_label.specs.declared.label.Label.{Label}
use Rattle.sat_act.specs.Parts.{BeatNote}
use Rattle.sat_label.specs.declared.carried.Carried.{Carried}
use Rattle.sat_bulk.specs.Payloads.{Payload}

-- what a site is handed: an act, with all that it needs of the world beside the site, and without the answer
pub data SiteInput : Type 0 where
  Tick : (gear ts : ℕ) → SiteInput
  Clock : (ts : ℕ) → SiteInput
  Write : (seen : Carried) (items : Items) (values : List (List ℕ)) → SiteInput
  Read : (seen : Carried) (item : ℕ) → SiteInput
  Move : (seen : Carried) (to : ℕ) → SiteInput
  Attach : (seen : Carried) → SiteInput
  Gather : SiteInput
  Emit : SiteInput
  Pulse : SiteInput
  Turn : (front : Option Label) → SiteInput
  Bulk : (from gear number : ℕ) (payload : Payload) → SiteInput
  Beat : (to : ℕ) → SiteInput
  BeatIn : (from number : ℕ) (note : BeatNote) → SiteInput
  Stamp : SiteInput
  Close : SiteInput
  Fall : SiteInput
  Advance : SiteInput
