-- Up to where timestamps come.
use Rattle.std.specs.Prelude.{◌≤◌, ℕ, List}
use Rattle.sat_label.specs.declared.label.Label.{Label}
use Rattle.sat_label.specs.declared.limits.TheConstants.{TS_END}
use Rattle.sat_label.specs.Members.{In}
use Rattle.sat_act.specs.declared.entry.Entry.{Entry}
use Rattle.sat_act.specs.Deployed.{Deployed}
use Rattle.sat_act.specs.Parts.{promise, stable, sent, cut, carried}
use Rattle.sat_act.specs.Goals.{Made}

-- no timestamp of a history is past the last: of a gear's promise, of what is made, stable or sent, of a cut, and of
-- what a client carries
pub record HasTimes (d : Deployed) (h : List Entry) : Type 0 where
  pub promises : (i g : ℕ) → promise h i g ≤ TS_END
  pub labels : (l : Label) → Made h l → l.point.ts ≤ TS_END
  pub stable_ts : (i : ℕ) → stable d h i ≤ TS_END
  pub sent_labels : (i : ℕ) (l : Label) → In (sent h i) l → l.point.ts ≤ TS_END
  pub cuts : (i : ℕ) → (cut d h i).ts ≤ TS_END
  pub carried_points : (c : ℕ) → (carried h c).ts ≤ TS_END
