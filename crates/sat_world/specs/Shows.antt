-- What a world shows of a history.
use Rattle.std.specs.Prelude.{◌≡◌, ℕ, List, Some}
use Rattle.sat_act.specs.declared.entry.Entry.{Entry}
use Rattle.sat_act.specs.Parts.{version, value_of}
use Rattle.sat_label.specs.Versions.{Version}

-- item x's version at site i, with the value for it of the write that made its label
pub record IsVersion (h : List Entry) (i x : ℕ) (v : Version) : Type 0 where
  pub label : version h i x ≡ Some v.label
  pub value : value_of h v.label x ≡ v.value
