-- Which entries of a history a world knows of.
use Rattle.std.specs.Prelude.{◌≡◌, Bool, true, List, ◌∷◌}
use Rattle.sat_act.specs.declared.entry.Entry.{Entry}
use Rattle.sat_model.specs.Laws.{leaves_all, flagged}
use Rattle.sat_world.specs.Seen.{WorldSeen}
use Rattle.sat_world.specs.Stands.{StandsFor}

-- a world that stands for a history stands for it whatever the flag of its last entry: it doesn't know which entries a
-- settle made
abbrev pub FlagsStayFree : Type 0
FlagsStayFree = (w : WorldSeen) (h : List Entry) (e : Entry) (inner : Bool) → StandsFor w (e ∷ h)
    → StandsFor w (flagged inner e ∷ h)

-- a world stands for a history with an entry exactly where it stands for the history
pub record IsUnknown (w : WorldSeen) (h : List Entry) (e : Entry) : Type 0 where
  pub there : StandsFor w h → StandsFor w (e ∷ h)
  pub back : StandsFor w (e ∷ h) → StandsFor w h

-- a world doesn't know of entries that were refused or found all done, nor of the entry of a settle beside its inner
-- ones
abbrev pub UndoneKeeps : Type 0
UndoneKeeps = (w : WorldSeen) (h : List Entry) (e : Entry) → leaves_all e.answer ≡ true → IsUnknown w h e
