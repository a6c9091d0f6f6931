-- The history of a script's acts.
use Rattle.std.specs.Prelude.{List, [], ◌∷◌, reverse}
use Rattle.sat_act.specs.Deployed.{Deployed}

-- the entry of an act after a history of which the newest entry stands first
abbrev pub Entering : Type 0 → Type 0 → Type 0
Entering A E = Deployed → List E → A → E

-- the history of acts of which the newest stands first
unfoldable pub run_of : {A E : Type 0} → Entering A E → Deployed → List A → List E
run_of enter d [] = []
run_of enter d (a ∷ acts) = enter d (run_of enter d acts) a ∷ run_of enter d acts

-- the history of a script's acts, which stand in the order of the script
unfoldable pub history_of : {A E : Type 0} → Entering A E → Deployed → List A → List E
unfolding run_of
history_of enter d acts = run_of enter d (reverse acts)
