-- What an act does to a world, in each history that the world stood for.
use Rattle.std.specs.Prelude.{◌≡◌, false, List, ◌∷◌}
use Rattle.sat_act.specs.declared.act.Act.{Act}
use Rattle.sat_act.specs.declared.answer.Answer.{Answer}
use Rattle.sat_act.specs.declared.entry.Entry.{Entry}
use Rattle.sat_act.specs.Answers.{answer}
use Rattle.sat_act.specs.Headline.{IsGood}
use Rattle.sat_act.specs.Runs.{IsRun}
use Rattle.sat_act.specs.Settling.{is_done}
use Rattle.sat_world.specs.Seen.{WorldSeen}
use Rattle.sat_world.specs.Stands.{StandsFor}

-- the answer is the history's, the world then stands for the history with the act's entry, which is a run again and
-- good; an act that isn't done leaves the world
pub record Applies (old : WorldSeen) (a : Act) (r : Answer) (new : WorldSeen) : Type 0 where
  pub answer : (h : List Entry) → IsRun old.deployment h → StandsFor old h → r ≡ answer old.deployment h a
  pub run : (h : List Entry) → IsRun old.deployment h → StandsFor old h
      → IsRun new.deployment (record { act = a; answer = r; inner = false } ∷ h)
  pub stands : (h : List Entry) → IsRun old.deployment h → StandsFor old h
      → StandsFor new (record { act = a; answer = r; inner = false } ∷ h)
  pub good : (h : List Entry) → IsRun old.deployment h → StandsFor old h
      → IsGood old.deployment (record { act = a; answer = r; inner = false } ∷ h)
  pub deployment : new.deployment ≡ old.deployment
  pub refused : is_done r ≡ false → new ≡ old
