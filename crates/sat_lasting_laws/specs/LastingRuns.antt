-- Histories with stops whose entries have the answers of their acts.
use Rattle.std.specs.Prelude.{◌≡◌, ℕ, List, [], ◌∷◌}
use Rattle.sat_act.specs.Deployed.{Deployed}
use Rattle.sat_lasting_laws.specs.Lastings.{LastingEntry}
use Rattle.sat_lasting_laws.specs.LastingAnswers.{IsLastingInRange, lasting_answer}

-- a history whose acts are in range, and whose entries have the answers of their acts
unfoldable pub IsLastingRun : Deployed → List LastingEntry → Type 0
unfolding lasting_answer
IsLastingRun d [] = Unit {0}
IsLastingRun d (x ∷ c) = IsLastingRun d c × IsLastingInRange d x.act × (x.answer ≡ lasting_answer d c x.act)
