-- How a world goes on by the inner entries of a settle.
use Rattle.std.specs.Prelude.{◌≡◌, ◌-◌, ℕ, List, ◌++◌, length}
use Rattle.sat_act.specs.declared.act.Act.{Act}
use Rattle.sat_act.specs.declared.answer.Answer.{Answer}
use Rattle.sat_act.specs.declared.answer.Answer.TheVariants as ans
use Rattle.sat_act.specs.declared.entry.Entry.{Entry}
use Rattle.sat_act.specs.Deployed.{Deployed}
use Rattle.sat_act.specs.Answers.{answer}
use Rattle.sat_act.specs.Runs.{IsRun}
use Rattle.sat_act.specs.Settling.{capped, left, rounds, tried}
use Rattle.sat_rest.specs.Ends.{UntilRefused}
use Rattle.sat_world.specs.Seen.{WorldSeen}
use Rattle.sat_world.specs.Stands.{StandsFor}

-- one where an act with this answer was done, else none
abbrev pub done_by : Answer → ℕ
done_by (ans.Refused r) = 0
done_by ans.Again = 0
done_by ans.Old = 0
done_by _ = 1

-- the second history is the first with entries more
abbrev pub Extends : List Entry → List Entry → Type 0
Extends h k = (more : List Entry) × (k ≡ more ++ h)

-- the world stands for k, a run that is h with as many entries more as were counted
pub record Reaches (d : Deployed) (h k : List Entry) (n : ℕ) (w : WorldSeen) : Type 0 where
  pub stands : StandsFor w k
  pub run : IsRun d k
  pub from : Extends h k
  pub count : n ≡ capped (length k - length h)

-- on the way from h to k: the world stands for a run that is h with some of the entries that k has more, the first ones
pub record StopsBefore (d : Deployed) (h k : List Entry) (w : WorldSeen) : Type 0 where
  pub now : List Entry
  pub stands : StandsFor w now
  pub run : IsRun d now
  pub from : Extends h now
  pub to : Extends now k

-- from each history that the world stood for, it reached what f makes of it
abbrev pub Makes : WorldSeen → (List Entry → List Entry) → ℕ → WorldSeen → Type 0
Makes v f n w = (h : List Entry) → IsRun v.deployment h → StandsFor v h → Reaches v.deployment h (f h) n w

-- or it stopped on the way
abbrev pub Stops : WorldSeen → (List Entry → List Entry) → WorldSeen → Type 0
Stops v f w = (h : List Entry) → IsRun v.deployment h → StandsFor v h → StopsBefore v.deployment h (f h) w

-- an act was answered as the history says, and left an inner entry where it was done
pub record IsTried (d : Deployed) (h : List Entry) (a : Act) (r : Answer) (w : WorldSeen) : Type 0 where
  pub answer : r ≡ answer d h a
  pub stands : StandsFor w (tried d a h)

abbrev pub Tries : WorldSeen → Act → Answer → WorldSeen → Type 0
Tries v a r w = (h : List Entry) → IsRun v.deployment h → StandsFor v h → IsTried v.deployment h a r w

-- an act was done again and again as long as it was done
abbrev pub MakesUntil : WorldSeen → Act → ℕ → WorldSeen → Type 0
MakesUntil v a n w = (h k : List Entry) → IsRun v.deployment h → StandsFor v h → UntilRefused v.deployment a h k
    → Reaches v.deployment h k n w

-- or that stopped on the way
abbrev pub StopsUntil : WorldSeen → Act → WorldSeen → Type 0
StopsUntil v a w = (h k : List Entry) → IsRun v.deployment h → StandsFor v h → UntilRefused v.deployment a h k
    → StopsBefore v.deployment h k w

-- the rounds from h on: how many they were, and what they make of h
abbrev pub rounds_from : Deployed → List Entry → ℕ × List Entry
rounds_from d h = rounds d (left d h) h

-- rounds were done until a quiet one, and counted
pub record EndsRounds (d : Deployed) (h : List Entry) (m n : ℕ) (w : WorldSeen) : Type 0 where
  pub reaches : Reaches d h (rounds_from d h).1 n w
  pub rounds : m ≡ capped (rounds_from d h).0

-- from each run that a world stood for, rounds were done until a quiet one; m counts them, and n their entries
abbrev pub MakesRounds : WorldSeen → ℕ → ℕ → WorldSeen → Type 0
MakesRounds v m n w = (h : List Entry) → IsRun v.deployment h → StandsFor v h → EndsRounds v.deployment h m n w

-- whatever run a world stood for, it now stands for a front of what the rounds of a settle make of it
abbrev pub StopsInRounds : WorldSeen → WorldSeen → Type 0
StopsInRounds v w = (h : List Entry) → IsRun v.deployment h → StandsFor v h
    → StopsBefore v.deployment h (rounds_from v.deployment h).1 w
