-- How many rounds a settle takes at most.
use Rattle.std.specs.Prelude.{◌≡◌, ◌≤◌, ℕ, List}
use Rattle.sat_act.specs.declared.answer.Answer.{Answer}
use Rattle.sat_act.specs.declared.answer.Answer.TheVariants as ans
use Rattle.sat_act.specs.declared.entry.Entry.{Entry}
use Rattle.sat_act.specs.Deployed.{Deployed}
use Rattle.sat_act.specs.Settling.{capped, opening, settle}
use Rattle.sat_rest.specs.Ends.{most_rounds}

-- the rounds that an answer counts
abbrev pub rounds_in : Answer → ℕ
rounds_in (ans.Settled rounds done) = rounds
rounds_in _ = 0

-- the answer counts the rounds, and they are within the bound
pub record IsWithinBound (d : Deployed) (h : List Entry) (r : Answer) : Type 0 where
  pub rounds : rounds_in r ≡ capped (settle d h).0
  pub bound : (settle d h).0 ≤ most_rounds d (opening d h)
