-- How many answers of a history show an update.
use Rattle.std.specs.Prelude.{ℕ, ◌+◌, List, length, Option, Some, None}
use Rattle.sat_label.specs.declared.label.Label.{Label}
use Rattle.sat_act.specs.declared.answer.Answer.{Answer}
use Rattle.sat_act.specs.declared.answer.Answer.TheVariants as ans
use Rattle.sat_act.specs.declared.entry.Entry.{Entry}
use Rattle.sat_act.specs.Histories.{listed}
use Rattle.sat_act.specs.Settling.{capped}

-- the update that an answer Shown names
abbrev pub shown_by : Answer → Option Label
shown_by (ans.Shown l) = Some l
shown_by _ = None

-- the update that an entry showed, at any site: by a turn or by a stamp, and not by its write
abbrev pub any_shown_entry : List Entry → Entry → Option Label
any_shown_entry before entry = shown_by entry.answer

-- the number of answers Shown
unfoldable pub shown_count : List Entry → ℕ
unfolding listed
shown_count h = length (listed any_shown_entry h)

-- a count of them after one more answer, as it is kept: at most 2^64 - 1
abbrev pub counted : Answer → ℕ → ℕ
counted (ans.Shown l) n = capped (n + 1)
counted _ n = n
