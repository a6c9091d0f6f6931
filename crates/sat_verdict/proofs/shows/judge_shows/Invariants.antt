use Rattle.std.specs.Prelude.{◌≡◌, length, reverse}
use Rattle.sat_verdict.specs.Found.{first_lack, first_again}
use Rattle.sat_verdict.specs.Tables.{told, AreUnshown}
use Rattle.sat_verdict.specs.Walks.{AreDone}
use Rattle.sat_verdict.proofs.shows.judge_shows.Given as goal

abbrev pub invariant-loop-place : goal.invariant-loop-place
invariant-loop-place l =
    (l.causal ≡ first_lack l.sets (reverse l.tales) (told l.tales l.place)) × (l.once ≡ first_again l.sets (reverse l.tales) (told l.tales l.place)) ×
    (length l.unshown.items ≡ length l.tales) × AreUnshown l.sets (reverse l.tales) (told l.tales l.place) l.unshown.items ×
    AreDone l.tales l.numbers l.unshown.items l.done.items
