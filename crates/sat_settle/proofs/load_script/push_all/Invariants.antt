use Rattle.std.proofs.Common.{◌≡◌, ◌++◌, length}
use Rattle.sat_settle.proofs.load_script.push_all.Given as goal

abbrev pub invariant-loop-draft : goal.invariant-loop-draft
invariant-loop-draft l = l.acts ++ l.coming ≡ l.initial.acts ++ l.initial.coming

abbrev pub decreases-loop-draft : goal.decreases-loop-draft
decreases-loop-draft l = length l.coming
