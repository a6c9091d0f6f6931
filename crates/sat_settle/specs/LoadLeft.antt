-- The acts of a large script that are still to come.
use Rattle.std.specs.Prelude.{ℕ, zero, suc, ◌-◌, Bool, true, false, List, [], ◌∷◌, ◌++◌, drop}
use Rattle.sat_act.specs.declared.act.Act.{Act}
use Rattle.sat_act.specs.declared.act.Act.TheVariants as act
use Rattle.sat_settle.specs.LoadActs.{act_at, after_act, closes, closes_after}

-- so many acts that are drawn from a state on, behind act number k of n, each with what comes right after it
unfoldable pub drawn_from : ℕ → ℕ → ℕ → ℕ → List Act
drawn_from x n k zero = []
drawn_from x n k (suc left) = act_at (suc k) x ∷ closes_after n (suc k) ++ drawn_from (after_act x) n (suc k) left

-- the settle, where it is still to come
abbrev pub last_act : Bool → List Act
last_act true = []
last_act false = act.Settle ∷ []

-- what comes behind the first so many closes, from a state on, where k of n acts were drawn
unfoldable pub to_come : ℕ → ℕ → ℕ → ℕ → Bool → List Act
unfolding drawn_from
to_come closed x n k settled = drop closed closes ++ drawn_from x n k (n - k) ++ last_act settled
