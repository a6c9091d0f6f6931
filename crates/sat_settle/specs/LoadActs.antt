-- The acts of a large script: a table of what is drawn.
use Rattle.std.specs.Prelude.{ℕ, zero, suc, ◌+◌, ◌/◌, ◌%◌, ◌==◌, nat_lt, List, [], ◌∷◌, ◌++◌, length, map, None}
use Rattle.std.specs.Prelude.{slice_get, unwrap_or, codes, if◌then◌else◌}
use Rattle.std.specs.Fmt.{decimal}
use Rattle.sat_label.specs.declared.node.NodeId.{NodeId}
use Rattle.sat_label.specs.declared.node.NodeId.TheVariants.{Site}
use Rattle.sat_label.specs.Words.{below}
use Rattle.sat_tree.specs.Shape.{TreeShape}
use Rattle.sat_tree.specs.Cut.{neighbours}
use Rattle.sat_act.specs.declared.act.Act.{Act}
use Rattle.sat_act.specs.declared.act.Act.TheVariants as act
use Rattle.sat_settle.specs.declared.load_rows.Row.{Row}
use Rattle.sat_settle.specs.declared.load_rows.Row.TheVariants as row
use Rattle.sat_settle.specs.LoadDraws.{after_draws, next_state, number_of, first, second, third}
use Rattle.sat_settle.specs.LoadHeader.{load_tree}

-- the row of a number below 16
unfoldable pub row_of : ℕ → Row
row_of r =
    if nat_lt r 3 then row.Write else
    if r == 3 then row.Read else
    if r == 4 then row.Move else
    if r == 5 then row.Attach else
    if r == 6 then row.Tick else
    if r == 7 then row.Gather else
    if nat_lt r 10 then row.Emit else
    if r == 10 then row.Pulse else
    if r == 11 then row.Hop else
    if nat_lt r 14 then row.Bulk else
    row.Turn

-- how many draws a row takes
abbrev pub draws_of : Row → ℕ
draws_of row.Write = 2
draws_of row.Read = 2
draws_of row.Move = 2
draws_of row.Attach = 2
draws_of row.Tick = 2
draws_of row.Gather = 1
draws_of row.Emit = 1
draws_of row.Pulse = 1
draws_of row.Hop = 3
draws_of row.Bulk = 3
draws_of row.Turn = 1

-- the neighbour of a serializer at a place
unfoldable pub neighbour : TreeShape → ℕ → ℕ → NodeId
unfolding neighbours
neighbour tree z place = unwrap_or (slice_get (neighbours tree z) place) (Site 0)

-- a serializer of a tree, and one of its neighbours, from which it handles a label
abbrev pub hop_in : TreeShape → ℕ → ℕ → Act
hop_in tree epoch x =
    let to = second x (length tree.parents) in
    act.Hop epoch (neighbour tree to (third x (length (neighbours tree to)))) to

abbrev pub hop_act : ℕ → Act
hop_act x = hop_in (load_tree (1 + first x 2)) (1 + first x 2) x

-- a lane of one site for another
abbrev pub bulk_act : ℕ → Act
bulk_act x = act.Bulk (first x 5) (second x 4) ((first x 5 + 1 + third x 4) % 5) None

-- the act of a row, from a state on, that is the act of number k
unfoldable pub row_act : Row → ℕ → ℕ → Act
unfolding neighbour
row_act row.Write k x = act.Write (first x 40) (second x 200) (codes "v" ++ decimal k)
row_act row.Read k x = act.Read (first x 40) (second x 200)
row_act row.Move k x = act.Move (first x 40) (second x 5)
row_act row.Attach k x = act.Attach (first x 40) (second x 5)
row_act row.Tick k x = act.Tick (first x 5) (second x 4) k
row_act row.Gather k x = act.Gather (first x 5)
row_act row.Emit k x = act.Emit (first x 5)
row_act row.Pulse k x = act.Pulse (first x 5)
row_act row.Hop k x = hop_act x
row_act row.Bulk k x = bulk_act x
row_act row.Turn k x = act.Turn (first x 5)

-- what the first draw from a state chooses
abbrev pub row_at : ℕ → Row
row_at x = row_of (first x 16)

-- the state after an act that was drawn from a state on
abbrev pub after_act : ℕ → ℕ
after_act x = after_draws (draws_of (row_at x)) (next_state x)

-- act number k, drawn from a state on
abbrev pub act_at : ℕ → ℕ → Act
act_at k x = row_act (row_at x) k (next_state x)

-- every site closes its epoch
abbrev pub closes : List Act
closes = map act.Close (below 5)

-- this comes right after the act in the middle of n
abbrev pub closes_after : ℕ → ℕ → List Act
closes_after n k = if k == n / 2 then closes else []

-- a state, and the acts that were made on the way to it
pub record MadeActs : Type 0 where
  pub state : ℕ
  pub acts : List Act

-- act number k of n, and what comes right after it
abbrev pub with_act : ℕ → ℕ → MadeActs → MadeActs
with_act n k made = record { state = after_act made.state; acts = made.acts ++ act_at k made.state ∷ closes_after n k }

-- the acts of the numbers 1 to k, of n
unfoldable pub made_acts : ℕ → ℕ → ℕ → MadeActs
unfolding row_of row_act number_of next_state load_tree
made_acts seed n zero = record { state = seed; acts = [] }
made_acts seed n (suc k) = with_act n (suc k) (made_acts seed n k)

-- n acts that are drawn, in their middle the closes, and last a settle
unfoldable pub load_acts : ℕ → ℕ → List Act
unfolding made_acts
load_acts seed n = (made_acts seed n n).acts ++ act.Settle ∷ []
