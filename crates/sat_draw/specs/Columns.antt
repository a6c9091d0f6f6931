-- Where the columns of a drawing stand: first what is outside of all nodes, then half of the sites, the serializers of
-- each epoch, and the other sites. So the way of a label through a tree leads over the columns between its sites.
use Rattle.std.specs.Prelude.{ℕ, ◌+◌, ◌-◌, ◌*◌, ◌/◌, ◌==◌, nat_le, nat_lt, List, [], ◌∷◌, length, take, Option, Some}
use Rattle.std.specs.Prelude.{None, slice_get, if◌then◌else◌}
use Rattle.sat_act.specs.declared.deployment.Plan.{Plan}
use Rattle.sat_act.specs.declared.deployment.Plan.TheVariants as plan
use Rattle.sat_act.specs.declared.act.Act.{Act}
use Rattle.sat_act.specs.declared.act.Act.TheVariants as act
use Rattle.sat_act.specs.Deployed.{Deployed}
use Rattle.sat_draw.specs.declared.geometry.TheConstants.{OUTSIDE, FIRST_COLUMN, COLUMN, ANSWERS, ROW, TREES, STEP}
use Rattle.sat_draw.specs.declared.geometry.TheConstants.{TREE_MARGINS, NAMES}

-- how many serializers a plan has
abbrev pub serializers_of : Plan → ℕ
serializers_of plan.Stamp = 0
serializers_of (plan.Tree tree) = length tree.parents

abbrev pub serializers_in : List Plan → ℕ
serializers_in [] = 0
serializers_in (p ∷ ps) = serializers_of p + serializers_in ps

-- how many sites stand left of the serializers
abbrev pub left_sites : Deployed → ℕ
left_sites d = (d.sites + 1) / 2

-- the column of a site; what is no site stands outside
abbrev pub site_column : Deployed → ℕ → ℕ
site_column d i =
    if nat_le d.sites i then 0 else (if nat_lt i (left_sites d) then i + 1 else serializers_in d.plans + i + 1)

-- the plan of an epoch: they count from 1
abbrev pub plan_of : Deployed → ℕ → Option Plan
plan_of d epoch = if epoch == 0 then None else slice_get d.plans (epoch - 1)

-- the column of serializer z where its epoch has this plan
abbrev pub column_in : Deployed → ℕ → ℕ → Option Plan → ℕ
column_in d epoch z None = 0
column_in d epoch z (Some p) =
    if nat_lt z (serializers_of p) then left_sites d + serializers_in (take (epoch - 1) d.plans) + z + 1 else 0

-- the column of a serializer of an epoch's tree; what is none stands outside
abbrev pub serializer_column : Deployed → ℕ → ℕ → ℕ
serializer_column d epoch z = column_in d epoch z (plan_of d epoch)

-- how many columns there are
abbrev pub columns : Deployed → ℕ
columns d = d.sites + serializers_in d.plans + 1

-- the column of a client's seat; without one it stands outside
abbrev pub seat_column : Deployed → Option ℕ → ℕ
seat_column d None = 0
seat_column d (Some i) = site_column d i

-- the column of an act, by the seats of the clients: an act of a client is at its seat, an attach at the site that is
-- asked, a bulk and a beat that comes in at the site that takes it; a clock and a settle are outside
abbrev pub act_column : Deployed → (ℕ → Option ℕ) → Act → ℕ
act_column d seat (act.Tick i g ts) = site_column d i
act_column d seat act.Clock = 0
act_column d seat (act.Write c x v) = seat_column d (seat c)
act_column d seat (act.Writes c items values) = seat_column d (seat c)
act_column d seat (act.Read c x) = seat_column d (seat c)
act_column d seat (act.Move c j) = seat_column d (seat c)
act_column d seat (act.Leave c) = seat_column d (seat c)
act_column d seat (act.Attach c j) = site_column d j
act_column d seat (act.Gather i) = site_column d i
act_column d seat (act.Emit i) = site_column d i
act_column d seat (act.Pulse i) = site_column d i
act_column d seat (act.Hop e u z) = serializer_column d e z
act_column d seat (act.Turn j) = site_column d j
act_column d seat (act.Bulk i g j n) = site_column d j
act_column d seat (act.Beat i j) = site_column d i
act_column d seat (act.BeatIn i j n) = site_column d j
act_column d seat (act.Stamp j) = site_column d j
act_column d seat (act.Close i) = site_column d i
act_column d seat (act.Fall j) = site_column d j
act_column d seat (act.Advance j) = site_column d j
act_column d seat (act.Kill e z) = serializer_column d e z
act_column d seat act.Settle = 0

-- ---- in pixels

-- from the left
abbrev pub column_x : ℕ → ℕ
column_x column = if column == 0 then OUTSIDE else FIRST_COLUMN + (column - 1) * COLUMN

-- where the answers stand: right of the last column
abbrev pub answers_x : Deployed → ℕ
answers_x d = column_x (columns d - 1) + ANSWERS

-- what a plan's tree takes
abbrev pub plan_height : Plan → ℕ
plan_height p = serializers_of p * STEP + TREE_MARGINS

abbrev pub plans_height : List Plan → ℕ
plans_height [] = 0
plans_height (p ∷ ps) = plan_height p + plans_height ps

-- from the top: where the rows begin, below the trees and the names of the columns
abbrev pub rows_top : Deployed → ℕ
rows_top d = TREES + plans_height d.plans + NAMES

-- how far down a row lies
abbrev pub row_y : Deployed → ℕ → ℕ
row_y d row = rows_top d + row * ROW
