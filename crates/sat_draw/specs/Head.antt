-- What stands above and behind the rows: the columns with their names, and the tree of each epoch.
use Rattle.std.specs.List.{flat_map}
use Rattle.std.specs.Prelude.{ℕ, zero, suc, ◌+◌, ◌-◌, ◌*◌, ◌/◌, ◌==◌, nat_lt, List, [], ◌∷◌, ◌++◌, length, Option, Some}
use Rattle.std.specs.Prelude.{None, codes, if◌then◌else◌}
use Rattle.std.specs.Fmt.{decimal}
use Rattle.sat_label.specs.declared.node.NodeId.TheVariants.{Site, Serializer}
use Rattle.sat_label.specs.Text.{node_text}
use Rattle.sat_tree.specs.Shape.{TreeShape}
use Rattle.sat_tree.specs.Cut.{parent_of, seat_of}
use Rattle.sat_act.specs.declared.deployment.ClientLine.{ClientLine}
use Rattle.sat_act.specs.declared.deployment.Plan.{Plan}
use Rattle.sat_act.specs.declared.deployment.Plan.TheVariants as plan
use Rattle.sat_act.specs.Deployed.{Deployed}
use Rattle.sat_draw.specs.declared.element.Ink.TheVariants as ink
use Rattle.sat_draw.specs.declared.element.Spot.{Spot}
use Rattle.sat_draw.specs.declared.element.Element.{Element}
use Rattle.sat_draw.specs.declared.element.Element.TheVariants.{Line, Dot, Word}
use Rattle.sat_draw.specs.declared.geometry.TheConstants.{TREES, STEP, ABOVE, NAMES_APART, NAMES_SPARED}
use Rattle.sat_draw.specs.Columns.{site_column, serializer_column, column_x, plan_height, rows_top, row_y}
use Rattle.sat_draw.specs.Rows.{spot_at}

-- the name of a column
abbrev pub name_at : ℕ → ℕ → List ℕ → Element
name_at column y name = Word ink.Name (spot_at (column_x column) y) name

-- how often it has its name again between the first row and the last one
abbrev pub repeats : ℕ → ℕ → ℕ
repeats top bottom =
    if nat_lt bottom (top + NAMES_SPARED) then 0 else (bottom - (top + NAMES_SPARED)) / NAMES_APART

-- the first n of these, each above a row
unfoldable pub names : ℕ → ℕ → List ℕ → ℕ → List Element
names top column name zero = []
names top column name (suc n) = names top column name n ++ name_at column (top + (n + 1) * NAMES_APART - 8) name ∷ []

-- a column from above the first row to below the last one, with its name
abbrev pub lane : ℕ → ℕ → ℕ → List ℕ → List Element
lane top bottom column name =
    (Line ink.Lane (spot_at (column_x column) (top - 24)) (spot_at (column_x column) bottom)
    ∷ name_at column (top - 30) name ∷ name_at column (bottom + 18) name ∷ [])
    ++ names top column name (repeats top bottom)

-- the names of the clients whose first seat is at a site, each with a blank
abbrev pub name_for : ℕ → ClientLine → List ℕ
name_for i client = if client.site == i then client.name ++ 32 ∷ [] else []

abbrev pub names_for : List ClientLine → ℕ → List ℕ
names_for clients i = flat_map (name_for i) clients

-- they stand beside where their bands begin
abbrev pub first_clients : ℕ → ℕ → List ℕ → Element
first_clients top column names = Word ink.Client (spot_at (column_x column + 9) (top - ABOVE)) names

-- the column of a site, with its first clients
abbrev pub site_lane : Deployed → ℕ → ℕ → ℕ → List Element
site_lane d top bottom i =
    lane top bottom (site_column d i) (node_text (Site i))
    ++ first_clients top (site_column d i) (names_for d.clients i) ∷ []

-- the columns of the first n sites
unfoldable pub site_lanes : Deployed → ℕ → ℕ → ℕ → List Element
unfolding node_text names
site_lanes d top bottom zero = []
site_lanes d top bottom (suc i) = site_lanes d top bottom i ++ site_lane d top bottom i

-- ---- an epoch's tree, drawn from y downwards: the root above, each serializer below the one it hangs on, the sites at
-- the bottom

abbrev pub tree_y : ℕ → ℕ → ℕ
tree_y y place = y + 20 + place * STEP

abbrev pub serializer_spot : Deployed → ℕ → ℕ → ℕ → Spot
serializer_spot d epoch y z = spot_at (column_x (serializer_column d epoch z)) (tree_y y z)

abbrev pub site_spot : Deployed → ℕ → TreeShape → ℕ → Spot
site_spot d y tree i = spot_at (column_x (site_column d i)) (tree_y y (length tree.parents))

-- a node and its name, which stands there: of a serializer above it, of a site below it, where no edge leads
abbrev pub node : Spot → Spot → List ℕ → List Element
node at there name = Dot ink.Node at name ∷ Word ink.Epoch there name ∷ []

abbrev pub name_above : Spot → Spot
name_above at = spot_at (at.x + 7) (at.y - 5)

abbrev pub name_below : Spot → Spot
name_below at = spot_at (at.x + 7) (at.y + 13)

-- the edge from a serializer to the one that it hangs on
abbrev pub branch : Deployed → ℕ → ℕ → ℕ → Option ℕ → List Element
branch d epoch y z None = []
branch d epoch y z (Some p) = Line ink.Edge (serializer_spot d epoch y z) (serializer_spot d epoch y p) ∷ []

-- the name of a serializer's column
abbrev pub column_name : ℕ → ℕ → List ℕ
column_name epoch z = node_text (Serializer z) ++ (codes " of epoch " ++ decimal epoch)

-- what is drawn of a serializer: its edge, its node, and its column
abbrev pub serializer_elements : Deployed → ℕ → ℕ → ℕ → ℕ → TreeShape → ℕ → List Element
serializer_elements d top bottom epoch y tree z =
    branch d epoch y z (parent_of tree.parents z)
    ++ (node (serializer_spot d epoch y z) (name_above (serializer_spot d epoch y z)) (node_text (Serializer z))
    ++ lane top bottom (serializer_column d epoch z) (column_name epoch z))

unfoldable pub serializers_elements : Deployed → ℕ → ℕ → ℕ → ℕ → TreeShape → ℕ → List Element
unfolding node_text parent_of names
serializers_elements d top bottom epoch y tree zero = []
serializers_elements d top bottom epoch y tree (suc z) =
    serializers_elements d top bottom epoch y tree z ++ serializer_elements d top bottom epoch y tree z

-- what is drawn of a site in a tree: its edge and its node
abbrev pub seat_elements : Deployed → ℕ → ℕ → TreeShape → ℕ → List Element
seat_elements d epoch y tree i =
    Line ink.Edge (site_spot d y tree i) (serializer_spot d epoch y (seat_of tree i))
    ∷ node (site_spot d y tree i) (name_below (site_spot d y tree i)) (node_text (Site i))

unfoldable pub seats_elements : Deployed → ℕ → ℕ → TreeShape → ℕ → List Element
unfolding node_text seat_of
seats_elements d epoch y tree zero = []
seats_elements d epoch y tree (suc i) = seats_elements d epoch y tree i ++ seat_elements d epoch y tree i

-- the name of an epoch, and how it goes where it has no tree
abbrev pub epoch_name : ℕ → Plan → List ℕ
epoch_name epoch plan.Stamp = codes "epoch " ++ (decimal epoch ++ codes ": by timestamps, without a tree")
epoch_name epoch (plan.Tree tree) = codes "epoch " ++ decimal epoch

abbrev pub tree_elements : Deployed → ℕ → ℕ → ℕ → ℕ → Plan → List Element
tree_elements d top bottom epoch y plan.Stamp = []
tree_elements d top bottom epoch y (plan.Tree tree) =
    serializers_elements d top bottom epoch y tree (length tree.parents)
    ++ seats_elements d epoch y tree (length tree.seats)

abbrev pub plan_elements : Deployed → ℕ → ℕ → ℕ → ℕ → Plan → List Element
plan_elements d top bottom epoch y p =
    Word ink.Epoch (spot_at 8 (y + 24)) (epoch_name epoch p) ∷ tree_elements d top bottom epoch y p

-- those of the plans from an epoch on, one below the other
unfoldable pub plans_elements : Deployed → ℕ → ℕ → ℕ → ℕ → List Plan → List Element
unfolding serializers_elements seats_elements
plans_elements d top bottom epoch y [] = []
plans_elements d top bottom epoch y (p ∷ ps) =
    plan_elements d top bottom epoch y p ++ plans_elements d top bottom (epoch + 1) (y + plan_height p) ps

-- ---- what it is of

-- so many of something
abbrev pub counted : ℕ → List ℕ → List ℕ
counted n word = if n == 1 then decimal n ++ 32 ∷ word else decimal n ++ 32 ∷ (word ++ codes "s")

-- the title of a drawing with so many rows
unfoldable pub caption : Deployed → ℕ → List ℕ
caption d count =
    codes "A run of Saturn: " ++ (counted count (codes "act") ++ (codes ", " ++ (counted d.sites (codes "site")
    ++ (codes ", " ++ counted (length d.clients) (codes "client")))))

-- all that stands above and behind so many rows
unfoldable pub head : Deployed → ℕ → List Element
unfolding caption site_lanes plans_elements
head d count =
    Word ink.Title (spot_at 8 22) (caption d count)
    ∷ (lane (rows_top d) (row_y d count) 0 (codes "outside")
    ++ (site_lanes d (rows_top d) (row_y d count) d.sites
    ++ plans_elements d (rows_top d) (row_y d count) 1 TREES d.plans))
