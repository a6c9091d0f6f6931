-- What a settle moved, drawn small within the settle's row: each payload from site to site, and each label from node to
-- node.
use Rattle.std.specs.Prelude.{◌≡◌, ℕ, ◌+◌, ◌-◌, ◌*◌, ◌%◌, nat_lt, Bool, true, false, List, [], ◌∷◌, ◌++◌, map, codes}
use Rattle.std.specs.Prelude.{if◌then◌else◌}
use Rattle.std.specs.List.{flat_map}
use Rattle.std.specs.Fmt.{decimal}
use Rattle.sat_label.specs.declared.label.Label.{Label}
use Rattle.sat_label.specs.declared.label.Kind.{Kind}
use Rattle.sat_label.specs.declared.label.Kind.TheVariants.{Pulse}
use Rattle.sat_label.specs.declared.node.NodeId.{NodeId}
use Rattle.sat_label.specs.declared.node.NodeId.TheVariants.{Site, Serializer}
use Rattle.sat_label.specs.Members.{In}
use Rattle.sat_act.specs.declared.act.Act.{Act}
use Rattle.sat_act.specs.declared.act.Act.TheVariants as act
use Rattle.sat_act.specs.declared.answer.Answer.{Answer}
use Rattle.sat_act.specs.declared.answer.Answer.TheVariants as ans
use Rattle.sat_act.specs.Deployed.{Deployed}
use Rattle.sat_draw.specs.declared.element.Ink.{Ink}
use Rattle.sat_draw.specs.declared.element.Ink.TheVariants as ink
use Rattle.sat_draw.specs.declared.element.Spot.{Spot}
use Rattle.sat_draw.specs.declared.element.Element.{Element}
use Rattle.sat_draw.specs.declared.element.Element.TheVariants.{Small, Word}
use Rattle.sat_draw.specs.declared.trail.Trail.{Trail}
use Rattle.sat_draw.specs.declared.moved.Haul.{Haul}
use Rattle.sat_draw.specs.declared.moved.Moved.{Moved}
use Rattle.sat_draw.specs.declared.geometry.TheConstants.{SMALL_ABOVE, SMALL_STEP, SMALL_STEPS, SMALL_DROP, MOST_SMALL}
use Rattle.sat_draw.specs.declared.geometry.TheConstants.{SMALL_WORDS}
use Rattle.sat_draw.specs.Columns.{site_column, serializer_column, column_x, answers_x, row_y}
use Rattle.sat_draw.specs.Trails.{made, kind_ink}
use Rattle.sat_draw.specs.Rows.{spot_at}

-- ---- what an act moved

abbrev pub is_pulse : Kind → Bool
is_pulse Pulse = true
is_pulse _ = false

-- a label or its payload goes from one node to another, the serializers those of an epoch
abbrev pub haul : Ink → Label → ℕ → NodeId → NodeId → Haul
haul i l e u v = record { ink = i; trail = made l; epoch = e; from = u; to = v }

-- a payload comes from one site to another
abbrev pub payload_hauls : Act → Label → List Haul
payload_hauls (act.Bulk i g j n) l = haul ink.Payload l 0 (Site i) (Site j) ∷ []
payload_hauls _ l = []

-- a serializer hands a label to a site; what it hands to a serializer moves by that one's hop
abbrev pub site_hauls : ℕ → ℕ → Label → NodeId → List Haul
site_hauls e z l (Site j) = haul (kind_ink l.kind) l e (Serializer z) (Site j) ∷ []
site_hauls e z l (Serializer y) = []

-- a hop takes a label from the node before, and hands it on
abbrev pub hop_hauls : Act → Label → List NodeId → List Haul
hop_hauls (act.Hop e u z) l to = haul (kind_ink l.kind) l e u (Serializer z) ∷ flat_map (site_hauls e z l) to
hop_hauls _ l to = []

-- a label that is no pulse: of pulses there is one a site and settle, and they carry no update
abbrev pub label_hauls : Act → Label → List NodeId → List Haul
label_hauls a l to = if is_pulse l.kind then [] else hop_hauls a l to

-- what an act with this answer moved from node to node: a bulk a payload, and a hop a label
unfoldable pub hauls : Act → Answer → List Haul
hauls a (ans.Brought l) = payload_hauls a l
hauls a (ans.Hopped l to) = label_hauls a l to
hauls a _ = []

-- ---- how it is drawn

-- the column of a node
abbrev pub node_column : Deployed → ℕ → NodeId → ℕ
node_column d e (Site i) = site_column d i
node_column d e (Serializer z) = serializer_column d e z

-- how far down it begins: the entries of a settle stand one below the other within its row, behind the last place again
-- at the first one
abbrev pub small_y : Deployed → Moved → ℕ
small_y d m = row_y d m.row - SMALL_ABOVE + (m.place % SMALL_STEPS) * SMALL_STEP

-- a short line from the column of a node to that of another one
abbrev pub small : Deployed → ℕ → Haul → Element
small d y k =
    Small k.ink k.trail (spot_at (column_x (node_column d k.epoch k.from)) y)
    (spot_at (column_x (node_column d k.epoch k.to)) (y + SMALL_DROP))

-- those of an entry of a settle
abbrev pub smalls_of : Deployed → Moved → List Element
smalls_of d m = map (small d (small_y d m)) (hauls m.entry.act m.entry.answer)

-- what stands in a settle's row that has more entries than are drawn
abbrev pub more_text : List ℕ
more_text = codes "first " ++ (decimal MOST_SMALL ++ codes " moves drawn")

abbrev pub more_word : Deployed → Moved → Element
more_word d m = Word ink.Epoch (spot_at (answers_x d + SMALL_WORDS) (row_y d m.row + 4)) more_text

-- the first entries of each settle are drawn, and the next one is told of
abbrev pub moved_at : Deployed → Moved → List Element
moved_at d m = if nat_lt m.place MOST_SMALL then smalls_of d m else more_word d m ∷ []

-- all of these
abbrev pub smalls : Deployed → List Moved → List Element
smalls d ms = flat_map (moved_at d) ms

-- ---- what holds of it

-- a thin line stands for what one of these entries moved: from the column of the node which it left to that of the node
-- to which it came, within the row of its settle
pub record IsMoved (d : Deployed) (ms : List Moved) (i : Ink) (t : Trail) (from to : Spot) : Type 0 where
  pub moved : Moved
  pub among : In ms moved
  pub early : nat_lt moved.place MOST_SMALL ≡ true
  pub what : Haul
  pub moved_it : In (hauls moved.entry.act moved.entry.answer) what
  pub ink_is : i ≡ what.ink
  pub trail_is : t ≡ what.trail
  pub leaves : from ≡ spot_at (column_x (node_column d what.epoch what.from)) (small_y d moved)
  pub comes : to ≡ spot_at (column_x (node_column d what.epoch what.to)) (small_y d moved + SMALL_DROP)

-- a line of what is moved, or a word beside it
abbrev pub is_small : Element → Bool
is_small (Small i t from to) = true
is_small (Word i at text) = true
is_small _ = false

-- each thin line stands for what was moved, each move of the first entries has its line, and nothing else is among them
pub record SmallsAreTold (d : Deployed) (ms : List Moved) : Type 0 where
  pub each : (i : Ink) (t : Trail) (from to : Spot) → In (smalls d ms) (Small i t from to) → IsMoved d ms i t from to
  pub all : (m : Moved) (k : Haul) → In ms m → nat_lt m.place MOST_SMALL ≡ true
      → In (hauls m.entry.act m.entry.answer) k → In (smalls d ms) (small d (small_y d m) k)
  pub others : (x : Element) → In (smalls d ms) x → is_small x ≡ true
