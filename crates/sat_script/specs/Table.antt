-- The lines of acts as one table: the word that an act begins with, the kinds of the words after it, and for each kind
-- its shape, what it must name, what it says and how it is spelled. The causes stand in one line, in their order, each
-- over all words of the line.
use Rattle.std.specs.Prelude.{ℕ, ◌^◌, ◌-◌, List, [], ◌∷◌, Bool, true, false, ◌&&◌, ◌==◌, nat_lt, length, Option, Some}
use Rattle.std.specs.Prelude.{None, Result, Ok, Err, is_some, codes, slice_get, if◌then◌else◌}
use Rattle.std.specs.Option.{option_map}
use Rattle.std.specs.Fmt.{decimal}
use Rattle.std.specs.List.{list_all}
use Rattle.std.specs.Str.{bytes_eq}
use Rattle.sat_label.specs.Text.{is_name, is_value, node_text}
use Rattle.sat_label.specs.Grouped.{are_items, list_of}
use Rattle.sat_label.specs.declared.items.Items.{Items}
use Rattle.sat_label.specs.declared.items.Items.TheVariants.{One, Two, Three, Four}
use Rattle.sat_label.specs.declared.node.NodeId.{NodeId}
use Rattle.sat_label.specs.declared.node.NodeId.TheVariants.{Site, Serializer}
use Rattle.sat_tree.specs.Shape.{TreeShape}
use Rattle.sat_tree.specs.Cut.{is_edge}
use Rattle.sat_act.specs.Deployed.{Deployed}
use Rattle.sat_act.specs.Parts.{tree_of}
use Rattle.sat_act.specs.declared.act.Act.{Act}
use Rattle.sat_act.specs.declared.act.Act.TheVariants as act
use Rattle.sat_script.specs.Causes.{needs, barred, given, client_of, item_of}
use Rattle.sat_script.specs.Dialect.{allows}
use Rattle.sat_script.specs.Words.{is_token, is_number, is_node, is_serializer, number_below, number_to, number_up_to}
use Rattle.sat_script.specs.Words.{node_in, serializer_in}
use Rattle.sat_script.specs.declared.fault.Cause.{Cause}
use Rattle.sat_script.specs.declared.fault.Cause.TheVariants.{BadAct, UnknownName, OutOfRange, NoEdge, BadGroup}
use Rattle.sat_script.specs.declared.form.Form.{Form}
use Rattle.sat_script.specs.declared.form.Kind.{Kind}
use Rattle.sat_script.specs.declared.form.Kind.TheVariants as kind
use Rattle.sat_script.specs.declared.form.Form.TheVariants as form

-- what a word says: a place in a list, a number, a value or a node
pub data Said : Type 0 where
  place : ℕ → Said
  num : ℕ → Said
  bytes : List ℕ → Said
  at : NodeId → Said

-- ---- the table

-- the word that the acts of a form begin with
abbrev pub word_of : Form → List ℕ
word_of form.Tick = codes "tick"
word_of form.Clock = codes "clock"
word_of form.Write = codes "write"
word_of form.WritesTwo = codes "writes"
word_of form.WritesThree = codes "writes"
word_of form.WritesFour = codes "writes"
word_of form.Read = codes "read"
word_of form.Move = codes "move"
word_of form.Leave = codes "leave"
word_of form.Attach = codes "attach"
word_of form.Gather = codes "gather"
word_of form.Emit = codes "emit"
word_of form.Pulse = codes "pulse"
word_of form.Hop = codes "hop"
word_of form.Turn = codes "turn"
word_of form.Bulk = codes "bulk"
word_of form.NumberedBulk = codes "bulk"
word_of form.Beat = codes "beat"
word_of form.BeatIn = codes "beatin"
word_of form.Stamp = codes "stamp"
word_of form.Close = codes "close"
word_of form.Fall = codes "fall"
word_of form.Advance = codes "advance"
word_of form.Kill = codes "kill"
word_of form.Settle = codes "settle"
word_of _ = []

-- what the words after it stand for
abbrev pub kinds_of : Form → List Kind
kinds_of form.Tick = kind.Site ∷ kind.Gear ∷ kind.Ts ∷ []
kinds_of form.Write = kind.Client ∷ kind.Item ∷ kind.Value ∷ []
kinds_of form.WritesTwo = kind.Client ∷ kind.Item ∷ kind.Value ∷ kind.Item ∷ kind.Value ∷ []
kinds_of form.WritesThree = kind.Client ∷ kind.Item ∷ kind.Value ∷ kind.Item ∷ kind.Value ∷ kind.Item ∷ kind.Value ∷ []
kinds_of form.WritesFour =
    kind.Client ∷ kind.Item ∷ kind.Value ∷ kind.Item ∷ kind.Value ∷ kind.Item ∷ kind.Value ∷ kind.Item ∷ kind.Value ∷ []
kinds_of form.Read = kind.Client ∷ kind.Item ∷ []
kinds_of form.Move = kind.Client ∷ kind.Site ∷ []
kinds_of form.Leave = kind.Client ∷ []
kinds_of form.Attach = kind.Client ∷ kind.Site ∷ []
kinds_of form.Gather = kind.Site ∷ []
kinds_of form.Emit = kind.Site ∷ []
kinds_of form.Pulse = kind.Site ∷ []
kinds_of form.Hop = kind.Epoch ∷ kind.Node ∷ kind.Serializer ∷ []
kinds_of form.Turn = kind.Site ∷ []
kinds_of form.Bulk = kind.Site ∷ kind.Gear ∷ kind.Site ∷ []
kinds_of form.NumberedBulk = kind.Site ∷ kind.Gear ∷ kind.Site ∷ kind.Count ∷ []
kinds_of form.Beat = kind.Site ∷ kind.Site ∷ []
kinds_of form.BeatIn = kind.Site ∷ kind.Site ∷ kind.Count ∷ []
kinds_of form.Stamp = kind.Site ∷ []
kinds_of form.Close = kind.Site ∷ []
kinds_of form.Fall = kind.Site ∷ []
kinds_of form.Advance = kind.Site ∷ []
kinds_of form.Kill = kind.Epoch ∷ kind.Serializer ∷ []
kinds_of _ = []

-- the forms of acts, in the order in which they are tried
abbrev pub act_forms : List Form
act_forms =
    form.Hop ∷ form.Bulk ∷ form.Turn ∷ form.Tick ∷ form.Write ∷ form.Read ∷ form.Emit ∷ form.Gather ∷ form.NumberedBulk
    ∷ form.Pulse ∷ form.Beat ∷ form.BeatIn ∷ form.Stamp ∷ form.Move ∷ form.Leave ∷ form.Attach ∷ form.Clock ∷ form.Close
    ∷ form.Fall ∷ form.Advance ∷ form.Kill ∷ form.Settle ∷ form.WritesTwo ∷ form.WritesThree ∷ form.WritesFour ∷ []

-- the words at their places; 0 or nothing where there is no such word
abbrev pub place_in : Option Said → ℕ
place_in (Some (place n)) = n
place_in _ = 0

-- a number
abbrev pub num_in : Option Said → ℕ
num_in (Some (num n)) = n
num_in _ = 0

-- a value
abbrev pub bytes_in : Option Said → List ℕ
bytes_in (Some (bytes v)) = v
bytes_in _ = []

-- a node
abbrev pub node_in_said : Option Said → NodeId
node_in_said (Some (at u)) = u
node_in_said _ = Site 0

-- the place that a word says, and then a number, a value and a node
abbrev pub place_at : List Said → ℕ → ℕ
place_at xs k = place_in (slice_get xs k)

abbrev pub num_at : List Said → ℕ → ℕ
num_at xs k = num_in (slice_get xs k)

abbrev pub bytes_at : List Said → ℕ → List ℕ
bytes_at xs k = bytes_in (slice_get xs k)

abbrev pub node_at : List Said → ℕ → NodeId
node_at xs k = node_in_said (slice_get xs k)

-- the act that writes some items under one label, where each value is one
abbrev pub group_of : ℕ → Items → List (List ℕ) → Option Act
group_of c items values = if list_all is_value values then Some (act.Writes c items values) else None

-- the act that words of these kinds say
abbrev pub act_of : Form → List Said → Option Act
act_of form.Tick xs = Some (act.Tick (place_at xs 0) (place_at xs 1) (num_at xs 2))
act_of form.Clock xs = Some act.Clock
act_of form.Write xs =
    if is_value (bytes_at xs 2) then Some (act.Write (place_at xs 0) (place_at xs 1) (bytes_at xs 2)) else None
act_of form.WritesTwo xs =
    group_of (place_at xs 0) (Two (place_at xs 1) (place_at xs 3)) (bytes_at xs 2 ∷ bytes_at xs 4 ∷ [])
act_of form.WritesThree xs =
    group_of (place_at xs 0) (Three (place_at xs 1) (place_at xs 3) (place_at xs 5))
    (bytes_at xs 2 ∷ bytes_at xs 4 ∷ bytes_at xs 6 ∷ [])
act_of form.WritesFour xs =
    group_of (place_at xs 0) (Four (place_at xs 1) (place_at xs 3) (place_at xs 5) (place_at xs 7))
    (bytes_at xs 2 ∷ bytes_at xs 4 ∷ bytes_at xs 6 ∷ bytes_at xs 8 ∷ [])
act_of form.Read xs = Some (act.Read (place_at xs 0) (place_at xs 1))
act_of form.Move xs = Some (act.Move (place_at xs 0) (place_at xs 1))
act_of form.Leave xs = Some (act.Leave (place_at xs 0))
act_of form.Attach xs = Some (act.Attach (place_at xs 0) (place_at xs 1))
act_of form.Gather xs = Some (act.Gather (place_at xs 0))
act_of form.Emit xs = Some (act.Emit (place_at xs 0))
act_of form.Pulse xs = Some (act.Pulse (place_at xs 0))
act_of form.Hop xs = Some (act.Hop (place_at xs 0) (node_at xs 1) (place_at xs 2))
act_of form.Turn xs = Some (act.Turn (place_at xs 0))
act_of form.Bulk xs = Some (act.Bulk (place_at xs 0) (place_at xs 1) (place_at xs 2) None)
act_of form.NumberedBulk xs = Some (act.Bulk (place_at xs 0) (place_at xs 1) (place_at xs 2) (Some (num_at xs 3)))
act_of form.Beat xs = Some (act.Beat (place_at xs 0) (place_at xs 1))
act_of form.BeatIn xs = Some (act.BeatIn (place_at xs 0) (place_at xs 1) (num_at xs 2))
act_of form.Stamp xs = Some (act.Stamp (place_at xs 0))
act_of form.Close xs = Some (act.Close (place_at xs 0))
act_of form.Fall xs = Some (act.Fall (place_at xs 0))
act_of form.Advance xs = Some (act.Advance (place_at xs 0))
act_of form.Kill xs = Some (act.Kill (place_at xs 0) (place_at xs 1))
act_of form.Settle xs = Some act.Settle
act_of _ xs = None

-- the form of an act that writes a group. A group of one has none: its words are too few for this one
abbrev pub group_form : Items → Form
group_form (One x) = form.WritesTwo
group_form (Two x y) = form.WritesTwo
group_form (Three x y z) = form.WritesThree
group_form (Four x y z w) = form.WritesFour

-- the form of an act
abbrev pub form_of : Act → Form
form_of (act.Tick i g t) = form.Tick
form_of act.Clock = form.Clock
form_of (act.Write c x v) = form.Write
form_of (act.Writes c items values) = group_form items
form_of (act.Read c x) = form.Read
form_of (act.Move c j) = form.Move
form_of (act.Leave c) = form.Leave
form_of (act.Attach c j) = form.Attach
form_of (act.Gather i) = form.Gather
form_of (act.Emit i) = form.Emit
form_of (act.Pulse i) = form.Pulse
form_of (act.Hop e u z) = form.Hop
form_of (act.Turn i) = form.Turn
form_of (act.Bulk i g j None) = form.Bulk
form_of (act.Bulk i g j (Some n)) = form.NumberedBulk
form_of (act.Beat i j) = form.Beat
form_of (act.BeatIn i j n) = form.BeatIn
form_of (act.Stamp i) = form.Stamp
form_of (act.Close i) = form.Close
form_of (act.Fall i) = form.Fall
form_of (act.Advance i) = form.Advance
form_of (act.Kill e z) = form.Kill
form_of act.Settle = form.Settle

-- what the words of items and values say, by turns, as far as there are both
abbrev pub pairs : List ℕ → List (List ℕ) → List Said
pairs (x ∷ xs) (v ∷ vs) = place x ∷ bytes v ∷ pairs xs vs
pairs _ _ = []

-- what the words of an act say
abbrev pub args_of : Act → List Said
args_of (act.Tick i g t) = place i ∷ place g ∷ num t ∷ []
args_of act.Clock = []
args_of (act.Write c x v) = place c ∷ place x ∷ bytes v ∷ []
args_of (act.Writes c items values) = place c ∷ pairs (list_of items) values
args_of (act.Read c x) = place c ∷ place x ∷ []
args_of (act.Move c j) = place c ∷ place j ∷ []
args_of (act.Leave c) = place c ∷ []
args_of (act.Attach c j) = place c ∷ place j ∷ []
args_of (act.Gather i) = place i ∷ []
args_of (act.Emit i) = place i ∷ []
args_of (act.Pulse i) = place i ∷ []
args_of (act.Hop e u z) = place e ∷ at u ∷ place z ∷ []
args_of (act.Turn i) = place i ∷ []
args_of (act.Bulk i g j None) = place i ∷ place g ∷ place j ∷ []
args_of (act.Bulk i g j (Some n)) = place i ∷ place g ∷ place j ∷ num n ∷ []
args_of (act.Beat i j) = place i ∷ place j ∷ []
args_of (act.BeatIn i j n) = place i ∷ place j ∷ num n ∷ []
args_of (act.Stamp i) = place i ∷ []
args_of (act.Close i) = place i ∷ []
args_of (act.Fall i) = place i ∷ []
args_of (act.Advance i) = place i ∷ []
args_of (act.Kill e z) = place e ∷ place z ∷ []
args_of act.Settle = []

-- ---- the texts of names

-- the name of a client or an item; none where the deployment has no such number
abbrev pub client_name : Deployed → ℕ → List ℕ
client_name d c = elim (slice_get d.clients c) [ None ↦ [] | Some line ↦ line.name ]

-- and of an item
abbrev pub item_name : Deployed → ℕ → List ℕ
item_name d x = elim (slice_get d.items x) [ None ↦ [] | Some item ↦ item.name ]

-- ---- what each kind of word is

-- what keeps the line from having its form
abbrev pub shape : Kind → List ℕ → Bool
shape kind.Client w = is_name w
shape kind.Item w = is_name w
shape kind.Value w = is_token w
shape kind.Node w = is_node w
shape kind.Serializer w = is_serializer w
shape _ w = is_number w

-- a name that the header has
abbrev pub known : Deployed → Kind → List ℕ → Bool
known d kind.Client w = is_some (client_of d w)
known d kind.Item w = is_some (item_of d w)
known d _ w = true

-- what it says, in an epoch's tree
abbrev pub says : Deployed → TreeShape → Kind → List ℕ → Option Said
says d t kind.Client w = option_map place (client_of d w)
says d t kind.Item w = option_map place (item_of d w)
says d t kind.Value w = if is_value w then Some (bytes w) else None
says d t kind.Site w = option_map place (number_below d.sites w)
says d t kind.Gear w = option_map place (number_below d.gears w)
says d t kind.Ts w = option_map num (number_up_to (2 ^ 62) w)
says d t kind.Count w = option_map num (number_up_to (2 ^ 64 - 1) w)
says d t kind.Epoch w = option_map place (number_to (length d.plans) w)
says d t kind.Node w = option_map at (node_in t w)
says d t kind.Serializer w = option_map place (serializer_in t w)

-- how it is spelled
abbrev pub text : Deployed → Kind → Said → List ℕ
text d kind.Client (place c) = client_name d c
text d kind.Item (place x) = item_name d x
text d kind.Serializer (place z) = node_text (Serializer z)
text d k (place n) = decimal n
text d k (num n) = decimal n
text d k (bytes v) = v
text d k (at u) = node_text u

-- ---- a line

-- as many words as kinds, each of its shape
abbrev pub shapes : List Kind → List (List ℕ) → Bool
shapes [] ws = length ws == 0
shapes (k ∷ ks) [] = false
shapes (k ∷ ks) (w ∷ ws) = shape k w && shapes ks ws

-- each name is one of the header
abbrev pub all_known : Deployed → List Kind → List (List ℕ) → Bool
all_known d [] ws = true
all_known d (k ∷ ks) [] = true
all_known d (k ∷ ks) (w ∷ ws) = known d k w && all_known d ks ws

-- one more before the others
abbrev pub onto : Said → Result (List Said) Cause → Result (List Said) Cause
onto a (Ok more) = Ok (a ∷ more)
onto a (Err cause) = Err cause

-- the words in turn; an epoch says in which tree the nodes after it stand
abbrev pub in_tree : Deployed → Kind → TreeShape → Said → (TreeShape → Result (List Said) Cause)
    → Result (List Said) Cause
in_tree d kind.Epoch t (place e) next = given NoEdge (tree_of d e) next
in_tree d _ t a next = next t

-- what the words say, or the cause of the first that says nothing
abbrev pub all_say : Deployed → TreeShape → List Kind → List (List ℕ) → Result (List Said) Cause
all_say d t (k ∷ ks) (w ∷ ws) = given OutOfRange (says d t k w) (λ a. in_tree d k t a (λ u. onto a (all_say d u ks ws)))
all_say d t _ _ = Ok []

-- before any epoch there is no tree
abbrev pub no_tree : TreeShape
no_tree = record { parents = []; seats = [] }

-- whether a node is one of the tree
abbrev pub has_node : TreeShape → NodeId → Bool
has_node t (Site i) = nat_lt i (length t.seats)
has_node t (Serializer z) = nat_lt z (length t.parents)

-- whether a node of the tree and a serializer of it are neighbours
abbrev pub joins : TreeShape → NodeId → ℕ → Bool
joins t u z = has_node t u && (has_node t (Serializer z) && is_edge t u (Serializer z))

-- why a hop may not go between two nodes
abbrev pub edge_cause : Option TreeShape → NodeId → ℕ → Option Cause
edge_cause None u z = Some NoEdge
edge_cause (Some t) u z = if joins t u z then None else Some NoEdge

-- two sites that are one, two nodes that are no edge, and items that don't ascend
abbrev pub unfit : Deployed → Act → Option Cause
unfit d (act.Bulk i g j n) = if i == j then Some OutOfRange else None
unfit d (act.Beat i j) = if i == j then Some OutOfRange else None
unfit d (act.BeatIn i j n) = if i == j then Some OutOfRange else None
unfit d (act.Hop e u z) = edge_cause (tree_of d e) u z
unfit d (act.Writes c items values) = if are_items (list_of items) then None else Some BadGroup
unfit d _ = None

-- the first form with this word and so many more
abbrev pub found_form : List ℕ → ℕ → List Form → Option Form
found_form word n [] = None
found_form word n (f ∷ fs) =
    if (length (kinds_of f) == n) && bytes_eq word (word_of f) then Some f else found_form word n fs

-- the act that the words say, unless its parts do not go together
abbrev pub said_act : Deployed → Form → Result (List Said) Cause → Result Act Cause
said_act d f (Err cause) = Err cause
said_act d f (Ok xs) = given OutOfRange (act_of f xs) (λ a. barred (unfit d a) (Ok a))

-- the causes in their order, where the first argument says why a line of a form may not stand here: no form; that
-- cause; a name that the header lacks, over all words; a number or a node out of range, in turn; two sites that are
-- one, two nodes that are no edge, and items that don't ascend
unfoldable pub form_line : (Form → Option Cause) → Deployed → Form → List (List ℕ) → Result Act Cause
form_line bars d f words =
    needs BadAct (allows d.format f)
    (needs BadAct (shapes (kinds_of f) words)
    (barred (bars f)
    (needs UnknownName (all_known d (kinds_of f) words) (said_act d f (all_say d no_tree (kinds_of f) words)))))

-- what words of these kinds say behind the word of an act, by the same causes in their order, where one may say that no
-- further act may come
unfoldable pub kinds_say : Option Cause → Deployed → List Kind → List (List ℕ) → Result (List Said) Cause
kinds_say full d kinds words =
    needs BadAct (shapes kinds words)
    (barred full
    (needs UnknownName (all_known d kinds words) (all_say d no_tree kinds words)))

-- what the words of a line say, by the first of them and how many follow
unfoldable pub act_line : (Form → Option Cause) → Deployed → List (List ℕ) → Result Act Cause
unfolding form_line
act_line bars d [] = Err BadAct
act_line bars d (word ∷ words) = given BadAct (found_form word (length words) act_forms) (λ f. form_line bars d f words)

-- the texts of what words say, each by its kind
abbrev pub texts : Deployed → List Kind → List Said → List (List ℕ)
texts d (k ∷ ks) (a ∷ xs) = text d k a ∷ texts d ks xs
texts d _ _ = []

-- the words of an act's line
unfoldable pub act_words : Deployed → Act → List (List ℕ)
unfolding node_text
act_words d a = word_of (form_of a) ∷ texts d (kinds_of (form_of a)) (args_of a)
