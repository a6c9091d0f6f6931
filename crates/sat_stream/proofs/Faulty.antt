-- Texts that aren't scripts, each group with the fault that it has, worked out by hand from the table of causes.
use Rattle.std.proofs.Common.{◌≡◌, ℕ, Bool, true, false, List, [], ◌∷◌, ◌++◌, map, replicate, Some, refl}
use Rattle.std.specs.Prelude.{codes}
use Rattle.sat_label.specs.Words.{first_failing}
use Rattle.sat_tree.specs.Cut.{is_edge}
use Rattle.sat_act.specs.Parts.{tree_of}
use Rattle.sat_script.specs.Causes.{client_of, item_of}
use Rattle.sat_script.specs.Dialect.{allows, is_live}
use Rattle.sat_script.specs.Grammar.{close_in}
use Rattle.sat_script.specs.Words.{is_node, is_serializer, node_in, serializer_in, number_below, number_to, number_up_to}
use Rattle.sat_stream.specs.Reading.{reading}
use Rattle.sat_script.specs.declared.fault.Cause.{Cause}
use Rattle.sat_script.specs.declared.fault.Cause.TheVariants.{AfterEnd, NoEnd, NotText, BadHeader, BadAct, NotLive, TooMany, SameName, UnknownName, OutOfRange, BadTree, NoEdge, BadGroup}

-- each text has this fault, read for nodes on threads or not
abbrev HaveFaultOf : Bool → ℕ → Cause → List (List ℕ) → Type 0
HaveFaultOf live line cause texts = map (λ text. (reading live text).fault) texts ≡ map (λ text. Some (record { line = line; cause = cause })) texts

-- each text has this fault
abbrev HaveFault : ℕ → Cause → List (List ℕ) → Type 0
HaveFault line cause texts = HaveFaultOf false line cause texts

-- the texts that begin so
abbrev after : List ℕ → List (List ℕ) → List (List ℕ)
after front texts = map (λ text. front ++ text) texts

-- ---- lines after a whole header

abbrev header : List ℕ
header = codes "saturn 1\nsites 2\ngears 1\nitem x 0,1\nclient a 0\nclient b 1\nplan tree - / 0 0\nbegin\n"

nothing_after_end : HaveFault 10 AfterEnd (after header (
    codes "end\nx" ∷
    codes "end\n\n" ∷
    codes "end\nend\n" ∷
    []))
unfolding reading close_in allows first_failing client_of item_of is_node is_serializer node_in serializer_in number_below number_to number_up_to tree_of is_edge
nothing_after_end = refl

no_end_at_once : HaveFault 9 NoEnd (after header (
    [] ∷
    codes "end" ∷
    []))
unfolding reading close_in allows first_failing client_of item_of is_node is_serializer node_in serializer_in number_below number_to number_up_to tree_of is_edge
no_end_at_once = refl

no_end_after_an_act : HaveFault 10 NoEnd (after header (
    codes "gather 0\n" ∷
    codes "gather 0\nclo" ∷
    []))
unfolding reading close_in allows first_failing client_of item_of is_node is_serializer node_in serializer_in number_below number_to number_up_to tree_of is_edge
no_end_after_an_act = refl

bytes_that_are_no_text : HaveFault 9 NotText (after header (
    (codes "gather 0" ++ 13 ∷ 10 ∷ []) ∷
    (codes "write a x " ++ 127 ∷ 10 ∷ []) ∷
    []))
unfolding reading close_in allows first_failing client_of item_of is_node is_serializer node_in serializer_in number_below number_to number_up_to tree_of is_edge
bytes_that_are_no_text = refl

no_form_of_an_act : HaveFault 9 BadAct (after header (
    codes "clo\n" ∷
    codes "\n" ∷
    codes "begin\n" ∷
    codes "end end\n" ∷
    codes "write a  x v\n" ∷
    codes " gather 0\n" ∷
    []))
unfolding reading close_in allows first_failing client_of item_of is_node is_serializer node_in serializer_in number_below number_to number_up_to tree_of is_edge
no_form_of_an_act = refl

words_of_no_form : HaveFault 9 BadAct (after header (
    codes "gather 0 \n" ∷
    codes "gather 00\n" ∷
    codes "gather +0\n" ∷
    codes "gather\n" ∷
    codes "write a x \n" ∷
    codes "write a? x v\n" ∷
    []))
unfolding reading close_in allows first_failing client_of item_of is_node is_serializer node_in serializer_in number_below number_to number_up_to tree_of is_edge
words_of_no_form = refl

arguments_of_no_form : HaveFault 9 BadAct (after header (
    codes "read a\n" ∷
    codes "hop 1 s0 s1\n" ∷
    codes "hop 1 0 z0\n" ∷
    codes "hop 1 s z0\n" ∷
    codes "bulk 0 0 1 0 0\n" ∷
    codes "settle 0\n" ∷
    codes "kill 1 s0\n" ∷
    []))
unfolding reading close_in allows first_failing client_of item_of is_node is_serializer node_in serializer_in number_below number_to number_up_to tree_of is_edge
arguments_of_no_form = refl

acts_that_are_good : HaveFault 10 NoEnd (after header (
    codes "move a 1\n" ∷
    codes "leave a\n" ∷
    codes "attach a 0\n" ∷
    codes "pulse 1\n" ∷
    codes "beat 0 1\n" ∷
    codes "beatin 0 1 18446744073709551615\n" ∷
    []))
unfolding reading close_in allows first_failing client_of item_of is_node is_serializer node_in serializer_in number_below number_to number_up_to tree_of is_edge
acts_that_are_good = refl

switches_that_are_good : HaveFault 10 NoEnd (after header (
    codes "stamp 0\n" ∷
    codes "close 0\n" ∷
    codes "fall 0\n" ∷
    codes "advance 0\n" ∷
    codes "kill 1 z0\n" ∷
    codes "bulk 0 0 1 18446744073709551615\n" ∷
    codes "settle\n" ∷
    []))
unfolding reading close_in allows first_failing client_of item_of is_node is_serializer node_in serializer_in number_below number_to number_up_to tree_of is_edge
switches_that_are_good = refl

names_of_no_line : HaveFault 9 UnknownName (after header (
    codes "write d x v\n" ∷
    codes "write a y v\n" ∷
    codes "write x x v\n" ∷
    codes "read b a\n" ∷
    codes "move d 9\n" ∷
    codes "leave d\n" ∷
    codes "attach x 0\n" ∷
    []))
unfolding reading close_in allows first_failing client_of item_of is_node is_serializer node_in serializer_in number_below number_to number_up_to tree_of is_edge
names_of_no_line = refl

numbers_out_of_range : HaveFault 9 OutOfRange (after header (
    codes "tick 2 0 1\n" ∷
    codes "tick 0 1 1\n" ∷
    codes "tick 0 0 4611686018427387905\n" ∷
    codes "tick 0 0 100000000000000000000000000000\n" ∷
    []))
unfolding reading close_in allows first_failing client_of item_of is_node is_serializer node_in serializer_in number_below number_to number_up_to tree_of is_edge
numbers_out_of_range = refl

sites_of_acts_out_of_range : HaveFault 9 OutOfRange (after header (
    codes "move a 2\n" ∷
    codes "attach a 2\n" ∷
    codes "pulse 9\n" ∷
    codes "stamp 2\n" ∷
    codes "close 2\n" ∷
    codes "fall 2\n" ∷
    codes "advance 2\n" ∷
    []))
unfolding reading close_in allows first_failing client_of item_of is_node is_serializer node_in serializer_in number_below number_to number_up_to tree_of is_edge
sites_of_acts_out_of_range = refl

beats_and_kills_out_of_range : HaveFault 9 OutOfRange (after header (
    codes "beat 0 0\n" ∷
    codes "beatin 1 1 0\n" ∷
    codes "beatin 0 1 18446744073709551616\n" ∷
    codes "kill 0 z0\n" ∷
    codes "kill 2 z0\n" ∷
    codes "kill 1 z1\n" ∷
    []))
unfolding reading close_in allows first_failing client_of item_of is_node is_serializer node_in serializer_in number_below number_to number_up_to tree_of is_edge
beats_and_kills_out_of_range = refl

long_numbers_out_of_range : HaveFault 9 OutOfRange (after header (
    codes "gather 2\n" ∷
    codes "gather 123456789012345678901234567890\n" ∷
    codes "bulk 0 0 0\n" ∷
    codes "hop 2 s0 z0\n" ∷
    []))
unfolding reading close_in allows first_failing client_of item_of is_node is_serializer node_in serializer_in number_below number_to number_up_to tree_of is_edge
long_numbers_out_of_range = refl

nodes_out_of_range : HaveFault 9 OutOfRange (after header (
    codes "hop 0 s0 z0\n" ∷
    codes "hop 1 s2 z0\n" ∷
    codes "hop 1 s0 z340282366920938463463374607431768211456\n" ∷
    []))
unfolding reading close_in allows first_failing client_of item_of is_node is_serializer node_in serializer_in number_below number_to number_up_to tree_of is_edge
nodes_out_of_range = refl

nodes_that_are_no_edge : HaveFault 9 NoEdge (after header (
    codes "hop 1 z0 z0\n" ∷
    []))
unfolding reading close_in allows first_failing client_of item_of is_node is_serializer node_in serializer_in number_below number_to number_up_to tree_of is_edge
nodes_that_are_no_edge = refl

-- ---- groups

no_groups_in_format_1 : HaveFault 9 BadAct (after header (
    codes "writes a x v x w\n" ∷
    codes "writes a x v y w\n" ∷
    codes "writes d y v x w z u\n" ∷
    codes "writes\n" ∷
    []))
unfolding reading close_in allows first_failing client_of item_of is_node is_serializer node_in serializer_in number_below number_to number_up_to tree_of is_edge
no_groups_in_format_1 = refl

abbrev grouped : List ℕ
grouped = codes "saturn 2\nsites 2\ngears 1\nitem x 0,1\nitem y 0,1\nitem z 0\nitem t 1\nclient a 0\nplan tree - / 0 0\nbegin\n"

groups_that_are_good : HaveFault 12 NoEnd (after grouped (
    codes "writes a x 1 y 2\n" ∷
    codes "writes a x 1 t 2\n" ∷
    codes "writes a x 1 y 2 z 3\n" ∷
    codes "writes a x 1 y 2 z 3 t 4\n" ∷
    codes "write a t 2\n" ∷
    []))
unfolding reading close_in allows first_failing client_of item_of is_node is_serializer node_in serializer_in number_below number_to number_up_to tree_of is_edge
groups_that_are_good = refl

groups_out_of_order : HaveFault 11 BadGroup (after grouped (
    codes "writes a y 2 x 1\n" ∷
    codes "writes a x 1 x 2\n" ∷
    codes "writes a x 1 y 2 y 3\n" ∷
    codes "writes a x 1 z 3 y 2 t 4\n" ∷
    codes "writes a t 4 x 1 y 2 z 3\n" ∷
    []))
unfolding reading close_in allows first_failing client_of item_of is_node is_serializer node_in serializer_in number_below number_to number_up_to tree_of is_edge
groups_out_of_order = refl

words_of_no_group : HaveFault 11 BadAct (after grouped (
    codes "writes a\n" ∷
    codes "writes a x 1\n" ∷
    codes "writes a y 2 x\n" ∷
    codes "writes a? y 2 x 1\n" ∷
    codes "writes a y 2  x 1\n" ∷
    codes "writes a x 1 y 2 z 3 t 4 x\n" ∷
    codes "writes a x 1 y 2 z 3 t 4 x 5\n" ∷
    []))
unfolding reading close_in allows first_failing client_of item_of is_node is_serializer node_in serializer_in number_below number_to number_up_to tree_of is_edge
words_of_no_group = refl

names_of_no_group : HaveFault 11 UnknownName (after grouped (
    codes "writes d y 2 x 1\n" ∷
    codes "writes a y 2 u 1\n" ∷
    codes "writes a y 2 x 1 x 3 u 4\n" ∷
    []))
unfolding reading close_in allows first_failing client_of item_of is_node is_serializer node_in serializer_in number_below number_to number_up_to tree_of is_edge
names_of_no_group = refl

a_long_value_of_a_group : HaveFault 11 OutOfRange (after grouped (
    (codes "writes a y " ++ replicate 257 118 ++ codes " x 1\n") ∷
    []))
unfolding reading close_in allows first_failing client_of item_of is_node is_serializer node_in serializer_in number_below number_to number_up_to tree_of is_edge
a_long_value_of_a_group = refl

groups_on_threads : HaveFaultOf true 12 NoEnd (after grouped (
    codes "writes a x 1 y 2\n" ∷
    codes "writes a x 1 y 2 z 3 t 4\n" ∷
    []))
unfolding reading close_in allows is_live first_failing client_of item_of is_node is_serializer node_in serializer_in number_below number_to number_up_to tree_of is_edge
groups_on_threads = refl

groups_on_threads_out_of_order : HaveFaultOf true 11 BadGroup (after grouped (
    codes "writes a y 2 x 1\n" ∷
    []))
unfolding reading close_in allows is_live first_failing client_of item_of is_node is_serializer node_in serializer_in number_below number_to number_up_to tree_of is_edge
groups_on_threads_out_of_order = refl

acts_of_no_threads : HaveFaultOf true 11 NotLive (after grouped (
    codes "gather 9\n" ∷
    []))
unfolding reading close_in allows is_live first_failing client_of item_of is_node is_serializer node_in serializer_in number_below number_to number_up_to tree_of is_edge
acts_of_no_threads = refl

-- ---- headers

abbrev opening : List ℕ
opening = codes "saturn 1\nsites 2\ngears 1\n"

abbrev sixteen_plans : List ℕ
sixteen_plans =
    codes "plan stamp\nplan tree - / 0 0\nplan stamp\nplan stamp\nplan stamp\nplan stamp\nplan stamp\nplan stamp\n"
    ++ codes "plan stamp\nplan stamp\nplan stamp\nplan stamp\nplan stamp\nplan stamp\nplan stamp\nplan stamp\n"

no_header : HaveFault 1 NoEnd (
    [] ∷
    codes "saturn 1" ∷
    [])
unfolding reading close_in allows first_failing client_of item_of is_node is_serializer node_in serializer_in number_below number_to number_up_to tree_of is_edge
no_header = refl

a_tab_in_a_header : HaveFault 1 NotText (
    (codes "saturn" ++ 9 ∷ codes "1\n") ∷
    [])
unfolding reading close_in allows first_failing client_of item_of is_node is_serializer node_in serializer_in number_below number_to number_up_to tree_of is_edge
a_tab_in_a_header = refl

no_first_line : HaveFault 1 BadHeader (
    codes "sites 2\n" ∷
    codes "saturn\n" ∷
    codes "saturn 0\n" ∷
    codes "saturn 3\n" ∷
    codes "saturn 01\n" ∷
    codes "saturn 02\n" ∷
    codes "saturn 2 2\n" ∷
    [])
unfolding reading close_in allows first_failing client_of item_of is_node is_serializer node_in serializer_in number_below number_to number_up_to tree_of is_edge
no_first_line = refl

no_line_of_sites : HaveFault 2 BadHeader (
    codes "saturn 1\nsites 02\n" ∷
    codes "saturn 1\nsites\n" ∷
    [])
unfolding reading close_in allows first_failing client_of item_of is_node is_serializer node_in serializer_in number_below number_to number_up_to tree_of is_edge
no_line_of_sites = refl

no_line_of_gears : HaveFault 3 BadHeader (
    codes "saturn 1\nsites 2\nsites 2\n" ∷
    [])
unfolding reading close_in allows first_failing client_of item_of is_node is_serializer node_in serializer_in number_below number_to number_up_to tree_of is_edge
no_line_of_gears = refl

no_form_of_a_header : HaveFault 4 BadHeader (after opening (
    codes "\n" ∷
    codes "gather 0\n" ∷
    codes "begin\n" ∷
    codes "item x\n" ∷
    codes "item x 0 1\n" ∷
    codes "item x 0,\n" ∷
    codes "item x ,\n" ∷
    codes "item x 1,0\n" ∷
    codes "item x 0,0\n" ∷
    codes "item x 5,3\n" ∷
    codes "item x 9,10,9\n" ∷
    codes "item x 0,00\n" ∷
    codes "item x 0,99999999999999999999,99999999999999999998\n" ∷
    codes "item x 500000000000000000000000000000000000000,400000000000000000000000000000000000000\n" ∷
    codes "item x! 0\n" ∷
    codes "item abcdefghijklmnopqrstuvwxyz0123456 0\n" ∷
    codes "plan stamp x\n" ∷
    codes "plan\n" ∷
    codes "plan tree -\n" ∷
    codes "plan tree 0 / 0 0\n" ∷
    codes "plan tree - - / 0 0\n" ∷
    codes "plan tree - / 0 / 0\n" ∷
    []))
unfolding reading close_in allows first_failing client_of item_of is_node is_serializer node_in serializer_in number_below number_to number_up_to tree_of is_edge
no_form_of_a_header = refl

lists_and_items_out_of_order : HaveFault 5 BadHeader (after opening (
    codes "item x 0,1\nitem x 1,0\n" ∷
    codes "client a 0\nitem x 0\n" ∷
    []))
unfolding reading close_in allows first_failing client_of item_of is_node is_serializer node_in serializer_in number_below number_to number_up_to tree_of is_edge
lists_and_items_out_of_order = refl

sites_out_of_range : HaveFault 2 OutOfRange (
    codes "saturn 1\nsites 0\n" ∷
    codes "saturn 1\nsites 17\n" ∷
    codes "saturn 2\nsites 0\n" ∷
    codes "saturn 2\nsites 65\n" ∷
    codes "saturn 1\nsites 18446744073709551617\n" ∷
    [])
unfolding reading close_in allows first_failing client_of item_of is_node is_serializer node_in serializer_in number_below number_to number_up_to tree_of is_edge
sites_out_of_range = refl

sites_of_each_format : HaveFault 3 NoEnd (
    codes "saturn 1\nsites 16\n" ∷
    codes "saturn 2\nsites 17\n" ∷
    codes "saturn 2\nsites 64\n" ∷
    [])
unfolding reading close_in allows first_failing client_of item_of is_node is_serializer node_in serializer_in number_below number_to number_up_to tree_of is_edge
sites_of_each_format = refl

gears_out_of_range : HaveFault 3 OutOfRange (
    codes "saturn 1\nsites 2\ngears 0\n" ∷
    codes "saturn 1\nsites 2\ngears 9\n" ∷
    [])
unfolding reading close_in allows first_failing client_of item_of is_node is_serializer node_in serializer_in number_below number_to number_up_to tree_of is_edge
gears_out_of_range = refl

places_out_of_range : HaveFault 4 OutOfRange (after opening (
    codes "item x 0,99999999999999999998,99999999999999999999\n" ∷
    codes "item x 400000000000000000000000000000000000000,500000000000000000000000000000000000000\n" ∷
    codes "item x 9,10\n" ∷
    codes "item x 2\n" ∷
    codes "client a 2\n" ∷
    []))
unfolding reading close_in allows first_failing client_of item_of is_node is_serializer node_in serializer_in number_below number_to number_up_to tree_of is_edge
places_out_of_range = refl

names_said_before : HaveFault 5 SameName (after opening (
    codes "item x 0,1\nitem x 0,1\n" ∷
    codes "item x 0,1\nitem x 7\n" ∷
    codes "client a 0\nclient a 0\n" ∷
    codes "client a 0\nclient a 9\n" ∷
    []))
unfolding reading close_in allows first_failing client_of item_of is_node is_serializer node_in serializer_in number_below number_to number_up_to tree_of is_edge
names_said_before = refl

plans_of_either_kind : HaveFault 7 NoEnd (after opening (
    codes "plan stamp\nplan stamp\nbegin\n" ∷
    codes "plan stamp\nplan tree - 0 / 0 1\nbegin\n" ∷
    codes "plan tree - / 0 0\nplan tree - 0 0 / 2 2\nbegin\n" ∷
    []))
unfolding reading close_in allows first_failing client_of item_of is_node is_serializer node_in serializer_in number_below number_to number_up_to tree_of is_edge
plans_of_either_kind = refl

a_second_plan_that_is_no_tree : HaveFault 5 BadTree (after opening (
    codes "plan stamp\nplan tree - / 0 9\n" ∷
    codes "plan tree - / 0 0\nplan tree - / 0\n" ∷
    []))
unfolding reading close_in allows first_failing client_of item_of is_node is_serializer node_in serializer_in number_below number_to number_up_to tree_of is_edge
a_second_plan_that_is_no_tree = refl

items_and_clients_after_a_plan : HaveFault 5 BadHeader (after opening (
    codes "plan stamp\nitem x 0\n" ∷
    codes "plan stamp\nclient a 0\n" ∷
    codes "plan stamp\nplan stamp x\n" ∷
    []))
unfolding reading close_in allows first_failing client_of item_of is_node is_serializer node_in serializer_in number_below number_to number_up_to tree_of is_edge
items_and_clients_after_a_plan = refl

-- the line of a seventeenth plan, behind what may keep it from having the form
too_many_plans : HaveFault 20 TooMany (after (opening ++ sixteen_plans) (
    codes "plan stamp\n" ∷
    codes "plan tree - / 9 9\n" ∷
    []))
unfolding reading close_in allows first_failing client_of item_of is_node is_serializer node_in serializer_in number_below number_to number_up_to tree_of is_edge
too_many_plans = refl

no_form_of_a_seventeenth_plan : HaveFault 20 BadHeader (after (opening ++ sixteen_plans) (
    codes "plan tree 0 / 0 0\n" ∷
    []))
unfolding reading close_in allows first_failing client_of item_of is_node is_serializer node_in serializer_in number_below number_to number_up_to tree_of is_edge
no_form_of_a_seventeenth_plan = refl

-- ---- epochs of stamp order

abbrev epochs : List ℕ
epochs = codes "saturn 1\nsites 2\ngears 1\nplan stamp\nplan tree - 0 / 0 1\nbegin\n"

epochs_without_a_tree : HaveFault 7 NoEdge (after epochs (
    codes "hop 1 s0 z0\n" ∷
    codes "hop 1 s99999999999999999999 z99999999999999999999\n" ∷
    codes "kill 1 z0\n" ∷
    codes "kill 1 z99999999999999999999\n" ∷
    codes "hop 2 s1 z0\n" ∷
    []))
unfolding reading close_in allows first_failing client_of item_of is_node is_serializer node_in serializer_in number_below number_to number_up_to tree_of is_edge
epochs_without_a_tree = refl

epochs_and_their_nodes_out_of_range : HaveFault 7 OutOfRange (after epochs (
    codes "hop 3 s0 z0\n" ∷
    codes "kill 3 z0\n" ∷
    codes "hop 2 s2 z0\n" ∷
    codes "hop 2 s0 z2\n" ∷
    codes "kill 2 z2\n" ∷
    []))
unfolding reading close_in allows first_failing client_of item_of is_node is_serializer node_in serializer_in number_below number_to number_up_to tree_of is_edge
epochs_and_their_nodes_out_of_range = refl

epochs_and_their_nodes : HaveFault 8 NoEnd (after epochs (
    codes "hop 2 s1 z1\n" ∷
    codes "hop 2 z0 z1\n" ∷
    codes "kill 2 z1\n" ∷
    []))
unfolding reading close_in allows first_failing client_of item_of is_node is_serializer node_in serializer_in number_below number_to number_up_to tree_of is_edge
epochs_and_their_nodes = refl

no_tree : HaveFault 4 BadTree (after opening (
    codes "plan tree / 0 0\n" ∷
    codes "plan tree - /\n" ∷
    codes "plan tree - / 0\n" ∷
    codes "plan tree - 1 / 0 0\n" ∷
    codes "plan tree - / 0 1\n" ∷
    codes "plan tree - 111111111111111111111111111111 / 0 0\n" ∷
    []))
unfolding reading close_in allows first_failing client_of item_of is_node is_serializer node_in serializer_in number_below number_to number_up_to tree_of is_edge
no_tree = refl
