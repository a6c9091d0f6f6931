-- Worked scripts: the answer of each act, computed.
use Rattle.std.specs.Prelude.{◌≡◌, false, ℕ, List, [], ◌∷◌, map, Some, None, codes, refl}
use Rattle.sat_label.specs.declared.items.Items.TheVariants.{One, Two}
use Rattle.sat_label.specs.declared.label.Kind.TheVariants as kind
use Rattle.sat_label.specs.declared.node.NodeId.TheVariants.{Site, Serializer}
use Rattle.sat_label.specs.Order.{point_at}
use Rattle.sat_act.specs.declared.act.Act.{Act}
use Rattle.sat_act.specs.declared.act.Act.TheVariants.{Tick, Clock, Write, Writes, Read, Move, Leave, Attach, Gather, Emit, Pulse, Hop, Turn, Bulk, Beat, BeatIn, Stamp, Close, Fall, Advance, Kill}
use Rattle.sat_act.specs.declared.answer.Answer.{Answer}
use Rattle.sat_act.specs.declared.answer.Answer.TheVariants.{Ticked, Clocked, Wrote, ReadNone, ReadSome, Moved, Left, Attached, Gathered, Emitted, Pulsed, Hopped, Shown, Took, Brought, Again, Taken, Old, Closed, Fallen, View, Killed, Refused}
use Rattle.sat_act.specs.declared.answer.Answer.TheVariants as ans
use Rattle.sat_act.specs.declared.answer.Refusal.TheVariants as why
use Rattle.sat_act.specs.declared.deployment.Plan.{Plan}
use Rattle.sat_act.specs.declared.deployment.Plan.TheVariants as plan
use Rattle.sat_act.specs.declared.entry.Entry.{Entry}
use Rattle.sat_act.specs.declared.deployment.Item.{Item}
use Rattle.sat_act.specs.declared.deployment.ClientLine.{ClientLine}
use Rattle.sat_label.specs.declared.label.Label.{Label}
use Rattle.sat_act.specs.Deployed.{Deployed}
use Rattle.sat_act.specs.Answers.{answer}

-- the answers of acts, one after another, after a history
play : Deployed → List Entry → List Act → List Answer
unfolding answer
play d h [] = []
play d h (a ∷ acts) = let r = answer d h a in r ∷ play d (record { act = a; answer = r; inner = false } ∷ h) acts

-- from the beginning, each act has the answer beside it
abbrev Plays : Deployed → List (Act × Answer) → Type 0
Plays d rows = play d [] (map (λ row. row.0) rows) ≡ map (λ row. row.1) rows

abbrev update : ℕ → ℕ → ℕ → ℕ → Label
update ts site gear x = record { point = point_at ts site gear; kind = kind.Update (One x) }

abbrev move : ℕ → ℕ → ℕ → ℕ → Label
move ts site gear j = record { point = point_at ts site gear; kind = kind.Move j }

abbrev pulse : ℕ → ℕ → ℕ → Label
pulse ts site gear = record { point = point_at ts site gear; kind = kind.Pulse }

abbrev close : ℕ → ℕ → ℕ → ℕ → Label
close ts site gear e = record { point = point_at ts site gear; kind = kind.Close e }

-- one serializer, and two of which the second hangs on the first
abbrev star : List ℕ → Plan
star seats = plan.Tree (record { parents = None ∷ []; seats = seats })

abbrev fork : List ℕ → Plan
fork seats = plan.Tree (record { parents = None ∷ Some 0 ∷ []; seats = seats })

abbrev item : List ℕ → ℕ → Item
item name bits = record { name = name; replicas = record { bits = bits } }

abbrev client : List ℕ → ℕ → ClientLine
client name site = record { name = name; site = site }

-- two sites that keep x, a client at each, and one serializer
abbrev two_sites : Deployed
two_sites = record { format = 1; sites = 2; gears = 1; items = item (codes "x") 3 ∷ []; clients = client (codes "a") 0 ∷ client (codes "b") 1 ∷ []; plans = star (0 ∷ 0 ∷ []) ∷ [] }

-- two sites of two gears that keep x and y, two clients at the first site and one at the second
abbrev two_gears : Deployed
two_gears = record { format = 1; sites = 2; gears = 2; items = item (codes "x") 3 ∷ item (codes "y") 3 ∷ []; clients = client (codes "a") 0 ∷ client (codes "b") 0 ∷ client (codes "c") 1 ∷ []; plans = star (0 ∷ 0 ∷ []) ∷ [] }

-- three sites, p at the first and the last, q at the last two, and a second serializer above the last
abbrev three_sites : Deployed
three_sites = record { format = 1; sites = 3; gears = 1; items = item (codes "p") 5 ∷ item (codes "q") 6 ∷ []; clients = client (codes "a") 0 ∷ []; plans = fork (0 ∷ 0 ∷ 1 ∷ []) ∷ [] }

-- two sites that keep x and y, and three clients
abbrev two_items : Deployed
two_items = record { format = 1; sites = 2; gears = 1; items = item (codes "x") 3 ∷ item (codes "y") 3 ∷ []; clients = client (codes "a") 0 ∷ client (codes "b") 1 ∷ client (codes "c") 0 ∷ []; plans = star (0 ∷ 0 ∷ []) ∷ [] }

-- two sites that keep x, a client at each, and two epochs by timestamp order
abbrev two_stamps : Deployed
two_stamps = record { format = 1; sites = 2; gears = 1; items = item (codes "x") 3 ∷ []; clients = client (codes "a") 0 ∷ client (codes "b") 1 ∷ []; plans = plan.Stamp ∷ plan.Stamp ∷ [] }

-- two sites of which the first alone keeps x, one client, and two epochs by timestamp order
abbrev kept_at_one : Deployed
kept_at_one = record { format = 1; sites = 2; gears = 1; items = item (codes "x") 1 ∷ []; clients = client (codes "a") 0 ∷ []; plans = plan.Stamp ∷ plan.Stamp ∷ [] }

-- two sites of two gears that keep x, one client, and one epoch by timestamp order
abbrev two_clocks : Deployed
two_clocks = record { format = 1; sites = 2; gears = 2; items = item (codes "x") 3 ∷ []; clients = client (codes "a") 0 ∷ []; plans = plan.Stamp ∷ [] }

-- three sites that keep x, one client, and one serializer
abbrev one_star : Deployed
one_star = record { format = 1; sites = 3; gears = 1; items = item (codes "x") 7 ∷ []; clients = client (codes "a") 0 ∷ []; plans = star (0 ∷ 0 ∷ 0 ∷ []) ∷ [] }

-- the two sites, with a second tree of two serializers
abbrev two_trees : Deployed
two_trees = record { format = 1; sites = 2; gears = 1; items = item (codes "x") 3 ∷ []; clients = client (codes "a") 0 ∷ client (codes "b") 1 ∷ []; plans = star (0 ∷ 0 ∷ []) ∷ fork (0 ∷ 1 ∷ []) ∷ [] }

-- three sites, x at all, y at the last two, and two trees of one serializer
abbrev two_stars : Deployed
two_stars = record { format = 1; sites = 3; gears = 1; items = item (codes "x") 7 ∷ item (codes "y") 6 ∷ []; clients = client (codes "a") 0 ∷ client (codes "b") 1 ∷ []; plans = star (0 ∷ 0 ∷ 0 ∷ []) ∷ star (0 ∷ 0 ∷ 0 ∷ []) ∷ [] }

-- two gears, and stamp order from the second epoch on
abbrev a_tree_and_stamps : Deployed
a_tree_and_stamps = record { format = 1; sites = 2; gears = 2; items = item (codes "x") 3 ∷ item (codes "y") 3 ∷ []; clients = client (codes "a") 0 ∷ client (codes "b") 0 ∷ client (codes "c") 1 ∷ []; plans = star (0 ∷ 0 ∷ []) ∷ plan.Stamp ∷ plan.Stamp ∷ [] }

-- two sites in stamp order
abbrev stamps : Deployed
stamps = record { format = 1; sites = 2; gears = 1; items = item (codes "x") 3 ∷ []; clients = client (codes "a") 0 ∷ []; plans = plan.Stamp ∷ [] }

-- a label that comes before its payload is not shown until the payload is there
label_before_payload : Plays two_sites (
    (Write 0 0 (codes "v"), Wrote (update 1 0 0 0)) ∷
    (Gather 0, Gathered 1 1) ∷
    (Emit 0, Emitted (update 1 0 0 0)) ∷
    (Hop 1 (Site 0) 0, Hopped (update 1 0 0 0) ((Site 1) ∷ [])) ∷
    (Turn 1, Refused (why.NoPayload (update 1 0 0 0))) ∷
    (Bulk 0 0 1 (Some 0), Brought (update 1 0 0 0)) ∷
    (Turn 1, Shown (update 1 0 0 0)) ∷
    (Turn 1, Refused why.Empty) ∷
    [])
unfolding play
label_before_payload = refl

-- equal timestamps: the gear, then the site, breaks the tie
equal_timestamps : Plays two_gears (
    (Write 0 0 (codes "1"), Wrote (update 1 0 0 0)) ∷
    (Write 1 1 (codes "2"), Wrote (update 1 0 1 1)) ∷
    (Write 2 0 (codes "3"), Wrote (update 1 1 0 0)) ∷
    (Gather 0, Gathered 2 1) ∷
    (Emit 0, Emitted (update 1 0 0 0)) ∷
    (Emit 0, Emitted (update 1 0 1 1)) ∷
    (Emit 0, Refused why.Idle) ∷
    (Hop 1 (Site 0) 0, Hopped (update 1 0 0 0) ((Site 1) ∷ [])) ∷
    (Bulk 0 0 1 None, Brought (update 1 0 0 0)) ∷
    (Turn 1, Shown (update 1 0 0 0)) ∷
    (Read 2 0, ReadSome (update 1 1 0 0) (codes "3")) ∷
    [])
unfolding play
equal_timestamps = refl

-- labels wait for the promise of every gear
a_gear_that_promises_nothing : Plays two_gears (
    (Write 0 0 (codes "1"), Wrote (update 1 0 0 0)) ∷
    (Gather 0, Gathered 1 0) ∷
    (Emit 0, Refused why.Idle) ∷
    (Tick 0 1 5, Ticked 5) ∷
    (Emit 0, Refused why.Idle) ∷
    (Gather 0, Gathered 0 1) ∷
    (Pulse 0, Refused why.Idle) ∷
    (Emit 0, Emitted (update 1 0 0 0)) ∷
    (Pulse 0, Pulsed (pulse 1 0 65534)) ∷
    (Pulse 0, Refused why.Idle) ∷
    [])
unfolding play
a_gear_that_promises_nothing = refl

-- a client moves on, and what it wrote next is shown after what it wrote first
a_cause_that_the_middle_site_never_sees : Plays three_sites (
    (Write 0 0 (codes "P"), Wrote (update 1 0 0 0)) ∷
    (Move 0 1, Moved (move 2 0 0 1)) ∷
    (Attach 0 1, Refused why.NotYet) ∷
    (Gather 0, Gathered 2 2) ∷
    (Emit 0, Emitted (update 1 0 0 0)) ∷
    (Emit 0, Emitted (move 2 0 0 1)) ∷
    (Hop 1 (Site 0) 0, Hopped (update 1 0 0 0) ((Serializer 1) ∷ [])) ∷
    (Hop 1 (Site 0) 0, Hopped (move 2 0 0 1) ((Site 1) ∷ [])) ∷
    (Turn 1, Took (move 2 0 0 1)) ∷
    (Attach 0 1, Attached) ∷
    (Write 0 1 (codes "Q"), Wrote (update 3 1 0 1)) ∷
    (Gather 1, Gathered 1 3) ∷
    (Emit 1, Emitted (update 3 1 0 1)) ∷
    (Hop 1 (Site 1) 0, Hopped (update 3 1 0 1) ((Serializer 1) ∷ [])) ∷
    (Hop 1 (Serializer 0) 1, Hopped (update 1 0 0 0) ((Site 2) ∷ [])) ∷
    (Hop 1 (Serializer 0) 1, Hopped (update 3 1 0 1) ((Site 2) ∷ [])) ∷
    (Bulk 1 0 2 None, Brought (update 3 1 0 1)) ∷
    (Turn 2, Refused (why.NoPayload (update 1 0 0 0))) ∷
    (Bulk 0 0 2 None, Brought (update 1 0 0 0)) ∷
    (Turn 2, Shown (update 1 0 0 0)) ∷
    (Turn 2, Shown (update 3 1 0 1)) ∷
    [])
unfolding play
a_cause_that_the_middle_site_never_sees = refl

-- that a point was made at the target lets no client in: a cause from elsewhere may be missing
a_label_made_at_the_target : Plays two_items (
    (Tick 1 0 10, Ticked 10) ∷
    (Write 1 0 (codes "X"), Wrote (update 11 1 0 0)) ∷
    (Gather 1, Gathered 1 11) ∷
    (Emit 1, Emitted (update 11 1 0 0)) ∷
    (Hop 1 (Site 1) 0, Hopped (update 11 1 0 0) ((Site 0) ∷ [])) ∷
    (Bulk 1 0 0 None, Brought (update 11 1 0 0)) ∷
    (Turn 0, Shown (update 11 1 0 0)) ∷
    (Write 2 1 (codes "Y"), Wrote (update 1 0 0 1)) ∷
    (Read 0 1, ReadSome (update 1 0 0 1) (codes "Y")) ∷
    (Read 0 0, ReadSome (update 11 1 0 0) (codes "X")) ∷
    (Leave 0, Left (point_at 11 1 0)) ∷
    (Attach 0 1, Refused why.NotYet) ∷
    (Tick 0 0 12, Ticked 12) ∷
    (Gather 0, Gathered 1 12) ∷
    (Emit 0, Emitted (update 1 0 0 1)) ∷
    (Pulse 0, Pulsed (pulse 12 0 65534)) ∷
    (Hop 1 (Site 0) 0, Hopped (update 1 0 0 1) ((Site 1) ∷ [])) ∷
    (Hop 1 (Site 0) 0, Hopped (pulse 12 0 65534) ((Site 1) ∷ [])) ∷
    (Turn 1, Refused (why.NoPayload (update 1 0 0 1))) ∷
    (Bulk 0 0 1 None, Brought (update 1 0 0 1)) ∷
    (Turn 1, Shown (update 1 0 0 1)) ∷
    (Turn 1, Took (pulse 12 0 65534)) ∷
    (Attach 0 1, Attached) ∷
    (Read 0 1, ReadSome (update 1 0 0 1) (codes "Y")) ∷
    [])
unfolding play
a_label_made_at_the_target = refl

-- beats let no client in while the site is in tree mode
beats_do_not_help_in_tree_mode : Plays one_star (
    (Write 0 0 (codes "v"), Wrote (update 1 0 0 0)) ∷
    (Leave 0, Left (point_at 1 0 0)) ∷
    (Tick 0 0 2, Ticked 2) ∷
    (Tick 2 0 2, Ticked 2) ∷
    (Gather 0, Gathered 1 2) ∷
    (Gather 2, Gathered 0 2) ∷
    (Emit 0, Emitted (update 1 0 0 0)) ∷
    (Beat 0 1, ans.Beat 0) ∷
    (Beat 2 1, ans.Beat 0) ∷
    (Bulk 0 0 1 None, Brought (update 1 0 0 0)) ∷
    (BeatIn 0 1 0, Taken) ∷
    (BeatIn 2 1 0, Taken) ∷
    (Attach 0 1, Refused why.NotYet) ∷
    (Pulse 0, Pulsed (pulse 2 0 65534)) ∷
    (Pulse 2, Pulsed (pulse 2 2 65534)) ∷
    (Hop 1 (Site 0) 0, Hopped (update 1 0 0 0) ((Site 1) ∷ (Site 2) ∷ [])) ∷
    (Hop 1 (Site 0) 0, Hopped (pulse 2 0 65534) ((Site 1) ∷ (Site 2) ∷ [])) ∷
    (Turn 1, Shown (update 1 0 0 0)) ∷
    (Turn 1, Took (pulse 2 0 65534)) ∷
    (Attach 0 1, Refused why.NotYet) ∷
    (Hop 1 (Site 2) 0, Hopped (pulse 2 2 65534) ((Site 0) ∷ (Site 1) ∷ [])) ∷
    (Turn 1, Took (pulse 2 2 65534)) ∷
    (Attach 0 1, Attached) ∷
    [])
unfolding play
beats_do_not_help_in_tree_mode = refl

-- a switch of trees: labels of the next tree wait until every close came
a_planned_switch : Plays two_trees (
    (Write 0 0 (codes "one"), Wrote (update 1 0 0 0)) ∷
    (Gather 0, Gathered 1 1) ∷
    (Emit 0, Emitted (update 1 0 0 0)) ∷
    (Close 0, Closed 1 (point_at 1 0 65535)) ∷
    (Write 0 0 (codes "two"), Wrote (update 2 0 0 0)) ∷
    (Gather 0, Gathered 1 2) ∷
    (Emit 0, Emitted (update 2 0 0 0)) ∷
    (Hop 2 (Site 0) 0, Hopped (update 2 0 0 0) ((Serializer 1) ∷ [])) ∷
    (Hop 2 (Serializer 0) 1, Hopped (update 2 0 0 0) ((Site 1) ∷ [])) ∷
    (Bulk 0 0 1 (Some 1), Brought (update 2 0 0 0)) ∷
    (Turn 1, Refused why.Empty) ∷
    (Advance 1, Refused why.NotClosed) ∷
    (Close 1, Closed 1 (point_at 0 1 65535)) ∷
    (Advance 1, Refused why.NotYet) ∷
    (Hop 1 (Site 0) 0, Hopped (update 1 0 0 0) ((Site 1) ∷ [])) ∷
    (Hop 1 (Site 0) 0, Hopped (close 1 0 65535 1) ((Site 1) ∷ [])) ∷
    (Bulk 0 0 1 (Some 0), Brought (update 1 0 0 0)) ∷
    (Turn 1, Shown (update 1 0 0 0)) ∷
    (Turn 1, Took (close 1 0 65535 1)) ∷
    (Advance 1, View 2) ∷
    (Turn 1, Shown (update 2 0 0 0)) ∷
    (Read 1 0, ReadSome (update 2 0 0 0) (codes "two")) ∷
    (Advance 0, Refused why.NotYet) ∷
    (Hop 1 (Site 1) 0, Hopped (close 0 1 65535 1) ((Site 0) ∷ [])) ∷
    (Turn 0, Took (close 0 1 65535 1)) ∷
    (Advance 0, View 2) ∷
    (Close 0, Refused why.NoNextEpoch) ∷
    [])
unfolding play
a_planned_switch = refl

-- a serializer is killed, and the sites fall to stamp order
a_killed_serializer : Plays two_trees (
    (Write 0 0 (codes "one"), Wrote (update 1 0 0 0)) ∷
    (Gather 0, Gathered 1 1) ∷
    (Emit 0, Emitted (update 1 0 0 0)) ∷
    (Kill 1 0, Killed) ∷
    (Kill 1 0, Refused why.Already) ∷
    (Hop 1 (Site 0) 0, Refused why.Dead) ∷
    (Fall 1, Refused why.NotClosed) ∷
    (Close 0, Closed 1 (point_at 1 0 65535)) ∷
    (Close 1, Closed 1 (point_at 0 1 65535)) ∷
    (Fall 1, Fallen) ∷
    (Fall 1, Refused why.StampOrder) ∷
    (Turn 1, Refused why.StampOrder) ∷
    (Bulk 0 0 1 None, Brought (update 1 0 0 0)) ∷
    (Advance 1, Refused why.NotYet) ∷
    (Beat 0 1, ans.Beat 0) ∷
    (BeatIn 0 1 0, Taken) ∷
    (Advance 1, Refused why.NotYet) ∷
    (Stamp 1, Shown (update 1 0 0 0)) ∷
    (Advance 1, View 2) ∷
    (Stamp 1, Refused why.TreeOrder) ∷
    (Fall 0, Fallen) ∷
    (Beat 1 0, ans.Beat 0) ∷
    (BeatIn 1 0 0, Taken) ∷
    (Advance 0, View 2) ∷
    [])
unfolding play
a_killed_serializer = refl

-- one site leaves the first tree by stamps, another by its labels
one_site_drains_by_stamps : Plays two_stars (
    (Write 0 0 (codes "A"), Wrote (update 1 0 0 0)) ∷
    (Gather 0, Gathered 1 1) ∷
    (Emit 0, Emitted (update 1 0 0 0)) ∷
    (Close 0, Closed 1 (point_at 1 0 65535)) ∷
    (Close 1, Closed 1 (point_at 0 1 65535)) ∷
    (Close 2, Closed 1 (point_at 0 2 65535)) ∷
    (Fall 1, Fallen) ∷
    (Bulk 0 0 1 None, Brought (update 1 0 0 0)) ∷
    (Beat 0 1, ans.Beat 0) ∷
    (BeatIn 0 1 0, Taken) ∷
    (Stamp 1, Refused why.NotYet) ∷
    (Beat 2 1, ans.Beat 0) ∷
    (BeatIn 2 1 0, Taken) ∷
    (Stamp 1, Shown (update 1 0 0 0)) ∷
    (Read 1 0, ReadSome (update 1 0 0 0) (codes "A")) ∷
    (Write 1 1 (codes "B"), Wrote (update 2 1 0 1)) ∷
    (Gather 1, Gathered 1 2) ∷
    (Emit 1, Emitted (update 2 1 0 1)) ∷
    (Hop 2 (Site 1) 0, Hopped (update 2 1 0 1) ((Site 2) ∷ [])) ∷
    (Bulk 1 0 2 None, Brought (update 2 1 0 1)) ∷
    (Turn 2, Refused why.Empty) ∷
    (Hop 1 (Site 0) 0, Hopped (update 1 0 0 0) ((Site 1) ∷ (Site 2) ∷ [])) ∷
    (Hop 1 (Site 0) 0, Hopped (close 1 0 65535 1) ((Site 1) ∷ (Site 2) ∷ [])) ∷
    (Hop 1 (Site 1) 0, Hopped (close 0 1 65535 1) ((Site 0) ∷ (Site 2) ∷ [])) ∷
    (Bulk 0 0 2 None, Brought (update 1 0 0 0)) ∷
    (Turn 2, Shown (update 1 0 0 0)) ∷
    (Turn 2, Took (close 1 0 65535 1)) ∷
    (Turn 2, Took (close 0 1 65535 1)) ∷
    (Advance 2, View 2) ∷
    (Turn 2, Shown (update 2 1 0 1)) ∷
    (Advance 1, View 2) ∷
    [])
unfolding play
one_site_drains_by_stamps = refl

-- a close between two labels of one timestamp
a_close_between_equal_timestamps : Plays a_tree_and_stamps (
    (Write 0 0 (codes "1"), Wrote (update 1 0 0 0)) ∷
    (Write 1 1 (codes "2"), Wrote (update 1 0 1 1)) ∷
    (Gather 0, Gathered 2 1) ∷
    (Emit 0, Emitted (update 1 0 0 0)) ∷
    (Close 0, Closed 1 (point_at 1 0 0)) ∷
    (Close 0, Refused why.Behind) ∷
    (Emit 0, Emitted (update 1 0 1 1)) ∷
    (Hop 1 (Site 0) 0, Hopped (update 1 0 0 0) ((Site 1) ∷ [])) ∷
    (Hop 1 (Site 0) 0, Hopped (close 1 0 0 1) ((Site 1) ∷ [])) ∷
    (Hop 1 (Site 0) 0, Refused why.Empty) ∷
    (Bulk 0 0 1 None, Brought (update 1 0 0 0)) ∷
    (Bulk 0 1 1 None, Brought (update 1 0 1 1)) ∷
    (Turn 1, Shown (update 1 0 0 0)) ∷
    (Turn 1, Took (close 1 0 0 1)) ∷
    (Close 1, Closed 1 (point_at 0 1 65535)) ∷
    (Advance 1, View 2) ∷
    (Turn 1, Refused why.StampOrder) ∷
    (Stamp 1, Refused why.NotYet) ∷
    (Beat 0 1, ans.Beat 0) ∷
    (BeatIn 0 1 0, Taken) ∷
    (Stamp 1, Shown (update 1 0 1 1)) ∷
    (BeatIn 0 1 0, Old) ∷
    [])
unfolding play
a_close_between_equal_timestamps = refl

-- stamp order, with beats that come out of order
beats_out_of_order : Plays stamps (
    (Write 0 0 (codes "one"), Wrote (update 1 0 0 0)) ∷
    (Gather 0, Gathered 1 1) ∷
    (Emit 0, Emitted (update 1 0 0 0)) ∷
    (Beat 0 1, ans.Beat 0) ∷
    (Write 0 0 (codes "two"), Wrote (update 2 0 0 0)) ∷
    (Gather 0, Gathered 1 2) ∷
    (Emit 0, Emitted (update 2 0 0 0)) ∷
    (Beat 0 1, ans.Beat 1) ∷
    (BeatIn 0 1 1, Taken) ∷
    (BeatIn 0 1 1, Again) ∷
    (Bulk 0 0 1 (Some 1), Brought (update 2 0 0 0)) ∷
    (Stamp 1, Refused why.NotYet) ∷
    (Bulk 0 0 1 (Some 0), Brought (update 1 0 0 0)) ∷
    (Stamp 1, Shown (update 1 0 0 0)) ∷
    (Stamp 1, Shown (update 2 0 0 0)) ∷
    (BeatIn 0 1 0, Old) ∷
    (BeatIn 0 1 2, Refused why.NoSuch) ∷
    (Leave 0, Left (point_at 2 0 0)) ∷
    (Attach 0 1, Attached) ∷
    (Read 0 0, ReadSome (update 2 0 0 0) (codes "two")) ∷
    [])
unfolding play
beats_out_of_order = refl

-- the last timestamps
the_last_timestamps : Plays two_sites (
    (Tick 0 0 4611686018427387903, Ticked 4611686018427387903) ∷
    (Write 0 0 (codes "v"), Wrote (update 4611686018427387904 0 0 0)) ∷
    (Write 0 0 (codes "w"), Refused why.Spent) ∷
    (Move 0 1, Refused why.Spent) ∷
    (Tick 1 0 4611686018427387904, Ticked 4611686018427387904) ∷
    (Write 1 0 (codes "u"), Refused why.Spent) ∷
    [])
unfolding play
the_last_timestamps = refl

-- sessions, and what they are refused
sessions : Plays three_sites (
    (Attach 0 0, Refused why.Joined) ∷
    (Write 0 1 (codes "z"), Refused why.NotHere) ∷
    (Move 0 0, Refused why.SameSite) ∷
    (Leave 0, Left (point_at 0 0 0)) ∷
    (Leave 0, Refused why.NoSession) ∷
    (Read 0 0, Refused why.NoSession) ∷
    (Attach 0 1, Attached) ∷
    (Read 0 1, ReadNone) ∷
    (Read 0 0, Refused why.NotHere) ∷
    [])
unfolding play
sessions = refl

-- five sites under three serializers; x at sites 1 and 3
abbrev five_sites : Deployed
five_sites = record { format = 1; sites = 5; gears = 1; items = item (codes "x") 10 ∷ []; clients = client (codes "a") 1 ∷ []; plans = plan.Tree (record { parents = None ∷ Some 0 ∷ Some 0 ∷ []; seats = 0 ∷ 1 ∷ 1 ∷ 2 ∷ 2 ∷ [] }) ∷ [] }

-- three sites, p at all, q at the last two, and a second serializer above the last
abbrev a_chain : Deployed
a_chain = record { format = 1; sites = 3; gears = 1; items = item (codes "p") 7 ∷ item (codes "q") 6 ∷ []; clients = client (codes "a") 0 ∷ client (codes "b") 1 ∷ []; plans = fork (0 ∷ 0 ∷ 1 ∷ []) ∷ [] }

-- a write, and the way of its label and its payload to the other site
the_plain_path : Plays two_sites (
    (Write 0 0 (codes "hello"), Wrote (update 1 0 0 0)) ∷
    (Gather 0, Gathered 1 1) ∷
    (Emit 0, Emitted (update 1 0 0 0)) ∷
    (Hop 1 (Site 0) 0, Hopped (update 1 0 0 0) ((Site 1) ∷ [])) ∷
    (Bulk 0 0 1 None, Brought (update 1 0 0 0)) ∷
    (Turn 1, Shown (update 1 0 0 0)) ∷
    (Read 1 0, ReadSome (update 1 0 0 0) (codes "hello")) ∷
    [])
unfolding play
the_plain_path = refl

-- a payload that comes first, and again
payload_first_and_repeated : Plays two_sites (
    (Write 0 0 (codes "v"), Wrote (update 1 0 0 0)) ∷
    (Bulk 0 0 1 (Some 0), Brought (update 1 0 0 0)) ∷
    (Bulk 0 0 1 (Some 0), Again) ∷
    (Gather 0, Gathered 1 1) ∷
    (Emit 0, Emitted (update 1 0 0 0)) ∷
    (Hop 1 (Site 0) 0, Hopped (update 1 0 0 0) ((Site 1) ∷ [])) ∷
    (Turn 1, Shown (update 1 0 0 0)) ∷
    (Bulk 0 0 1 (Some 0), Again) ∷
    (Turn 1, Refused why.Empty) ∷
    (Bulk 0 0 1 None, Refused why.NoSuch) ∷
    (Bulk 0 0 1 (Some 1), Refused why.NoSuch) ∷
    [])
unfolding play
payload_first_and_repeated = refl

-- a label goes only down the branches that have a target
pruned_branches : Plays five_sites (
    (Write 0 0 (codes "v"), Wrote (update 1 1 0 0)) ∷
    (Gather 1, Gathered 1 1) ∷
    (Emit 1, Emitted (update 1 1 0 0)) ∷
    (Hop 1 (Site 1) 1, Hopped (update 1 1 0 0) ((Serializer 0) ∷ [])) ∷
    (Hop 1 (Serializer 1) 0, Hopped (update 1 1 0 0) ((Serializer 2) ∷ [])) ∷
    (Hop 1 (Serializer 0) 2, Hopped (update 1 1 0 0) ((Site 3) ∷ [])) ∷
    (Turn 0, Refused why.Empty) ∷
    (Turn 2, Refused why.Empty) ∷
    (Turn 4, Refused why.Empty) ∷
    (Turn 3, Refused (why.NoPayload (update 1 1 0 0))) ∷
    (Bulk 1 0 3 None, Brought (update 1 1 0 0)) ∷
    (Turn 3, Shown (update 1 1 0 0)) ∷
    [])
unfolding play
pruned_branches = refl

-- a cause that the middle site saw goes before its effect through the chain
a_cause_through_a_chain : Plays a_chain (
    (Write 0 0 (codes "P"), Wrote (update 1 0 0 0)) ∷
    (Gather 0, Gathered 1 1) ∷
    (Emit 0, Emitted (update 1 0 0 0)) ∷
    (Hop 1 (Site 0) 0, Hopped (update 1 0 0 0) (Site 1 ∷ Serializer 1 ∷ [])) ∷
    (Bulk 0 0 1 None, Brought (update 1 0 0 0)) ∷
    (Turn 1, Shown (update 1 0 0 0)) ∷
    (Read 1 0, ReadSome (update 1 0 0 0) (codes "P")) ∷
    (Write 1 1 (codes "Q"), Wrote (update 2 1 0 1)) ∷
    (Gather 1, Gathered 1 2) ∷
    (Emit 1, Emitted (update 2 1 0 1)) ∷
    (Hop 1 (Site 1) 0, Hopped (update 2 1 0 1) ((Serializer 1) ∷ [])) ∷
    (Bulk 1 0 2 None, Brought (update 2 1 0 1)) ∷
    (Turn 2, Refused why.Empty) ∷
    (Hop 1 (Serializer 0) 1, Hopped (update 1 0 0 0) ((Site 2) ∷ [])) ∷
    (Hop 1 (Serializer 0) 1, Hopped (update 2 1 0 1) ((Site 2) ∷ [])) ∷
    (Turn 2, Refused (why.NoPayload (update 1 0 0 0))) ∷
    (Bulk 0 0 2 None, Brought (update 1 0 0 0)) ∷
    (Turn 2, Shown (update 1 0 0 0)) ∷
    (Turn 2, Shown (update 2 1 0 1)) ∷
    [])
unfolding play
a_cause_through_a_chain = refl

-- an update that was sent after its site closed the view waits for the next view, although nothing below it can come
past_the_close : Plays two_stamps (
    (Write 0 0 (codes "1"), Wrote (update 1 0 0 0)) ∷
    (Gather 0, Gathered 1 1) ∷
    (Emit 0, Emitted (update 1 0 0 0)) ∷
    (Close 0, Closed 1 (point_at 1 0 65535)) ∷
    (Write 0 0 (codes "2"), Wrote (update 2 0 0 0)) ∷
    (Gather 0, Gathered 1 2) ∷
    (Emit 0, Emitted (update 2 0 0 0)) ∷
    (Beat 0 1, ans.Beat 0) ∷
    (Bulk 0 0 1 None, Brought (update 1 0 0 0)) ∷
    (Bulk 0 0 1 None, Brought (update 2 0 0 0)) ∷
    (BeatIn 0 1 0, Taken) ∷
    (Stamp 1, Shown (update 1 0 0 0)) ∷
    (Stamp 1, Refused why.NotYet) ∷
    (Advance 1, Refused why.NotClosed) ∷
    (Close 1, Closed 1 (point_at 0 1 65535)) ∷
    (Advance 1, View 2) ∷
    (Stamp 1, Shown (update 2 0 0 0)) ∷
    (Read 1 0, ReadSome (update 2 0 0 0) (codes "2")) ∷
    [])
unfolding play
past_the_close = refl

-- a beat's cut reaches a client's timestamp, but the close cut of the view does not: the client may come in the next view
a_close_cut_below_the_client : Plays kept_at_one (
    (Close 0, Closed 1 (point_at 0 0 65535)) ∷
    (Write 0 0 (codes "1"), Wrote (update 1 0 0 0)) ∷
    (Gather 0, Gathered 1 1) ∷
    (Emit 0, Emitted (update 1 0 0 0)) ∷
    (Leave 0, Left (point_at 1 0 0)) ∷
    (Beat 0 1, ans.Beat 0) ∷
    (BeatIn 0 1 0, Taken) ∷
    (Attach 0 1, Refused why.NotYet) ∷
    (Close 1, Closed 1 (point_at 0 1 65535)) ∷
    (Advance 1, View 2) ∷
    (Attach 0 1, Attached) ∷
    [])
unfolding play
a_close_cut_below_the_client = refl

-- a clock raises every gear to the greatest promise of all
one_clock : Plays two_clocks (
    (Tick 1 1 7, Ticked 7) ∷
    (Write 0 0 (codes "1"), Wrote (update 1 0 0 0)) ∷
    (Clock, Clocked 7) ∷
    (Write 0 0 (codes "2"), Wrote (update 8 0 0 0)) ∷
    (Gather 1, Gathered 0 7) ∷
    (Pulse 1, Pulsed (pulse 7 1 65534)) ∷
    [])
unfolding play
one_clock = refl

-- ---- several items under one label

-- three sites of two gears; x at the first two, y at the first and the last, z at the last two; a client at the first and one at the last
abbrev three_shared : Deployed
three_shared = record { format = 2; sites = 3; gears = 2; items = item (codes "x") 3 ∷ item (codes "y") 5 ∷ item (codes "z") 6 ∷ []; clients = client (codes "a") 0 ∷ client (codes "c") 2 ∷ []; plans = star (0 ∷ 0 ∷ 0 ∷ []) ∷ [] }

-- the label of x and y
abbrev both : Label
both = record { point = point_at 1 0 0; kind = kind.Update (Two 0 1) }

-- each site shows its part: the one that keeps x, and the one that keeps y. The other gear's lanes have nothing
shown_in_parts : Plays three_shared (
    (Writes 0 (Two 0 1) (codes "X" ∷ codes "Y" ∷ []), Wrote both) ∷
    (Writes 0 (Two 0 2) (codes "X" ∷ codes "Z" ∷ []), Refused why.NotHere) ∷
    (Tick 0 1 1, Ticked 1) ∷
    (Gather 0, Gathered 1 1) ∷
    (Emit 0, Emitted both) ∷
    (Hop 1 (Site 0) 0, Hopped both ((Site 1) ∷ (Site 2) ∷ [])) ∷
    (Bulk 0 0 1 None, Brought both) ∷
    (Bulk 0 0 2 None, Brought both) ∷
    (Bulk 0 1 2 None, Refused why.NoSuch) ∷
    (Turn 1, Shown both) ∷
    (Turn 2, Shown both) ∷
    (Read 1 1, ReadSome both (codes "Y")) ∷
    (Read 1 2, ReadNone) ∷
    (Read 0 0, ReadSome both (codes "X")) ∷
    (Read 0 1, ReadSome both (codes "Y")) ∷
    [])
unfolding play
shown_in_parts = refl

-- items of two gears under one label, of which the least one's gear stamps, and the other gear's promise stays
abbrev two_parts : Deployed
two_parts = record { format = 2; sites = 2; gears = 2; items = item (codes "x") 3 ∷ item (codes "y") 3 ∷ []; clients = client (codes "a") 0 ∷ client (codes "b") 0 ∷ client (codes "c") 1 ∷ []; plans = star (0 ∷ 0 ∷ []) ∷ [] }

shown_at_once : Plays two_parts (
    (Writes 0 (Two 0 1) (codes "1" ∷ codes "2" ∷ []), Wrote both) ∷
    (Tick 0 1 1, Ticked 1) ∷
    (Gather 0, Gathered 1 1) ∷
    (Emit 0, Emitted both) ∷
    (Hop 1 (Site 0) 0, Hopped both ((Site 1) ∷ [])) ∷
    (Bulk 0 0 1 None, Brought both) ∷
    (Turn 1, Shown both) ∷
    (Read 2 1, ReadSome both (codes "2")) ∷
    (Write 2 1 (codes "3"), Wrote (update 2 1 1 1)) ∷
    (Read 2 1, ReadSome (update 2 1 1 1) (codes "3")) ∷
    (Read 2 0, ReadSome both (codes "1")) ∷
    [])
unfolding play
shown_at_once = refl
