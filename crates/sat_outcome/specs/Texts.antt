-- What is printed of running nodes whose history is not whole.
use Rattle.std.specs.Prelude.{ℕ, ◌+◌, ◌*◌, nat_lt, List, [], ◌∷◌, ◌++◌, length, Option, Some, None, codes}
use Rattle.std.specs.Prelude.{if◌then◌else◌}
use Rattle.std.specs.Fmt.{decimal}
use Rattle.sat_label.specs.Text.{point_text}
use Rattle.sat_label.specs.declared.node.NodeName.{NodeName}
use Rattle.sat_label.specs.declared.node.NodeName.TheVariants as named
use Rattle.sat_act.specs.declared.act.Act.{Act}
use Rattle.sat_act.specs.declared.entry.Entry.{Entry}
use Rattle.sat_act.specs.declared.deployment.Plan.{Plan}
use Rattle.sat_act.specs.declared.deployment.Plan.TheVariants as plan
use Rattle.sat_act.specs.Deployed.{Deployed}
use Rattle.sat_script.specs.Spelled.{act_text}
use Rattle.sat_report.specs.Answers.{answer_text}
use Rattle.sat_session.specs.declared.noted.Noted.{Noted}
use Rattle.sat_finish.specs.declared.joint.Joint.{Joint}

-- ---- places of nodes

-- how many serializers a plan has
abbrev pub serials_in : Plan → ℕ
serials_in plan.Stamp = 0
serials_in (plan.Tree tree) = length tree.parents

-- how many the plans before that of epoch e have, where the first of them is of epoch k
abbrev pub serials_before : ℕ → ℕ → List Plan → ℕ
serials_before k e [] = 0
serials_before k e (p ∷ ps) = if nat_lt k e then serials_in p + serials_before (k + 1) e ps else 0

-- the place of a node among all: hubs by site, then gears by site and number, then serializers by epoch and number
abbrev pub node_place : Deployed → NodeName → ℕ
node_place d (named.Site i) = i
node_place d (named.Gear i g) = d.sites + i * d.gears + g
node_place d (named.Serializer e z) = d.sites + d.sites * d.gears + serials_before 1 e d.plans + z

-- ---- lines

-- a number, or a dash where there is none
abbrev pub number_text : Option ℕ → List ℕ
number_text None = codes "-"
number_text (Some n) = decimal n

abbrev pub place_of : Deployed → Option NodeName → Option ℕ
place_of d None = None
place_of d (Some name) = Some (node_place d name)

-- where an act was done, and what was carried: the node's place, the point and the goal
abbrev pub known_text : Deployed → Noted → List ℕ
known_text d n = number_text (place_of d n.at) ++ 32 ∷ (point_text n.carried.point ++ 32 ∷ number_text n.carried.moving)

-- an act's line, and its answer
abbrev pub entry_text : Deployed → Entry → List ℕ
entry_text d e = act_text d e.act ++ codes " -> " ++ answer_text d e.act e.answer

-- a note: its number, that, the act's line, and the answer
abbrev pub note_text : Deployed → Noted → List ℕ
note_text d n = decimal n.lamport ++ 32 ∷ (known_text d n ++ 32 ∷ entry_text d n.entry)

-- what was kept of an act, if anything was
abbrev pub kept_text : Deployed → Option Noted → List ℕ
kept_text d None = codes "none"
kept_text d (Some n) = note_text d n

-- what a node kept, and what a session kept, where they are not the same
abbrev pub differ_text : Deployed → Option Noted → Option Noted → List ℕ
differ_text d node session = codes "differ\n" ++ kept_text d node ++ 10 ∷ (kept_text d session ++ 10 ∷ [])

-- a node's part of an act: the act's number, the node's place, the act's line, and the answer
abbrev pub joint_text : Deployed → ℕ → Joint → List ℕ
joint_text d number j = decimal number ++ 32 ∷ (decimal (node_place d j.at) ++ 32 ∷ entry_text d j.entry)

-- the part that was kept under a number, if any was
abbrev pub part_text : Deployed → ℕ → Option Joint → List ℕ
part_text d number None = codes "none"
part_text d number (Some j) = joint_text d number j

-- what two nodes of one act kept of it under its number, its home first, where they are not the same
abbrev pub apart_text : Deployed → ℕ → Option Joint → Option Joint → List ℕ
apart_text d number home other =
    codes "apart\n" ++ part_text d number home ++ 10 ∷ (part_text d number other ++ 10 ∷ [])

-- the act that a history lacks
abbrev pub undone_text : Deployed → Act → List ℕ
undone_text d a = codes "undone\n" ++ act_text d a ++ 10 ∷ []

-- what a settle behind the history had still to do: the rounds in which something was done, and how much
abbrev pub unsettled_text : ℕ → ℕ → List ℕ
unsettled_text rounds done = codes "undone\nsettled " ++ decimal rounds ++ 32 ∷ (decimal done ++ 10 ∷ [])
