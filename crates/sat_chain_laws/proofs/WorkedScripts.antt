-- Worked scripts with chains: the answer of each act, computed.
use Rattle.std.specs.Prelude.{◌≡◌, ℕ, List, [], ◌∷◌, map, None, codes, refl}
use Rattle.sat_label.specs.declared.items.Items.TheVariants.{One, Two}
use Rattle.sat_label.specs.declared.label.Kind.TheVariants as kind
use Rattle.sat_label.specs.declared.label.Label.{Label}
use Rattle.sat_label.specs.declared.node.NodeId.TheVariants.{Site}
use Rattle.sat_label.specs.Order.{point_at}
use Rattle.sat_act.specs.declared.act.Act.TheVariants.{Write, Writes, Gather, Emit, Turn, Bulk}
use Rattle.sat_act.specs.declared.act.Act.TheVariants as act
use Rattle.sat_act.specs.declared.answer.Answer.TheVariants.{Wrote, Gathered, Emitted, Hopped, Killed, Brought, Shown}
use Rattle.sat_act.specs.declared.answer.Answer.TheVariants as ans
use Rattle.sat_act.specs.declared.answer.Refusal.TheVariants as no
use Rattle.sat_act.specs.declared.deployment.Plan.TheVariants as plan
use Rattle.sat_act.specs.declared.deployment.Item.{Item}
use Rattle.sat_act.specs.declared.deployment.ClientLine.{ClientLine}
use Rattle.sat_act.specs.Deployed.{Deployed}
use Rattle.sat_chain_laws.specs.declared.chain_act.ChainAct.{ChainAct}
use Rattle.sat_chain_laws.specs.declared.chain_act.ChainAct.TheVariants.{Enter, Pass, Apply, Crash, Plain}
use Rattle.sat_chain_laws.specs.declared.chain_answer.ChainAnswer.{ChainAnswer}
use Rattle.sat_chain_laws.specs.declared.chain_answer.ChainAnswer.TheVariants as says
use Rattle.sat_chain_laws.specs.declared.chain_answer.ChainRefusal.TheVariants as why
use Rattle.sat_chain_laws.specs.Chains.{ChainEntry, plain, plain_entry}
use Rattle.sat_chain_laws.specs.ChainAnswers.{chain_answer}

-- the history of these acts after a history
played : Deployed → ℕ → List ChainEntry → List ChainAct → List ChainEntry
unfolding chain_answer
played d r c [] = c
played d r c (a ∷ acts) = played d r (record { act = a; answer = chain_answer d r c a } ∷ c) acts

-- the answers of acts, one after another, after a history
play : Deployed → ℕ → List ChainEntry → List ChainAct → List ChainAnswer
unfolding chain_answer
play d r c [] = []
play d r c (a ∷ acts) = let n = chain_answer d r c a in n ∷ play d r (record { act = a; answer = n } ∷ c) acts

-- with r replicas, from the beginning, each act has the answer beside it
abbrev Plays : Deployed → ℕ → List (ChainAct × ChainAnswer) → Type 0
Plays d r rows = play d r [] (map (λ row. row.0) rows) ≡ map (λ row. row.1) rows

abbrev update : ℕ → ℕ → ℕ → Label
update ts site x = record { point = point_at ts site 0; kind = kind.Update (One x) }

abbrev item : List ℕ → ℕ → Item
item name bits = record { name = name; replicas = record { bits = bits } }

abbrev client : List ℕ → ℕ → ClientLine
client name site = record { name = name; site = site }

-- two sites that keep x, a client at each, and one serializer
abbrev two_sites : Deployed
two_sites = record { format = 1; sites = 2; gears = 1; items = item (codes "x") 3 ∷ []; clients = client (codes "a") 0 ∷ client (codes "b") 1 ∷ []; plans = plan.Tree (record { parents = None ∷ []; seats = 0 ∷ 0 ∷ [] }) ∷ [] }

-- what only a crashed head had is not lost: the next head takes it in again. With the last replica the serializer is dead
a_head_crashes : Plays two_sites 2 (
    (Plain (Write 0 0 (codes "v")), says.Plain (Wrote (update 1 0 0))) ∷
    (Plain (Gather 0), says.Plain (Gathered 1 1)) ∷
    (Plain (Emit 0), says.Plain (Emitted (update 1 0 0))) ∷
    (Enter 1 (Site 0) 0, says.Entered (update 1 0 0)) ∷
    (Apply 1 0, says.Refused why.Empty) ∷
    (Crash 1 0 0, says.Crashed) ∷
    (Enter 1 (Site 0) 0, says.Entered (update 1 0 0)) ∷
    (Apply 1 0, says.Plain (Hopped (update 1 0 0) (Site 1 ∷ []))) ∷
    (Crash 1 0 1, says.Crashed) ∷
    (Enter 1 (Site 0) 0, says.Refused why.Dead) ∷
    (Plain (Turn 1), says.Plain (ans.Refused (no.NoPayload (update 1 0 0)))) ∷
    [])
unfolding play
a_head_crashes = refl

-- a new tail does not let take effect again what took effect before
a_tail_crashes : Plays two_sites 2 (
    (Plain (Write 0 0 (codes "v")), says.Plain (Wrote (update 1 0 0))) ∷
    (Plain (Gather 0), says.Plain (Gathered 1 1)) ∷
    (Plain (Emit 0), says.Plain (Emitted (update 1 0 0))) ∷
    (Enter 1 (Site 0) 0, says.Entered (update 1 0 0)) ∷
    (Pass 1 0 0, says.Passed (update 1 0 0)) ∷
    (Pass 1 0 0, says.Refused why.Empty) ∷
    (Pass 1 0 1, says.Refused why.Last) ∷
    (Apply 1 0, says.Plain (Hopped (update 1 0 0) (Site 1 ∷ []))) ∷
    (Crash 1 0 1, says.Crashed) ∷
    (Apply 1 0, says.Refused why.Empty) ∷
    (Pass 1 0 1, says.Refused why.Crashed) ∷
    [])
unfolding play
a_tail_crashes = refl

-- labels of two neighbours stand in the head's list in the order in which they came, and take effect in that order; where the
-- head crashes before it handed them on, the next head may take them in in another order
two_neighbours : Plays two_sites 3 (
    (Plain (Write 0 0 (codes "v")), says.Plain (Wrote (update 1 0 0))) ∷
    (Plain (Write 1 0 (codes "w")), says.Plain (Wrote (update 1 1 0))) ∷
    (Plain (Gather 0), says.Plain (Gathered 1 1)) ∷
    (Plain (Gather 1), says.Plain (Gathered 1 1)) ∷
    (Plain (Emit 0), says.Plain (Emitted (update 1 0 0))) ∷
    (Plain (Emit 1), says.Plain (Emitted (update 1 1 0))) ∷
    (Enter 1 (Site 0) 0, says.Entered (update 1 0 0)) ∷
    (Enter 1 (Site 0) 0, says.Refused why.Empty) ∷
    (Enter 1 (Site 1) 0, says.Entered (update 1 1 0)) ∷
    (Crash 1 0 0, says.Crashed) ∷
    (Enter 1 (Site 1) 0, says.Entered (update 1 1 0)) ∷
    (Enter 1 (Site 0) 0, says.Entered (update 1 0 0)) ∷
    (Pass 1 0 1, says.Passed (update 1 1 0)) ∷
    (Crash 1 0 0, says.Refused why.Crashed) ∷
    (Apply 1 0, says.Plain (Hopped (update 1 1 0) (Site 0 ∷ []))) ∷
    (Crash 1 0 2, says.Crashed) ∷
    (Apply 1 0, says.Plain (Hopped (update 1 0 0) (Site 1 ∷ []))) ∷
    (Apply 1 0, says.Refused why.Empty) ∷
    [])
unfolding play
two_neighbours = refl

-- a new tail goes on with the second neighbour's label. One that began anew would look for the first label on a link that is
-- empty by now
a_new_tail_goes_on : Plays two_sites 2 (
    (Plain (Write 0 0 (codes "v")), says.Plain (Wrote (update 1 0 0))) ∷
    (Plain (Write 1 0 (codes "w")), says.Plain (Wrote (update 1 1 0))) ∷
    (Plain (Gather 0), says.Plain (Gathered 1 1)) ∷
    (Plain (Gather 1), says.Plain (Gathered 1 1)) ∷
    (Plain (Emit 0), says.Plain (Emitted (update 1 0 0))) ∷
    (Plain (Emit 1), says.Plain (Emitted (update 1 1 0))) ∷
    (Enter 1 (Site 0) 0, says.Entered (update 1 0 0)) ∷
    (Enter 1 (Site 1) 0, says.Entered (update 1 1 0)) ∷
    (Pass 1 0 0, says.Passed (update 1 0 0)) ∷
    (Pass 1 0 0, says.Passed (update 1 1 0)) ∷
    (Apply 1 0, says.Plain (Hopped (update 1 0 0) (Site 1 ∷ []))) ∷
    (Crash 1 0 1, says.Crashed) ∷
    (Apply 1 0, says.Plain (Hopped (update 1 1 0) (Site 0 ∷ []))) ∷
    (Apply 1 0, says.Refused why.Empty) ∷
    [])
unfolding play
a_new_tail_goes_on = refl

-- three sites, of which site 1 keeps x and site 2 keeps y, with a client at site 0, which keeps both
abbrev three_sites : Deployed
three_sites = record { format = 2; sites = 3; gears = 1; items = item (codes "x") 3 ∷ item (codes "y") 5 ∷ []; clients = client (codes "a") 0 ∷ []; plans = plan.Tree (record { parents = None ∷ []; seats = 0 ∷ 0 ∷ 0 ∷ [] }) ∷ [] }

-- an update of both items, written under one label, goes on to two neighbours, and is one pair of each list
abbrev both_items : Label
both_items = record { point = point_at 1 0 0; kind = kind.Update (Two 0 1) }

-- a new tail counts labels and not pairs: of the first pair's two labels one or both may be taken by the time that it looks
a_group_goes_two_ways : Plays three_sites 2 (
    (Plain (Writes 0 (Two 0 1) (codes "v" ∷ codes "w" ∷ [])), says.Plain (Wrote both_items)) ∷
    (Plain (Write 0 1 (codes "u")), says.Plain (Wrote (update 2 0 1))) ∷
    (Plain (Gather 0), says.Plain (Gathered 2 2)) ∷
    (Plain (Emit 0), says.Plain (Emitted both_items)) ∷
    (Plain (Emit 0), says.Plain (Emitted (update 2 0 1))) ∷
    (Enter 1 (Site 0) 0, says.Entered both_items) ∷
    (Enter 1 (Site 0) 0, says.Entered (update 2 0 1)) ∷
    (Pass 1 0 0, says.Passed both_items) ∷
    (Pass 1 0 0, says.Passed (update 2 0 1)) ∷
    (Apply 1 0, says.Plain (Hopped both_items (Site 1 ∷ Site 2 ∷ []))) ∷
    (Plain (Bulk 0 0 1 None), says.Plain (Brought both_items)) ∷
    (Plain (Turn 1), says.Plain (Shown both_items)) ∷
    (Crash 1 0 1, says.Crashed) ∷
    (Apply 1 0, says.Plain (Hopped (update 2 0 1) (Site 2 ∷ []))) ∷
    (Apply 1 0, says.Refused why.Empty) ∷
    [])
unfolding play
a_group_goes_two_ways = refl

-- the plain history of chain acts: the done applies are hops, the crash of the last replica is a kill
projected_acts : plain 2 (played two_sites 2 [] (
    Plain (Write 0 0 (codes "v")) ∷ Plain (Gather 0) ∷ Plain (Emit 0) ∷ Enter 1 (Site 0) 0 ∷ Apply 1 0 ∷ Crash 1 0 0 ∷ Enter 1 (Site 0) 0 ∷ Apply 1 0 ∷ Crash 1 0 1 ∷ Crash 1 0 1 ∷ []))
    ≡ (
    plain_entry (act.Kill 1 0) Killed ∷
    plain_entry (act.Hop 1 (Site 0) 0) (Hopped (update 1 0 0) (Site 1 ∷ [])) ∷
    plain_entry (act.Emit 0) (Emitted (update 1 0 0)) ∷
    plain_entry (act.Gather 0) (Gathered 1 1) ∷
    plain_entry (act.Write 0 0 (codes "v")) (Wrote (update 1 0 0)) ∷
    [])
unfolding played plain
projected_acts = refl
