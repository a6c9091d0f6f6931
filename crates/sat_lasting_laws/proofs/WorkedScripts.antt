-- Worked scripts with stops: the answer of each act, computed.
use Rattle.std.specs.Prelude.{◌≡◌, ℕ, Bool, true, false, List, [], ◌∷◌, map, None, codes, refl}
use Rattle.sat_label.specs.declared.items.Items.TheVariants.{One}
use Rattle.sat_label.specs.declared.label.Kind.TheVariants as kind
use Rattle.sat_label.specs.declared.label.Label.{Label}
use Rattle.sat_label.specs.declared.node.NodeId.TheVariants.{Site}
use Rattle.sat_label.specs.Order.{point_at, zero_point}
use Rattle.sat_act.specs.declared.act.Act.TheVariants.{Write, Read, Gather, Emit, Turn, Bulk}
use Rattle.sat_act.specs.declared.act.Act.TheVariants as act
use Rattle.sat_act.specs.declared.answer.Answer.TheVariants.{Wrote, Gathered, Emitted, Hopped, Killed, Brought, Shown}
use Rattle.sat_act.specs.declared.answer.Answer.TheVariants as ans
use Rattle.sat_act.specs.declared.answer.Refusal.TheVariants as no
use Rattle.sat_act.specs.declared.deployment.Plan.TheVariants as plan
use Rattle.sat_act.specs.declared.deployment.Item.{Item}
use Rattle.sat_act.specs.declared.deployment.ClientLine.{ClientLine}
use Rattle.sat_act.specs.Deployed.{Deployed}
use Rattle.sat_lasting_laws.specs.declared.lasting_act.LastingAct.{LastingAct}
use Rattle.sat_lasting_laws.specs.declared.lasting_act.LastingAct.TheVariants.{Plain, Stop, Cut}
use Rattle.sat_lasting_laws.specs.declared.lasting_answer.LastingAnswer.{LastingAnswer}
use Rattle.sat_lasting_laws.specs.declared.lasting_answer.LastingAnswer.TheVariants as says
use Rattle.sat_lasting_laws.specs.Lastings.{LastingEntry, kept, plain_entry}
use Rattle.sat_lasting_laws.specs.LastingAnswers.{lasting_answer}

-- the history of these acts after a history
played : Deployed → List LastingEntry → List LastingAct → List LastingEntry
unfolding lasting_answer
played d c [] = c
played d c (a ∷ acts) = played d (record { act = a; answer = lasting_answer d c a } ∷ c) acts

-- the answers of acts, one after another, after a history
play : Deployed → List LastingEntry → List LastingAct → List LastingAnswer
unfolding lasting_answer
play d c [] = []
play d c (a ∷ acts) = let n = lasting_answer d c a in n ∷ play d (record { act = a; answer = n } ∷ c) acts

-- from the beginning each act has the answer beside it
abbrev Plays : Deployed → List (LastingAct × LastingAnswer) → Type 0
Plays d rows = play d [] (map (λ row. row.0) rows) ≡ map (λ row. row.1) rows

abbrev update : ℕ → ℕ → ℕ → Label
update ts site x = record { point = point_at ts site 0; kind = kind.Update (One x) }

abbrev item : List ℕ → ℕ → Item
item name bits = record { name = name; replicas = record { bits = bits } }

abbrev client : List ℕ → ℕ → ClientLine
client name site = record { name = name; site = site }

-- two sites that keep x, a client at each, and one serializer
abbrev two_sites : Deployed
two_sites = record { format = 1; sites = 2; gears = 1; items = item (codes "x") 3 ∷ []; clients = client (codes "a") 0 ∷ client (codes "b") 1 ∷ []; plans = plan.Tree (record { parents = None ∷ []; seats = 0 ∷ 0 ∷ [] }) ∷ [] }

abbrev written : LastingAct
written = Plain (Write 0 0 (codes "v"))

abbrev wrote : LastingAnswer
wrote = says.Plain (Wrote (update 1 0 0))

-- a gather whose second write fails is lost, and is done by the next one; an emission that is on the disk but for its last sync is there, once what was
-- written stays
a_gather_is_lost : Plays two_sites (
    (written, wrote) ∷
    (Cut 0 2 false, says.Armed) ∷
    (Plain (Gather 0), says.StoppedWithout) ∷
    (Plain (Gather 0), says.Plain (Gathered 1 1)) ∷
    (Cut 0 3 true, says.Armed) ∷
    (Plain (Emit 0), says.Stopped (Emitted (update 1 0 0))) ∷
    (Plain (act.Hop 1 (Site 0) 0), says.Plain (Hopped (update 1 0 0) (Site 1 ∷ []))) ∷
    (Stop 0, says.Recovered 3) ∷
    [])
unfolding play
a_gather_is_lost = refl

-- a write that is lost was never there
a_write_is_lost : Plays two_sites (
    (Cut 0 0 true, says.Armed) ∷
    (written, says.StoppedWithout) ∷
    (Plain (Read 0 0), says.Plain (ans.ReadNone)) ∷
    (Stop 0, says.Recovered 1) ∷
    [])
unfolding play
a_write_is_lost = refl

-- what a site refuses is an input too, and is kept as one
a_refused_act_is_kept : Plays two_sites (
    (Cut 0 3 true, says.Armed) ∷
    (Plain (Emit 0), says.Stopped (ans.Refused no.Idle)) ∷
    (Stop 0, says.Recovered 1) ∷
    [])
unfolding play
a_refused_act_is_kept = refl

-- or lost as one
a_refused_act_is_lost : Plays two_sites (
    (Cut 0 1 true, says.Armed) ∷
    (Plain (Emit 0), says.StoppedWithout) ∷
    (Plain (Emit 0), says.Plain (ans.Refused no.Idle)) ∷
    (Stop 0, says.Recovered 1) ∷
    [])
unfolding play
a_refused_act_is_lost = refl

-- a second cut takes the place of the first
a_second_cut : Plays two_sites (
    (Cut 0 0 false, says.Armed) ∷
    (Cut 0 3 true, says.Armed) ∷
    (written, says.Stopped (Wrote (update 1 0 0))) ∷
    (Plain (Gather 0), says.Plain (Gathered 1 1)) ∷
    (Stop 0, says.Recovered 2) ∷
    [])
unfolding play
a_second_cut = refl

-- also where the first would have kept the input
a_second_cut_loses : Plays two_sites (
    (Cut 0 3 true, says.Armed) ∷
    (Cut 0 3 false, says.Armed) ∷
    (written, says.StoppedWithout) ∷
    (Stop 0, says.Recovered 0) ∷
    [])
unfolding play
a_second_cut_loses = refl

-- a cut waits for an act at its own site
a_cut_elsewhere : Plays two_sites (
    (Cut 1 0 false, says.Armed) ∷
    (written, wrote) ∷
    (Plain (Gather 0), says.Plain (Gathered 1 1)) ∷
    (Plain (Gather 1), says.StoppedWithout) ∷
    (Plain (Gather 1), says.Plain (Gathered 0 0)) ∷
    (Stop 0, says.Recovered 2) ∷
    (Stop 1, says.Recovered 1) ∷
    [])
unfolding play
a_cut_elsewhere = refl

-- a stop takes the cut of its site away
a_stop_disarms : Plays two_sites (
    (Cut 0 0 false, says.Armed) ∷
    (Stop 0, says.Recovered 0) ∷
    (written, wrote) ∷
    (Stop 0, says.Recovered 1) ∷
    (Stop 0, says.Recovered 1) ∷
    [])
unfolding play
a_stop_disarms = refl

-- and that of no other site
a_stop_elsewhere : Plays two_sites (
    (Cut 0 0 false, says.Armed) ∷
    (Stop 1, says.Recovered 0) ∷
    (written, says.StoppedWithout) ∷
    (written, wrote) ∷
    [])
unfolding play
a_stop_elsewhere = refl

-- an act that reaches no site leaves the cut: a leave, a kill and a hop, and what is refused since the client has no seat or has one, or
-- since there is no such payload or beat
acts_at_no_site : Plays two_sites (
    (Cut 0 0 false, says.Armed) ∷
    (Plain (act.Leave 0), says.Plain (ans.Left zero_point)) ∷
    (written, says.Plain (ans.Refused no.NoSession)) ∷
    (Plain (act.Kill 1 0), says.Plain (Killed)) ∷
    (Plain (act.Hop 1 (Site 0) 0), says.Plain (ans.Refused no.Dead)) ∷
    (Plain (Bulk 1 0 0 None), says.Plain (ans.Refused no.NoSuch)) ∷
    (Plain (act.BeatIn 1 0 0), says.Plain (ans.Refused no.NoSuch)) ∷
    (Plain (act.Attach 1 0), says.Plain (ans.Refused no.Joined)) ∷
    (Plain (act.Attach 0 0), says.StoppedWithout) ∷
    (Plain (act.Attach 0 0), says.Plain (ans.Attached)) ∷
    (Stop 0, says.Recovered 1) ∷
    [])
unfolding play
acts_at_no_site = refl

-- of the cuts whose bytes stay only the one before the last sync keeps the input, and of those whose bytes are lost none
all_but_the_last_sync : Plays two_sites (
    (Cut 0 0 true, says.Armed) ∷
    (written, says.StoppedWithout) ∷
    (Cut 0 1 true, says.Armed) ∷
    (written, says.StoppedWithout) ∷
    (Cut 0 2 true, says.Armed) ∷
    (written, says.StoppedWithout) ∷
    (Cut 0 0 false, says.Armed) ∷
    (written, says.StoppedWithout) ∷
    (Cut 0 1 false, says.Armed) ∷
    (written, says.StoppedWithout) ∷
    (Cut 0 2 false, says.Armed) ∷
    (written, says.StoppedWithout) ∷
    (Cut 0 3 false, says.Armed) ∷
    (written, says.StoppedWithout) ∷
    (Stop 0, says.Recovered 0) ∷
    (Cut 0 3 true, says.Armed) ∷
    (written, says.Stopped (Wrote (update 1 0 0))) ∷
    (Stop 0, says.Recovered 1) ∷
    [])
unfolding play
all_but_the_last_sync = refl

-- the client is told what a site answered before it stopped: it left its seat
a_move_is_told : Plays two_sites (
    (Cut 0 3 true, says.Armed) ∷
    (Plain (act.Move 0 1), says.Stopped (ans.Moved (record { point = point_at 1 0 0; kind = kind.Move 1 }))) ∷
    (Plain (Read 0 0), says.Plain (ans.Refused no.NoSession)) ∷
    (Stop 0, says.Recovered 1) ∷
    [])
unfolding play
a_move_is_told = refl

-- and it is told nothing of a move that was lost
a_move_is_lost : Plays two_sites (
    (Cut 0 2 true, says.Armed) ∷
    (Plain (act.Move 0 1), says.StoppedWithout) ∷
    (Plain (Read 0 0), says.Plain (ans.ReadNone)) ∷
    (Stop 0, says.Recovered 1) ∷
    [])
unfolding play
a_move_is_lost = refl

-- a payload is an input of the site that it comes to, and is shown behind a stop of that site
a_receiver_stops : Plays two_sites (
    (written, wrote) ∷
    (Plain (Gather 0), says.Plain (Gathered 1 1)) ∷
    (Plain (Emit 0), says.Plain (Emitted (update 1 0 0))) ∷
    (Plain (act.Hop 1 (Site 0) 0), says.Plain (Hopped (update 1 0 0) (Site 1 ∷ []))) ∷
    (Cut 0 0 false, says.Armed) ∷
    (Cut 1 2 true, says.Armed) ∷
    (Plain (Bulk 0 0 1 None), says.StoppedWithout) ∷
    (Plain (Turn 1), says.Plain (ans.Refused (no.NoPayload (update 1 0 0)))) ∷
    (Plain (Bulk 0 0 1 None), says.Plain (Brought (update 1 0 0))) ∷
    (Stop 1, says.Recovered 2) ∷
    (Cut 1 3 true, says.Armed) ∷
    (Plain (Turn 1), says.Stopped (Shown (update 1 0 0))) ∷
    (Plain (Gather 0), says.StoppedWithout) ∷
    (Stop 0, says.Recovered 3) ∷
    (Stop 1, says.Recovered 3) ∷
    [])
unfolding play
a_receiver_stops = refl

-- the history of the kept acts, the newest first
kept_acts : kept (played two_sites [] (
    written ∷ Cut 0 2 false ∷ Plain (Gather 0) ∷ Plain (Gather 0) ∷ Cut 0 3 true ∷ Plain (Emit 0) ∷ Stop 0 ∷ []))
    ≡ (
    plain_entry (Emit 0) (Emitted (update 1 0 0)) ∷
    plain_entry (Gather 0) (Gathered 1 1) ∷
    plain_entry (Write 0 0 (codes "v")) (Wrote (update 1 0 0)) ∷
    [])
unfolding played kept
kept_acts = refl
