-- Settle: its opening and its rounds, and the run of a list of acts.
use Rattle.std.specs.Prelude.{ℕ, zero, suc, ◌+◌, ◌-◌, ◌^◌, Bool, true, false, ◌&&◌, not, ◌==◌, min, List, [], ◌∷◌, ◌++◌}
use Rattle.std.specs.Prelude.{length, filter, map, Option, Some, None, if◌then◌else◌}
use Rattle.std.specs.List.{list_any}
use Rattle.sat_label.specs.declared.label.Label.{Label}
use Rattle.sat_label.specs.declared.node.NodeId.{NodeId}
use Rattle.sat_label.specs.declared.node.NodeId.TheVariants.{Site, Serializer}
use Rattle.sat_label.specs.Order.{label_eq, node_eq}
use Rattle.sat_label.specs.Words.{below, has}
use Rattle.sat_tree.specs.Shape.{TreeShape}
use Rattle.sat_tree.specs.Cut.{neighbours}
use Rattle.sat_act.specs.declared.act.Act.{Act}
use Rattle.sat_act.specs.declared.act.Act.TheVariants as act
use Rattle.sat_act.specs.declared.answer.Answer.{Answer}
use Rattle.sat_act.specs.declared.answer.Answer.TheVariants as ans
use Rattle.sat_act.specs.declared.entry.Entry.{Entry}
use Rattle.sat_act.specs.Deployed.{Deployed}
use Rattle.sat_act.specs.Histories.{listed}
use Rattle.sat_act.specs.Done.{made_in}
use Rattle.sat_act.specs.Parts.{Handling, handling, is_target, is_update, tree_of, pending, view, brought, shown, beats}
use Rattle.sat_act.specs.Answers.{answer}

-- ---- one act after another

-- whether an act with this answer was done
abbrev pub is_done : Answer → Bool
is_done (ans.Refused r) = false
is_done ans.Again = false
is_done ans.Old = false
is_done _ = true

-- the entry that a settle leaves of an act
abbrev pub inner_entry : Deployed → List Entry → Act → Entry
inner_entry d h a = record { act = a; answer = answer d h a; inner = true }

-- an act once: it leaves an entry where it is done
unfoldable pub tried : Deployed → Act → List Entry → List Entry
unfolding answer
tried d a h = elim (is_done (answer d h a)) [ true ↦ inner_entry d h a ∷ h | false ↦ h ]

-- an act again and again as long as it is done, at most n times
unfoldable pub repeated : Deployed → Act → ℕ → List Entry → List Entry
unfolding answer
repeated d a zero h = h
repeated d a (suc n) h = elim (is_done (answer d h a)) [ true ↦ repeated d a n (inner_entry d h a ∷ h) | false ↦ h ]

-- what f does for each x in turn
unfoldable pub for_each : {X : Type 0} → (X → List Entry → List Entry) → List X → List Entry → List Entry
for_each f [] h = h
for_each f (x ∷ xs) h = for_each f xs (f x h)

-- the lists of each x, joined
abbrev pub joined : {X Y : Type 0} → (X → List Y) → List X → List Y
joined f [] = []
joined f (x ∷ xs) = f x ++ joined f xs

-- ---- the opening

-- a gather at site i
abbrev pub gather_at : Deployed → ℕ → List Entry → List Entry
gather_at d i h = tried d (act.Gather i) h

-- emits at site i until there is nothing stable: each lowers the number of pending labels
abbrev pub emit_all : Deployed → ℕ → List Entry → List Entry
emit_all d i h = repeated d (act.Emit i) (length (pending d h i)) h

-- a pulse at site i
abbrev pub pulse_at : Deployed → ℕ → List Entry → List Entry
pulse_at d i h = tried d (act.Pulse i) h

-- a beat, and its coming in with the number that it answered
abbrev pub beat_over : Deployed → ℕ × ℕ → List Entry → List Entry
beat_over d p h = tried d (act.BeatIn p.0 p.1 (length (beats d h p.0 p.1))) (tried d (act.Beat p.0 p.1) h)

-- the ordered pairs of different sites
abbrev pub pairs : Deployed → List (ℕ × ℕ)
pairs d = joined (λ i. joined (λ j. if i == j then [] else (i, j) ∷ []) (below d.sites)) (below d.sites)

-- a clock, a gather at each site, and all emits: each sink has sent what was made
unfoldable pub emptied : Deployed → List Entry → List Entry
unfolding for_each tried repeated pending
emptied d h =
    for_each (emit_all d) (below d.sites) (
    for_each (gather_at d) (below d.sites) (
    tried d act.Clock h))

-- the opening of a settle: the sinks emptied, a pulse at each site, and a beat from each site to each other
unfoldable pub opening : Deployed → List Entry → List Entry
unfolding for_each tried emptied beats
opening d h =
    for_each (beat_over d) (pairs d) (
    for_each (pulse_at d) (below d.sites) (
    emptied d h))

-- ---- what is left to do

-- the sum of f over a list
unfoldable pub total : {X : Type 0} → (X → ℕ) → List X → ℕ
total f [] = 0
total f (x ∷ xs) = f x + total f xs

-- the update that an entry made for site j
abbrev pub payload_entry : Deployed → ℕ → List Entry → Entry → Option Label
payload_entry d j before entry =
    elim (made_in entry.answer) [ None ↦ None | Some l ↦ if is_update l.kind && is_target d l j then Some l else None ]

-- the updates that were made for site j
unfoldable pub payloads : Deployed → List Entry → ℕ → List Label
unfolding listed is_target
payloads d h j = listed (payload_entry d j) h

-- an update that was not brought counts twice, one that waits once
abbrev pub payload_left : List Label → List Label → Label → ℕ
payload_left brought shown l = if has label_eq brought l then (if has label_eq shown l then 0 else 1) else 2

-- what is left to do of the updates for site j
unfoldable pub payloads_left : Deployed → List Entry → ℕ → ℕ
unfolding total payloads brought shown
payloads_left d h j = total (payload_left (brought h j) (shown h j)) (payloads d h j)

-- all that nodes handled, in order
unfoldable pub handlings : Deployed → List Entry → List Handling
unfolding listed handling
handlings d h = listed (handling d) h

-- what an entry handled that came from no other node
abbrev pub sending_entry : Deployed → List Entry → Entry → Option Handling
sending_entry d before entry =
    elim (handling d before entry) [ None ↦ None | Some x ↦ elim x.from [ None ↦ Some x | Some u ↦ None ] ]

-- what sites sent, in order
unfoldable pub sendings : Deployed → List Entry → List Handling
unfolding listed handling
sendings d h = listed (sending_entry d) h

-- the nodes of the tree of an epoch
unfoldable pub nodes_of : Deployed → ℕ → List NodeId
unfolding tree_of
nodes_of d epoch =
    elim (tree_of d epoch)
    [ None ↦ [] | Some tree ↦ map Site (below d.sites) ++ map Serializer (below (length tree.parents)) ]

-- a node has handled a label in an epoch
abbrev pub was_handled : List Handling → ℕ → Label → NodeId → Bool
was_handled handled epoch l v = list_any (λ x. (x.epoch == epoch) && (node_eq x.node v && label_eq x.label l)) handled

-- how many nodes have not handled a label that was sent
unfoldable pub sending_left : Deployed → List Handling → Handling → ℕ
unfolding nodes_of
sending_left d handled s = length (filter (λ v. not (was_handled handled s.epoch s.label v)) (nodes_of d s.epoch))

-- how many epochs site j has before it
abbrev pub epochs_left : Deployed → List Entry → ℕ → ℕ
epochs_left d h j = length d.plans - view h j

-- twice the payloads not brought, plus those waiting, plus for each sent label the nodes of its tree that have not
-- handled it, plus for each site the epochs less its view
unfoldable pub left : Deployed → List Entry → ℕ
unfolding total payloads_left sending_left handlings sendings view
left d h =
    (total (payloads_left d h) (below d.sites) + total (sending_left d (handlings d h)) (sendings d h))
    + total (epochs_left d h) (below d.sites)

-- ---- rounds

-- the bulk of each lane's next payload
abbrev pub bulks : Deployed → List Act
bulks d =
    joined (λ i. joined (λ g. joined (λ j. if i == j then [] else act.Bulk i g j None ∷ []) (below d.sites))
    (below d.gears)) (below d.sites)

-- a hop of each serializer of an epoch's tree from each of its neighbours
unfoldable pub hops_of : ℕ → Option TreeShape → List Act
unfolding neighbours
hops_of epoch None = []
hops_of epoch (Some tree) = joined (λ z. map (λ u. act.Hop epoch u z) (neighbours tree z)) (below (length tree.parents))

-- the hops of each epoch, the first epoch first
abbrev pub hops : Deployed → List Act
hops d = joined (λ n. hops_of (n + 1) (tree_of d (n + 1))) (below (length d.plans))

-- of each site a turn, a stamp and an advance
abbrev pub turns : Deployed → List Act
turns d = joined (λ j. act.Turn j ∷ act.Stamp j ∷ act.Advance j ∷ []) (below d.sites)

-- the acts of a round, in order
unfoldable pub round_acts : Deployed → List Act
unfolding hops_of tree_of
round_acts d = bulks d ++ (hops d ++ turns d)

-- an act until it is refused; each time that it is done in a round, less is left
unfoldable pub until_refused : Deployed → Act → List Entry → List Entry
unfolding repeated left
until_refused d a h = repeated d a (left d h) h

-- a round: each of its acts until it is refused
unfoldable pub round : Deployed → List Entry → List Entry
unfolding for_each until_refused round_acts
round d h = for_each (until_refused d) (round_acts d) h

-- rounds, at most n of them, until one in which no act is done: how many had one, and the history after them
unfoldable pub rounds : Deployed → ℕ → List Entry → ℕ × List Entry
unfolding round
rounds d zero h = (0, h)
rounds d (suc n) h =
    let next = round d h in
    elim (length next == length h) [ true ↦ (0, h) | false ↦ let rest = rounds d n next in (rest.0 + 1, rest.1) ]

-- the rounds in which an act was done, and the history after the last inner entry
unfoldable pub settle : Deployed → List Entry → ℕ × List Entry
unfolding rounds left opening
settle d h = let start = opening d h in rounds d (left d start) start

-- ---- runs

-- a count as an answer has it: at most 2^64 - 1
abbrev pub capped : ℕ → ℕ
capped n = min n (2 ^ 64 - 1)

-- the answer of an act after a history. A settle answers in how many rounds an act was done, and how many acts were
-- done
unfoldable pub answer_of : Deployed → List Entry → Act → Answer
unfolding answer settle
answer_of d h act.Settle = ans.Settled (capped (settle d h).0) (capped (length (settle d h).1 - length h))
answer_of d h a = answer d h a

-- a history and the inner entries of an act
unfoldable pub with_inner : Deployed → List Entry → Act → List Entry
unfolding settle
with_inner d h act.Settle = (settle d h).1
with_inner d h a = h

-- the run of a list of acts, the newest first
unfoldable pub run : Deployed → List Act → List Entry
unfolding answer_of with_inner
run d [] = []
run d (a ∷ acts) = let h = run d acts in record { act = a; answer = answer_of d h a; inner = false } ∷ with_inner d h a
