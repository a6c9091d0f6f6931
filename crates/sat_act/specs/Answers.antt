-- The answer of an act after a history.
use Rattle.std.specs.Prelude.{◌≡◌, ◌<◌, ◌≤◌, ℕ, zero, suc, ◌+◌, ◌-◌, ◌%◌, Bool, true, false, ◌&&◌, ◌||◌, not, ◌==◌}
use Rattle.std.specs.Prelude.{nat_le, max, List, [], ◌∷◌, length, filter, Option, Some, None, is_some, slice_get}
use Rattle.std.specs.Prelude.{if◌then◌else◌}
use Rattle.std.specs.List.{list_any}
use Rattle.sat_label.specs.declared.limits.TheConstants.{PULSE_GEAR, TS_END}
use Rattle.sat_label.specs.declared.items.Items.{Items}
use Rattle.sat_label.specs.declared.items.Items.TheVariants.{One}
use Rattle.sat_label.specs.Grouped.{are_items, least_item, list_of}
use Rattle.sat_label.specs.declared.label.Kind.TheVariants as kind
use Rattle.sat_label.specs.declared.label.Label.{Label}
use Rattle.sat_label.specs.declared.node.NodeId.{NodeId}
use Rattle.sat_label.specs.declared.node.NodeId.TheVariants.{Site, Serializer}
use Rattle.sat_label.specs.Order.{point_at, point_le, label_eq, node_eq}
use Rattle.sat_label.specs.Words.{has}
use Rattle.sat_tree.specs.Shape.{TreeShape}
use Rattle.sat_tree.specs.Cut.{neighbours, is_edge}
use Rattle.sat_act.specs.declared.act.Act.{Act}
use Rattle.sat_act.specs.declared.act.Act.TheVariants as act
use Rattle.sat_act.specs.declared.answer.Answer.{Answer}
use Rattle.sat_act.specs.declared.answer.Answer.TheVariants as ans
use Rattle.sat_act.specs.declared.answer.Refusal.{Refusal}
use Rattle.sat_act.specs.declared.answer.Refusal.TheVariants as why
use Rattle.sat_act.specs.declared.entry.Entry.{Entry}
use Rattle.sat_act.specs.Deployed.{Deployed}
use Rattle.sat_act.specs.Parts.{BeatNote, replicates, keeps_all, tree_of, promise, least_promise, made_to, gathered}
use Rattle.sat_act.specs.Parts.{stable, ready, cut, last_pulse, emission, view, in_stamp_mode, seat_in, goes_beyond}
use Rattle.sat_act.specs.Parts.{link_front, killed, is_update, version, values_of, value_of, lane, lane_front, brought}
use Rattle.sat_act.specs.Parts.{waiting, beats, beats_taken, best, best_passes, all_others, seat, carried, may_attach}
use Rattle.sat_act.specs.Parts.{next_stamp}

-- refused with the reason where the test holds, else the answer
abbrev pub refused_if : Bool → Refusal → Answer → Answer
refused_if true reason answer = ans.Refused reason
refused_if false reason answer = answer

-- ---- clients' acts

-- the gear that an item belongs to
abbrev pub gear_of : Deployed → ℕ → ℕ
gear_of d x = x % d.gears

-- a stamp of gear g of site i for client c has a timestamp one above this: its promise, and the client's point
unfoldable pub base : List Entry → ℕ → ℕ → ℕ → ℕ
unfolding promise carried
base h c i g = max (promise h i g) (carried h c).ts

-- a write of some items by client c, seated at i. The gear of the least item stamps it
unfoldable pub write_at : Deployed → List Entry → ℕ → Items → ℕ → Answer
unfolding replicates base
write_at d h c items i =
    refused_if (not (keeps_all d (list_of items) i)) why.NotHere (
    let g = gear_of d (least_item (list_of items)) in
    let ts = base h c i g in
    refused_if (nat_le TS_END ts) why.Spent (
    ans.Wrote (record { point = point_at (ts + 1) i g; kind = kind.Update items })))

-- a read of item x at site i
unfoldable pub read_at : Deployed → List Entry → ℕ → ℕ → Answer
unfolding replicates version values_of
read_at d h x i =
    refused_if (not (replicates d x i)) why.NotHere (
    elim (version h i x) [ None ↦ ans.ReadNone | Some l ↦ ans.ReadSome l (value_of h l x) ])

-- a move of client c from its seat i to site j. Gear 0 stamps it
unfoldable pub move_from : List Entry → ℕ → ℕ → ℕ → Answer
unfolding base
move_from h c j i =
    refused_if (j == i) why.SameSite (
    let ts = base h c i 0 in
    refused_if (nat_le TS_END ts) why.Spent (
    ans.Moved (record { point = point_at (ts + 1) i 0; kind = kind.Move j })))

-- what a client's act at its seat gives. Without a seat it is refused
abbrev pub at_seat : Option ℕ → (ℕ → Answer) → Answer
at_seat None answer = ans.Refused why.NoSession
at_seat (Some i) answer = answer i

-- client c comes to site j
unfoldable pub attach_to : Deployed → List Entry → ℕ → ℕ → Answer
unfolding seat may_attach
attach_to d h c j =
    refused_if (is_some (seat d h c)) why.Joined (refused_if (not (may_attach d h c j)) why.NotYet ans.Attached)

-- ---- the sink's acts

-- the sink of i takes what its gears made since its last gather: how many labels, and what is then stable
unfoldable pub gather_of : Deployed → List Entry → ℕ → Answer
unfolding made_to least_promise gathered
gather_of d h i =
    ans.Gathered (length (made_to h i d.gears) - length (made_to (gathered h i) i d.gears)) (least_promise h i d.gears)

-- the sink of i sends its least label that is stable
unfoldable pub emit_of : Deployed → List Entry → ℕ → Answer
unfolding ready
emit_of d h i = elim (ready d h i) [ None ↦ ans.Refused why.Idle | Some l ↦ ans.Emitted l ]

-- the sink of i, with nothing to send, says how far it is, once for each stable timestamp
unfoldable pub pulse_of : Deployed → List Entry → ℕ → Answer
unfolding ready stable last_pulse
pulse_of d h i =
    refused_if (is_some (ready d h i) || nat_le (stable d h i) (last_pulse h i)) why.Idle
    (ans.Pulsed (record { point = point_at (stable d h i) i PULSE_GEAR; kind = kind.Pulse }))

-- ---- links

-- serializer z of an epoch's tree handles the front of the link from its neighbour u, and says where it goes on
unfoldable pub hop_to : Deployed → List Entry → ℕ → NodeId → ℕ → Answer
unfolding tree_of killed link_front goes_beyond neighbours
hop_to d h epoch u z =
    refused_if (killed h epoch z) why.Dead (
    elim (tree_of d epoch) [
      | None ↦ ans.Refused why.Empty
      | Some tree ↦ elim (link_front d h epoch tree u (Serializer z)) [
        | None ↦ ans.Refused why.Empty
        | Some l ↦
            ans.Hopped l (filter (λ v. not (node_eq u v) && goes_beyond d tree (Serializer z) v l) (neighbours tree z))
      ]
    ])

-- a site takes a label from its serializer: an update is shown, once its payload waits
abbrev pub turned : List Label → Label → Answer
turned waiting l =
    if is_update l.kind
    then (if has label_eq waiting l then ans.Shown l else ans.Refused (why.NoPayload l))
    else ans.Took l

-- site j takes the front of the link from its serializer in the tree of its view
unfoldable pub turn_of : Deployed → List Entry → ℕ → Answer
unfolding in_stamp_mode tree_of view seat_in link_front waiting
turn_of d h j =
    refused_if (in_stamp_mode d h j) why.StampOrder (
    elim (tree_of d (view h j)) [
      | None ↦ ans.Refused why.Empty
      | Some tree ↦ elim (seat_in d (view h j) j) [
        | None ↦ ans.Refused why.Empty
        | Some z ↦ elim (link_front d h (view h j) tree z (Site j)) [
          | None ↦ ans.Refused why.Empty
          | Some l ↦ turned (waiting h j) l
        ]
      ]
    ])

-- ---- bulk and beats

-- the payload of this number of a lane comes to site j
unfoldable pub bring : Deployed → List Entry → ℕ → ℕ → ℕ → ℕ → Answer
unfolding lane brought
bring d h i g j n =
    elim (slice_get (lane d h i g j) n) [
      | None ↦ ans.Refused why.NoSuch
      | Some l ↦ if has label_eq (brought h j) l then ans.Again else ans.Brought l
    ]

-- a payload of a lane comes to site j: the one of this number, or the first that has not come
unfoldable pub bulk_to : Deployed → List Entry → ℕ → ℕ → ℕ → Option ℕ → Answer
unfolding bring lane_front
bulk_to d h i g j None = bring d h i g j (lane_front d h i g j)
bulk_to d h i g j (Some n) = bring d h i g j n

-- site i makes a beat for j, and says its number
unfoldable pub beat_to : Deployed → List Entry → ℕ → ℕ → Answer
unfolding beats
beat_to d h i j = ans.Beat (length (beats d h i j))

-- the beat of number n of i comes to j, which takes it unless it is no news
unfoldable pub beat_in_to : Deployed → List Entry → ℕ → ℕ → ℕ → Answer
unfolding beats beats_taken best
beat_in_to d h i j n =
    refused_if (nat_le (length (beats d h i j)) n) why.NoSuch (
    elim (best d h j i) [
      | None ↦ if has ◌==◌ (beats_taken h i j) n then ans.Again else ans.Taken
      | Some b ↦ if nat_le n b.0 then ans.Old else (if has ◌==◌ (beats_taken h i j) n then ans.Again else ans.Taken)
    ])

-- site j shows the next update in timestamp order
unfoldable pub stamp_of : Deployed → List Entry → ℕ → Answer
unfolding in_stamp_mode next_stamp
stamp_of d h j =
    refused_if (not (in_stamp_mode d h j)) why.TreeOrder (
    elim (next_stamp d h j) [ None ↦ ans.Refused why.NotYet | Some l ↦ ans.Shown l ])

-- ---- epochs

-- site i closes its emission epoch at its cut. Its view is at most one epoch behind
unfoldable pub close_of : Deployed → List Entry → ℕ → Answer
unfolding emission view cut
close_of d h i =
    refused_if (emission h i == length d.plans) why.NoNextEpoch (
    refused_if (emission h i == view h i + 1) why.Behind (
    ans.Closed (emission h i) (cut d h i)))

-- site j, which has closed its view, goes on in it by timestamp order
unfoldable pub fall_of : Deployed → List Entry → ℕ → Answer
unfolding in_stamp_mode emission view
fall_of d h j =
    refused_if (in_stamp_mode d h j) why.StampOrder (refused_if (emission h j == view h j) why.NotClosed ans.Fallen)

-- whether a label is i's Close of the epoch
abbrev pub is_close_of : Label → ℕ → ℕ → Bool
is_close_of l i epoch = (l.point.site == i) && elim l.kind [ kind.Close closed ↦ closed == epoch | _ ↦ false ]

-- whether an entry is a Turn of j that took i's Close of the epoch
abbrev pub takes_close : Entry → ℕ → ℕ → ℕ → Bool
takes_close entry j i epoch =
    elim entry.answer
    [ ans.Took l ↦ elim entry.act [ act.Turn k ↦ (k == j) && is_close_of l i epoch | _ ↦ false ] | _ ↦ false ]

-- whether a Turn of j took i's Close of the epoch
unfoldable pub took_close : List Entry → ℕ → ℕ → ℕ → Bool
took_close [] j i epoch = false
took_close (entry ∷ before) j i epoch = takes_close entry j i epoch || took_close before j i epoch

-- by a beat of i, i closed the epoch, and of what it sent up to the close cut nothing waits
abbrev pub is_drained : ℕ → List Label → ℕ → BeatNote → Bool
is_drained epoch waiting i note =
    elim (note.closes epoch) [
      | None ↦ false
      | Some p ↦ not (list_any (λ l. (l.point.site == i) && point_le l.point p) waiting)
    ]

-- whether j has all of its view: in stamp mode the best beat of each other site says so, in tree mode each other site's
-- Close
unfoldable pub may_advance : Deployed → List Entry → ℕ → Bool
unfolding in_stamp_mode view took_close best waiting
may_advance d h j =
    if in_stamp_mode d h j
    then all_others d j (λ i. best_passes (best d h j i) (is_drained (view h j) (waiting h j) i))
    else all_others d j (λ i. took_close h j i (view h j))

-- site j, which has closed its view, goes on to the next
unfoldable pub advance_of : Deployed → List Entry → ℕ → Answer
unfolding emission view may_advance
advance_of d h j =
    refused_if (emission h j == view h j) why.NotClosed
    (refused_if (not (may_advance d h j)) why.NotYet (ans.View (view h j + 1)))

-- the greatest promise of the first n gears of the first m sites
unfoldable pub greatest_promise : List Entry → ℕ → ℕ → ℕ
unfolding promise
greatest_promise h m zero = 0
greatest_promise h zero (suc n) = 0
greatest_promise h (suc m) (suc n) =
    max (max (promise h m n) (greatest_promise h (suc m) n)) (greatest_promise h m (suc n))

-- ---- the answer

-- the answer of an act after a history, by one clause for each act. That of a settle stands in Settling: it counts
-- inner entries, which no clause here does, so its answer here is a stand-in that no run uses
unfoldable pub answer : Deployed → List Entry → Act → Answer
unfolding promise write_at read_at move_from seat carried attach_to gather_of emit_of pulse_of hop_to turn_of bulk_to
    beat_to beat_in_to stamp_of close_of fall_of advance_of killed greatest_promise
answer d h (act.Tick i g ts) = ans.Ticked (max (promise h i g) ts)
answer d h act.Clock = ans.Clocked (greatest_promise h d.sites d.gears)
answer d h (act.Write c x value) = at_seat (seat d h c) (λ i. write_at d h c (One x) i)
answer d h (act.Writes c items values) = at_seat (seat d h c) (λ i. write_at d h c items i)
answer d h (act.Read c x) = at_seat (seat d h c) (λ i. read_at d h x i)
answer d h (act.Move c j) = at_seat (seat d h c) (λ i. move_from h c j i)
answer d h (act.Leave c) = at_seat (seat d h c) (λ i. ans.Left (carried h c))
answer d h (act.Attach c j) = attach_to d h c j
answer d h (act.Gather i) = gather_of d h i
answer d h (act.Emit i) = emit_of d h i
answer d h (act.Pulse i) = pulse_of d h i
answer d h (act.Hop epoch u z) = hop_to d h epoch u z
answer d h (act.Turn j) = turn_of d h j
answer d h (act.Bulk i g j n) = bulk_to d h i g j n
answer d h (act.Beat i j) = beat_to d h i j
answer d h (act.BeatIn i j n) = beat_in_to d h i j n
answer d h (act.Stamp j) = stamp_of d h j
answer d h (act.Close i) = close_of d h i
answer d h (act.Fall j) = fall_of d h j
answer d h (act.Advance j) = advance_of d h j
answer d h (act.Kill epoch z) = refused_if (killed h epoch z) why.Already ans.Killed
answer d h act.Settle = ans.Settled 0 0

-- what the laws of histories need of an act's numbers. `IsActOf` (Ranges), by which acts have a line, asks for more: of
-- clients, of which items there are, of the spelling of values, of kills and of numbers of payloads and beats nothing
-- is needed here, so the laws hold of more histories than scripts have
abbrev pub InRange : Deployed → Act → Type 0
InRange d (act.Tick i g ts) = (i < d.sites) × (g < d.gears) × (ts ≤ TS_END)
InRange d (act.Writes c items values) = (length values ≡ length (list_of items)) × (are_items (list_of items) ≡ true)
InRange d (act.Move c j) = j < d.sites
InRange d (act.Attach c j) = j < d.sites
InRange d (act.Gather i) = i < d.sites
InRange d (act.Emit i) = i < d.sites
InRange d (act.Pulse i) = i < d.sites
InRange d (act.Turn i) = i < d.sites
InRange d (act.Bulk i g j n) = (i < d.sites) × (g < d.gears) × (j < d.sites) × ((i == j) ≡ false)
InRange d (act.Beat i j) = (i < d.sites) × (j < d.sites) × ((i == j) ≡ false)
InRange d (act.BeatIn i j n) = (i < d.sites) × (j < d.sites) × ((i == j) ≡ false)
InRange d (act.Stamp i) = i < d.sites
InRange d (act.Close i) = i < d.sites
InRange d (act.Fall i) = i < d.sites
InRange d (act.Advance i) = i < d.sites
InRange d (act.Hop epoch u z) =
    (tree : TreeShape) × (tree_of d epoch ≡ Some tree) × (is_edge tree u (Serializer z) ≡ true)
InRange d _ = Unit {0}
