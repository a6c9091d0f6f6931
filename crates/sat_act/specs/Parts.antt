-- What a history says of each part: gears, sinks, epochs, links, lanes, beats, views, stores and clients.
use Rattle.std.specs.Prelude.{ℕ, zero, suc, ◌+◌, ◌-◌, Bool, true, false, ◌&&◌, ◌||◌, not, ◌==◌, nat_le, min, List, []}
use Rattle.std.specs.Prelude.{◌∷◌, ◌++◌, length, filter, Option, Some, None, is_some, slice_get, if◌then◌else◌}
use Rattle.std.specs.List.{list_all, list_any, prefix_len}
use Rattle.sat_label.specs.declared.point.Point.{Point}
use Rattle.sat_label.specs.declared.label.Kind.{Kind}
use Rattle.sat_label.specs.declared.label.Kind.TheVariants as kind
use Rattle.sat_label.specs.declared.label.Label.{Label}
use Rattle.sat_label.specs.declared.node.NodeId.{NodeId}
use Rattle.sat_label.specs.declared.node.NodeId.TheVariants.{Site, Serializer}
use Rattle.sat_label.specs.Order.{point_at, mark, zero_point, point_lt, point_le, greater_point, label_lt, label_eq}
use Rattle.sat_label.specs.Order.{node_eq}
use Rattle.sat_label.specs.Grouped.{list_of}
use Rattle.sat_label.specs.Words.{below, has, bit}
use Rattle.sat_label.specs.Least.{least_label}
use Rattle.sat_tree.specs.Shape.{TreeShape}
use Rattle.sat_tree.specs.Cut.{beyond, seat_of}
use Rattle.sat_act.specs.declared.act.Act.TheVariants as act
use Rattle.sat_act.specs.declared.answer.Answer.TheVariants as ans
use Rattle.sat_act.specs.declared.entry.Entry.{Entry}
use Rattle.sat_act.specs.declared.deployment.Plan.{Plan}
use Rattle.sat_act.specs.declared.deployment.Plan.TheVariants as plan
use Rattle.sat_act.specs.Deployed.{Deployed}
use Rattle.sat_act.specs.Histories.{listed, latest, up_to, highest}
use Rattle.sat_act.specs.Done.{made_in, sent_in, is_at, is_of, is_tick, is_gather, is_beat, beat_in, is_kill, Written}
use Rattle.sat_act.specs.Done.{write_in}

-- ---- the deployment

-- site k keeps item x
unfoldable pub replicates : Deployed → ℕ → ℕ → Bool
replicates d x k = elim (slice_get d.items x) [ None ↦ false | Some item ↦ bit item.replicas.bits k ]

-- site k keeps one of some items
abbrev pub keeps_some : Deployed → List ℕ → ℕ → Bool
keeps_some d xs k = list_any (λ x. replicates d x k) xs

-- site k keeps all of some items, of which there is one at least
abbrev pub keeps_all : Deployed → List ℕ → ℕ → Bool
keeps_all d [] k = false
keeps_all d (x ∷ xs) k = replicates d x k && list_all (λ y. replicates d y k) xs

-- whether a site is a target of a label: of an Update the sites that keep one of its items but its own, of a Move the
-- site that it names, of a Pulse or a Close all sites but its own
unfoldable pub is_target : Deployed → Label → ℕ → Bool
unfolding replicates
is_target d l k =
    elim l.kind [
      | kind.Update items ↦ keeps_some d (list_of items) k && not (k == l.point.site)
      | kind.Move j ↦ k == j
      | kind.Pulse ↦ not (k == l.point.site)
      | kind.Close e ↦ not (k == l.point.site)
    ]

-- the tree at a place in a list of plans, None where that is stamp order or there is none
abbrev pub planned_tree : List Plan → ℕ → Option TreeShape
planned_tree plans n =
    elim (slice_get plans n) [ None ↦ None | Some p ↦ elim p [ plan.Stamp ↦ None | plan.Tree tree ↦ Some tree ] ]

-- the tree of an epoch. None where its plan is stamp order, and where there is no such epoch: they count from 1
unfoldable pub tree_of : Deployed → ℕ → Option TreeShape
tree_of d epoch = if epoch == 0 then None else planned_tree d.plans (epoch - 1)

-- ---- gears

-- the label that an entry made at gear g of site i
abbrev pub made_entry : ℕ → ℕ → List Entry → Entry → Option Label
made_entry i g before entry =
    elim (made_in entry.answer)
    [ None ↦ None | Some l ↦ if (l.point.site == i) && (l.point.gear == g) then Some l else None ]

-- the Updates and Moves that gear g of site i stamped, in order
unfoldable pub made : List Entry → ℕ → ℕ → List Label
unfolding listed
made h i g = listed (made_entry i g) h

-- the promise that an entry left at gear g of site i: by a tick, a clock, or a label made there
abbrev pub promise_entry : ℕ → ℕ → List Entry → Entry → Option ℕ
promise_entry i g before entry =
    elim entry.answer [
      | ans.Ticked p ↦ if is_tick entry.act i g then Some p else None
      | ans.Clocked p ↦ Some p
      | ans.Wrote l ↦ if (l.point.site == i) && (l.point.gear == g) then Some l.point.ts else None
      | ans.Moved l ↦ if (l.point.site == i) && (l.point.gear == g) then Some l.point.ts else None
      | _ ↦ None
    ]

-- the promise of gear g of site i: what it stamps next has a greater timestamp. 0 in the beginning
unfoldable pub promise : List Entry → ℕ → ℕ → ℕ
unfolding latest
promise h i g = latest (promise_entry i g) 0 h

-- ---- the sink

-- the history as the sink of site i knows it: up to its last gather
unfoldable pub gathered : List Entry → ℕ → List Entry
unfolding up_to
gathered h i = up_to (λ entry. is_gather entry.act i) h

-- the least promise of the first n gears of i
unfoldable pub least_promise : List Entry → ℕ → ℕ → ℕ
unfolding promise
least_promise h i zero = 0
least_promise h i (suc zero) = promise h i 0
least_promise h i (suc (suc n)) = min (least_promise h i (suc n)) (promise h i (suc n))

-- the stable timestamp of i: the least promise of its gears at its last gather
unfoldable pub stable : Deployed → List Entry → ℕ → ℕ
unfolding gathered least_promise
stable d h i = least_promise (gathered h i) i d.gears

-- all labels made at the first n gears of i
unfoldable pub made_to : List Entry → ℕ → ℕ → List Label
unfolding made
made_to h i zero = []
made_to h i (suc n) = made_to h i n ++ made h i n

-- the label that an entry sent from the sink of site i
abbrev pub sent_entry : ℕ → List Entry → Entry → Option Label
sent_entry i before entry =
    elim (sent_in entry.answer) [ None ↦ None | Some l ↦ if is_at entry.act i then Some l else None ]

-- the labels that i sent, in order: emitted ones, pulses and closes
unfoldable pub sent : List Entry → ℕ → List Label
unfolding listed
sent h i = listed (sent_entry i) h

-- the labels that i gathered and has not sent
unfoldable pub pending : Deployed → List Entry → ℕ → List Label
unfolding gathered made_to sent
pending d h i = filter (λ l. not (has label_eq (sent h i) l)) (made_to (gathered h i) i d.gears)

-- whether a label of i has a timestamp up to the stable one. What i makes after its last gather has a greater one
unfoldable pub is_stable : Deployed → List Entry → ℕ → Label → Bool
unfolding stable
is_stable d h i l = nat_le l.point.ts (stable d h i)

-- the label that i would emit next: the least pending one that is stable
unfoldable pub ready : Deployed → List Entry → ℕ → Option Label
unfolding pending least_label is_stable
ready d h i = least_label (is_stable d h i) (pending d h i)

-- the point that an entry sent from the sink of i
abbrev pub sent_point : ℕ → List Entry → Entry → Option Point
sent_point i before entry = elim (sent_entry i before entry) [ None ↦ None | Some l ↦ Some l.point ]

-- the point that i sent last, (0, i, 0) where it sent none
unfoldable pub last_sent : List Entry → ℕ → Point
unfolding latest
last_sent h i = latest (sent_point i) (point_at 0 i 0) h

-- the cut of i: what it made at or below this point is sent, and it will make nothing more there
unfoldable pub cut : Deployed → List Entry → ℕ → Point
unfolding ready pending least_label stable last_sent
cut d h i =
    elim (ready d h i) [
      | None ↦ mark (stable d h i) i
      | Some least ↦ greater_point (last_sent h i) (mark (least.point.ts - 1) i)
    ]

-- the timestamp of the pulse that an entry sent from site i
abbrev pub pulse_entry : ℕ → List Entry → Entry → Option ℕ
pulse_entry i before entry =
    elim entry.answer [ ans.Pulsed l ↦ if is_at entry.act i then Some l.point.ts else None | _ ↦ None ]

-- the timestamp of the last pulse of i, 0 where there was none
unfoldable pub last_pulse : List Entry → ℕ → ℕ
unfolding latest
last_pulse h i = latest (pulse_entry i) 0 h

-- ---- epochs

-- the cut at which an entry closed this epoch at site i
abbrev pub close_cut_of_entry : ℕ → ℕ → List Entry → Entry → Option (Option Point)
close_cut_of_entry i epoch before entry =
    elim entry.answer
    [ ans.Closed closed p ↦ if is_at entry.act i && (closed == epoch) then Some (Some p) else None | _ ↦ None ]

-- the epoch that an entry closed at site i
abbrev pub closed_epoch_of_entry : ℕ → List Entry → Entry → Option ℕ
closed_epoch_of_entry i before entry =
    elim entry.answer [ ans.Closed closed p ↦ if is_at entry.act i then Some closed else None | _ ↦ None ]

-- the epoch in which i sends its labels: 1, and one more by each close
unfoldable pub emission : List Entry → ℕ → ℕ
unfolding listed
emission h i = 1 + length (listed (closed_epoch_of_entry i) h)

-- the cut at which i closed an epoch, None where it has not
unfoldable pub close_cut : List Entry → ℕ → ℕ → Option Point
unfolding latest
close_cut h i epoch = latest (close_cut_of_entry i epoch) None h

-- ---- views

-- the view that an entry brought site j to
abbrev pub view_entry : ℕ → List Entry → Entry → Option ℕ
view_entry j before entry = elim entry.answer [ ans.View v ↦ if is_at entry.act j then Some v else None | _ ↦ None ]

-- the epoch whose labels j takes: 1, and one more by each advance
unfoldable pub view : List Entry → ℕ → ℕ
unfolding listed
view h j = 1 + length (listed (view_entry j) h)

-- whether an entry made site j fall, or end its fall by an advance
abbrev pub fallen_entry : ℕ → List Entry → Entry → Option Bool
fallen_entry j before entry =
    elim entry.answer [
      | ans.View v ↦ if is_at entry.act j then Some false else None
      | ans.Fallen ↦ if is_at entry.act j then Some true else None
      | _ ↦ None
    ]

-- whether j fell in its view: it goes by timestamp order there, although the epoch has a tree
unfoldable pub fallen : List Entry → ℕ → Bool
unfolding latest
fallen h j = latest (fallen_entry j) false h

-- whether j shows in timestamp order: the plan of its view has no tree, or j has fallen
unfoldable pub in_stamp_mode : Deployed → List Entry → ℕ → Bool
unfolding tree_of view fallen
in_stamp_mode d h j = elim (tree_of d (view h j)) [ None ↦ true | Some tree ↦ fallen h j ]

-- ---- links

-- a label that a node sent, hopped or took in the tree of an epoch, and the neighbour that it came from
pub record Handling : Type 0 where
  pub epoch : ℕ
  pub node : NodeId
  pub from : Option NodeId
  pub label : Label

-- the seat of a site in the tree of an epoch
unfoldable pub seat_in : Deployed → ℕ → ℕ → Option NodeId
unfolding tree_of seat_of
seat_in d epoch j = elim (tree_of d epoch) [ None ↦ None | Some tree ↦ Some (Serializer (seat_of tree j)) ]

-- what an entry handled: a site sends by an emit, a pulse or a close, a serializer hops, a site takes by a turn
unfoldable pub handling : Deployed → List Entry → Entry → Option Handling
unfolding emission view seat_in
handling d before entry =
    elim entry.answer [
      | ans.Emitted l ↦
          elim entry.act
          [ act.Emit i ↦ Some (record { epoch = emission before i; node = Site i; from = None; label = l }) | _ ↦ None ]
      | ans.Pulsed l ↦
          elim entry.act [
            | act.Pulse i ↦ Some (record { epoch = emission before i; node = Site i; from = None; label = l })
            | _ ↦ None
          ]
      | ans.Closed closed p ↦
          elim entry.act [
            | act.Close i ↦
                Some
                (record {
                  epoch = closed;
                  node = Site i;
                  from = None;
                  label = record { point = p; kind = kind.Close closed };
                })
            | _ ↦ None
          ]
      | ans.Hopped l to ↦
          elim entry.act [
            | act.Hop epoch u z ↦ Some (record { epoch = epoch; node = Serializer z; from = Some u; label = l })
            | _ ↦ None
          ]
      | ans.Shown l ↦
          elim entry.act [
            | act.Turn j ↦
                Some (record { epoch = view before j; node = Site j; from = seat_in d (view before j) j; label = l })
            | _ ↦ None
          ]
      | ans.Took l ↦
          elim entry.act [
            | act.Turn j ↦
                Some (record { epoch = view before j; node = Site j; from = seat_in d (view before j) j; label = l })
            | _ ↦ None
          ]
      | _ ↦ None
    ]

-- whether a handled label came from node v
abbrev pub came_from : Handling → NodeId → Bool
came_from x v = elim x.from [ None ↦ false | Some u ↦ node_eq u v ]

-- whether a target of the label lies beyond the edge from u to v
unfoldable pub goes_beyond : Deployed → TreeShape → NodeId → NodeId → Label → Bool
unfolding is_target beyond
goes_beyond d tree u v l = list_any (λ k. is_target d l k && beyond tree u v (Site k)) (below d.sites)

-- whether node u, by handling a label, puts it on the link to v: it didn't come from there, and a target lies beyond
abbrev pub is_put : Deployed → ℕ → TreeShape → NodeId → NodeId → Handling → Bool
is_put d epoch tree u v x =
    ((x.epoch == epoch) && node_eq x.node u) && (not (came_from x v) && goes_beyond d tree u v x.label)

-- whether node v, by handling a label, takes it from the link from u
abbrev pub is_taken : ℕ → NodeId → NodeId → Handling → Bool
is_taken epoch u v x = ((x.epoch == epoch) && node_eq x.node v) && came_from x u

-- the label that an entry put on the link from u to v
abbrev pub entered_entry : Deployed → ℕ → TreeShape → NodeId → NodeId → List Entry → Entry → Option Label
entered_entry d epoch tree u v before entry =
    elim (handling d before entry) [ None ↦ None | Some x ↦ if is_put d epoch tree u v x then Some x.label else None ]

-- the labels that were put on the link from u to v in an epoch, in order. The tree is the epoch's
unfoldable pub entered : Deployed → List Entry → ℕ → TreeShape → NodeId → NodeId → List Label
unfolding listed handling goes_beyond
entered d h epoch tree u v = listed (entered_entry d epoch tree u v) h

-- the label that an entry took from the link from u to v
abbrev pub taken_entry : Deployed → ℕ → NodeId → NodeId → List Entry → Entry → Option Label
taken_entry d epoch u v before entry =
    elim (handling d before entry) [ None ↦ None | Some x ↦ if is_taken epoch u v x then Some x.label else None ]

-- how many of them v took
unfoldable pub taken : Deployed → List Entry → ℕ → NodeId → NodeId → ℕ
unfolding listed handling
taken d h epoch u v = length (listed (taken_entry d epoch u v) h)

-- the first label on the link from u to v that v has not taken
unfoldable pub link_front : Deployed → List Entry → ℕ → TreeShape → NodeId → NodeId → Option Label
unfolding entered taken
link_front d h epoch tree u v = slice_get (entered d h epoch tree u v) (taken d h epoch u v)

-- whether serializer z of an epoch's tree was killed: it handles nothing any more
unfoldable pub killed : List Entry → ℕ → ℕ → Bool
unfolding latest
killed h epoch z =
    latest (λ before entry.
    elim entry.answer [ ans.Killed ↦ if is_kill entry.act epoch z then Some true else None | _ ↦ None ]) false h

-- ---- stores

-- the items of an Update, none of another kind
abbrev pub items_of : Kind → List ℕ
items_of (kind.Update items) = list_of items
items_of _ = []

-- an Update that has item x
abbrev pub is_update_of : Kind → ℕ → Bool
is_update_of k x = has ◌==◌ (items_of k) x

-- an Update of some items
abbrev pub is_update : Kind → Bool
is_update (kind.Update items) = true
is_update _ = false

-- the label that an entry showed at site j: its own write, or an update that came in
abbrev pub shown_entry : ℕ → List Entry → Entry → Option Label
shown_entry j before entry =
    elim entry.answer [
      | ans.Wrote l ↦ if l.point.site == j then Some l else None
      | ans.Shown l ↦ if is_at entry.act j then Some l else None
      | _ ↦ None
    ]

-- the labels that site j showed, in order
unfoldable pub shown : List Entry → ℕ → List Label
unfolding listed
shown h j = listed (shown_entry j) h

-- the greatest of the labels that pass
unfoldable pub greatest_label : (Label → Bool) → List Label → Option Label
greatest_label p [] = None
greatest_label p (l ∷ ls) =
    let rest = greatest_label p ls in
    if p l then elim rest [ None ↦ Some l | Some m ↦ if label_lt m l then Some l else Some m ] else rest

-- the version of item x at j: the greatest label that has it of those that j showed
unfoldable pub version : List Entry → ℕ → ℕ → Option Label
unfolding shown greatest_label
version h j x = greatest_label (λ l. is_update_of l.kind x) (shown h j)

-- the values of a write, where the test holds
abbrev pub values_if : Bool → Option Written → Option (List (List ℕ))
values_if test None = None
values_if true (Some w) = Some w.values
values_if false (Some w) = None

-- the values of the write that an entry is, if it made this label
abbrev pub values_entry : Label → List Entry → Entry → Option (List (List ℕ))
values_entry l before entry =
    elim entry.answer [ ans.Wrote m ↦ values_if (label_eq m l) (write_in entry.act) | _ ↦ None ]

-- the values of the write that made a label, one for each of its items
unfoldable pub values_of : List Entry → Label → List (List ℕ)
unfolding latest
values_of h l = latest {X = List (List ℕ)} (values_entry l) [] h

-- of values for some items, that of item x
abbrev pub value_for : List ℕ → List (List ℕ) → ℕ → List ℕ
value_for [] vs x = []
value_for (y ∷ ys) [] x = []
value_for (y ∷ ys) (v ∷ vs) x = if y == x then v else value_for ys vs x

-- the value for item x of the write that made a label
abbrev pub value_of : List Entry → Label → ℕ → List ℕ
value_of h l x = value_for (items_of l.kind) (values_of h l) x

-- ---- lanes

-- the update for site j that an entry made at gear g of site i
abbrev pub lane_entry : Deployed → ℕ → ℕ → ℕ → List Entry → Entry → Option Label
lane_entry d i g j before entry =
    elim (made_entry i g before entry)
    [ None ↦ None | Some l ↦ if is_update l.kind && is_target d l j then Some l else None ]

-- the lane of gear g of site i to site j: the updates that it made for j, in order. Their places are their numbers
unfoldable pub lane : Deployed → List Entry → ℕ → ℕ → ℕ → List Label
unfolding listed is_target
lane d h i g j = listed (lane_entry d i g j) h

-- the update whose payload an entry brought to site j
abbrev pub brought_entry : ℕ → List Entry → Entry → Option Label
brought_entry j before entry =
    elim entry.answer [ ans.Brought l ↦ if is_at entry.act j then Some l else None | _ ↦ None ]

-- the updates whose payloads came to j, in order
unfoldable pub brought : List Entry → ℕ → List Label
unfolding listed
brought h j = listed (brought_entry j) h

-- the front of a lane: how many of its first updates were brought, and so the least number that was not
unfoldable pub lane_front : Deployed → List Entry → ℕ → ℕ → ℕ → ℕ
unfolding lane brought
lane_front d h i g j = prefix_len (λ l. has label_eq (brought h j) l) (lane d h i g j)

-- the updates that wait at j: brought and not shown
unfoldable pub waiting : List Entry → ℕ → List Label
unfolding brought shown
waiting h j = filter (λ l. not (has label_eq (shown h j) l)) (brought h j)

-- ---- beats

-- what a beat says of its site: its cut, its close cut of each epoch, and how much of each gear's lane was gathered
pub record BeatNote : Type 0 where
  pub cut : Point
  pub closes : ℕ → Option Point
  pub counts : ℕ → ℕ

-- what a beat of i for j would say after a history
abbrev pub note_for : Deployed → List Entry → ℕ → ℕ → BeatNote
note_for d h i j =
    record { cut = cut d h i; closes = close_cut h i; counts = λ g. length (lane d (gathered h i) i g j) }

-- what the beat says that an entry made at i for j
abbrev pub beat_entry : Deployed → ℕ → ℕ → List Entry → Entry → Option BeatNote
beat_entry d i j before entry =
    elim entry.answer [ ans.Beat n ↦ if is_beat entry.act i j then Some (note_for d before i j) else None | _ ↦ None ]

-- the beats of i for j, in order. Their places are their numbers
unfoldable pub beats : Deployed → List Entry → ℕ → ℕ → List BeatNote
unfolding listed cut close_cut lane gathered
beats d h i j = listed (beat_entry d i j) h

-- the numbers of the beats of i that j took
unfoldable pub beats_taken : List Entry → ℕ → ℕ → List ℕ
unfolding listed
beats_taken h i j = listed (λ before entry. elim entry.answer [ ans.Taken ↦ beat_in entry.act i j | _ ↦ None ]) h

-- whether a beat of i is complete at j: all that it counts was brought
unfoldable pub is_complete : Deployed → List Entry → ℕ → ℕ → BeatNote → Bool
unfolding lane_front
is_complete d h i j note = list_all (λ g. nat_le (note.counts g) (lane_front d h i g j)) (below d.gears)

-- the greatest number below n of a complete beat that was taken, and that beat
unfoldable pub best_below : Deployed → List Entry → ℕ → ℕ → List BeatNote → ℕ → Option (ℕ × BeatNote)
unfolding beats_taken is_complete
best_below d h i j notes zero = None
best_below d h i j notes (suc n) =
    elim (has ◌==◌ (beats_taken h i j) n) [
      | false ↦ best_below d h i j notes n
      | true ↦ elim (slice_get notes n) [
        | None ↦ best_below d h i j notes n
        | Some note ↦ elim (is_complete d h i j note) [ true ↦ Some (n, note) | false ↦ best_below d h i j notes n ]
      ]
    ]

-- the best beat of i at j: of the complete ones that j took, the one of the greatest number, with that number
unfoldable pub best : Deployed → List Entry → ℕ → ℕ → Option (ℕ × BeatNote)
unfolding best_below beats
best d h j i = best_below d h i j (beats d h i j) (length (beats d h i j))

-- ---- clients

-- the site of a client's header line
unfoldable pub home : Deployed → ℕ → Option ℕ
home d c = elim (slice_get d.clients c) [ None ↦ None | Some line ↦ Some line.site ]

-- the seat that an entry gave a client, or took away
abbrev pub seat_entry : ℕ → List Entry → Entry → Option (Option ℕ)
seat_entry c before entry =
    elim entry.answer [
      | ans.Attached ↦ elim entry.act [ act.Attach b j ↦ if b == c then Some (Some j) else None | _ ↦ None ]
      | ans.Moved l ↦ if is_of entry.act c then Some None else None
      | ans.Left p ↦ if is_of entry.act c then Some None else None
      | _ ↦ None
    ]

-- the site that a client is seated at, None where it left or is moving
unfoldable pub seat : Deployed → List Entry → ℕ → Option ℕ
unfolding latest home
seat d h c = latest (seat_entry c) (home d c) h

-- the site that an entry set as a client's goal, or that it has none any more
abbrev pub moving_entry : ℕ → List Entry → Entry → Option (Option ℕ)
moving_entry c before entry =
    elim entry.answer [
      | ans.Attached ↦ if is_of entry.act c then Some None else None
      | ans.Left p ↦ if is_of entry.act c then Some None else None
      | ans.Moved l ↦ if is_of entry.act c then elim l.kind [ kind.Move j ↦ Some (Some j) | _ ↦ None ] else None
      | _ ↦ None
    ]

-- the site that a client is moving to, if any
unfoldable pub moving : List Entry → ℕ → Option ℕ
unfolding latest
moving h c = latest (moving_entry c) None h

-- the point that an entry put before a client: of its write, its read or its move
abbrev pub carried_entry : ℕ → List Entry → Entry → Option Point
carried_entry c before entry =
    elim entry.answer [
      | ans.Wrote l ↦ if is_of entry.act c then Some l.point else None
      | ans.ReadSome l v ↦ if is_of entry.act c then Some l.point else None
      | ans.Moved l ↦ if is_of entry.act c then Some l.point else None
      | _ ↦ None
    ]

-- the greatest point that a client wrote, read or moved with
unfoldable pub carried : List Entry → ℕ → Point
unfolding highest
carried h c = highest (carried_entry c) zero_point h

-- ---- attach

-- the point to which a label of i that was taken raises what is known of i
abbrev pub known_at : Kind → Point → Point
known_at (kind.Update items) p = p
known_at (kind.Move k) p = p
known_at kind.Pulse p = mark p.ts p.site
known_at (kind.Close e) p = p

-- the same, of a whole label
abbrev pub known_by : Label → Point
known_by l = known_at l.kind l.point

-- the point up to which j, by an entry, knows i: by a turn, or by leaving in stamp mode a view that i closed
abbrev pub last_entry : Deployed → ℕ → ℕ → List Entry → Entry → Option Point
last_entry d j i before entry =
    elim entry.answer [
      | ans.Shown l ↦
          elim entry.act [ act.Turn k ↦ if (k == j) && (l.point.site == i) then Some (known_by l) else None | _ ↦ None ]
      | ans.Took l ↦ if is_at entry.act j && (l.point.site == i) then Some (known_by l) else None
      | ans.View v ↦ if is_at entry.act j && in_stamp_mode d before j then close_cut before i (view before j) else None
      | _ ↦ None
    ]

-- the point up to which j has taken what i sent, (0, i, 0) in the beginning
unfoldable pub last : Deployed → List Entry → ℕ → ℕ → Point
unfolding highest in_stamp_mode close_cut view
last d h j i = highest (last_entry d j i) (point_at 0 i 0) h

-- each site but j passes
abbrev pub all_others : Deployed → ℕ → (ℕ → Bool) → Bool
all_others d j p = list_all (λ i. (i == j) || p i) (below d.sites)

-- whether there is a best beat, and it passes
abbrev pub best_passes : Option (ℕ × BeatNote) → (BeatNote → Bool) → Bool
best_passes None p = false
best_passes (Some b) p = p b.1

-- case 1: the client carries nothing
abbrev pub case_zero : List Entry → ℕ → Bool
case_zero h c = point_le (carried h c) zero_point

-- case 2: the client is moving to j, and j knows the site of the client's point up to that point
abbrev pub case_moving : Deployed → List Entry → ℕ → ℕ → Bool
case_moving d h c j =
    elim (moving h c) [ None ↦ false | Some k ↦ (k == j) && point_le (carried h c) (last d h j (carried h c).site) ]

-- case 3: j knows every other site up to the mark of the client's timestamp
abbrev pub case_taken : Deployed → List Entry → ℕ → ℕ → Bool
case_taken d h c j = all_others d j (λ i. point_le (mark (carried h c).ts i) (last d h j i))

-- by a beat of i, all of i up to a timestamp is sent, and within the epoch if i closed it
abbrev pub reaches : ℕ → ℕ → ℕ → BeatNote → Bool
reaches epoch ts i note =
    point_le (mark ts i) note.cut && elim (note.closes epoch) [ None ↦ true | Some p ↦ point_le (mark ts i) p ]

-- case 4: j is in stamp mode, the best beat of every other site reaches the client's timestamp within the view, and
-- nothing that waits at j has a timestamp up to it
abbrev pub case_beats : Deployed → List Entry → ℕ → ℕ → Bool
case_beats d h c j =
    (in_stamp_mode d h j && all_others d j (λ i. best_passes (best d h j i) (reaches (view h j) (carried h c).ts i)))
    && not (list_any (λ l. nat_le l.point.ts (carried h c).ts) (waiting h j))

-- whether a client without a seat may come to j: its past was shown there. One of four cases
unfoldable pub may_attach : Deployed → List Entry → ℕ → ℕ → Bool
unfolding carried moving last best waiting in_stamp_mode view
may_attach d h c j = case_zero h c || (case_moving d h c j || (case_taken d h c j || case_beats d h c j))

-- ---- stamp order

-- by a beat of its site, a label lies above the close cut of the epoch
abbrev pub closed_below : ℕ → Label → BeatNote → Bool
closed_below epoch l note = elim (note.closes epoch) [ None ↦ false | Some p ↦ point_lt p l.point ]

-- whether a waiting label's epoch is past the view of j, by what the best beat of its site says
unfoldable pub is_past : Deployed → List Entry → ℕ → Label → Bool
unfolding best view
is_past d h j l = best_passes (best d h j l.point.site) (closed_below (view h j) l)

-- the least label that waits at j and is not past its view
unfoldable pub candidate : Deployed → List Entry → ℕ → Option Label
unfolding waiting is_past least_label
candidate d h j = least_label (λ l. not (is_past d h j l)) (waiting h j)

-- by a beat of i, all of i up to a timestamp is sent, or i closed the epoch
abbrev pub passed_ts : ℕ → ℕ → ℕ → BeatNote → Bool
passed_ts epoch ts i note = point_le (mark ts i) note.cut || is_some (note.closes epoch)

-- by a beat of its site, a label is sent, and within the epoch if its site closed that
abbrev pub passed_label : ℕ → Label → BeatNote → Bool
passed_label epoch l note = elim (note.closes epoch) [ None ↦ point_le l.point note.cut | Some p ↦ point_le l.point p ]

-- the best beat of every site but j has passed the timestamp of a label
abbrev pub every_site_passed : Deployed → List Entry → ℕ → Label → Bool
every_site_passed d h j l = all_others d j (λ i. best_passes (best d h j i) (passed_ts (view h j) l.point.ts i))

-- the best beat of the label's own site has passed the label
abbrev pub own_site_passed : Deployed → List Entry → ℕ → Label → Bool
own_site_passed d h j l = best_passes (best d h j l.point.site) (passed_label (view h j) l)

-- the label that j shows next in timestamp order: the candidate, once nothing below it can come any more
unfoldable pub next_stamp : Deployed → List Entry → ℕ → Option Label
unfolding candidate best view
next_stamp d h j =
    elim (candidate d h j) [
      | None ↦ None
      | Some l ↦ if every_site_passed d h j l && own_site_passed d h j l then Some l
          else None
    ]
