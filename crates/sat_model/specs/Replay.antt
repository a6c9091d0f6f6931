-- What each site is handed in a history, and its state: the replay of that.
use Rattle.std.specs.Prelude.{ℕ, ◌==◌, List, [], ◌∷◌, Option, Some, None, slice_get, if◌then◌else◌}
use Rattle.sat_label.specs.declared.items.Items.TheVariants.{One}
use Rattle.sat_label.specs.declared.label.Label.{Label}
use Rattle.sat_label.specs.declared.node.NodeId.TheVariants.{Site}
use Rattle.sat_act.specs.declared.act.Act.{Act}
use Rattle.sat_act.specs.declared.act.Act.TheVariants as act
use Rattle.sat_act.specs.declared.answer.Answer.{Answer}
use Rattle.sat_act.specs.declared.entry.Entry.{Entry}
use Rattle.sat_act.specs.Deployed.{Deployed}
use Rattle.sat_act.specs.Parts.{tree_of, view, seat_in, link_front, values_of, lane, lane_front, beats, seat, moving}
use Rattle.sat_act.specs.Parts.{carried}
use Rattle.sat_act.specs.Answers.{greatest_promise}
use Rattle.sat_label.specs.declared.carried.Carried.{Carried}
use Rattle.sat_model.specs.State.{SiteState, fresh_site}
use Rattle.sat_model.specs.Input.{SiteInput}
use Rattle.sat_model.specs.Input as given
use Rattle.sat_model.specs.Next.{site_next, payload_at}

-- what a client carries after a history
abbrev pub carrying : List Entry → ℕ → Carried
carrying h c = record { point = carried h c; moving = moving h c }

-- the front of the link to j in its view's tree
unfoldable pub turn_front : Deployed → List Entry → ℕ → Option Label
unfolding tree_of view seat_in link_front
turn_front d h j =
    elim (tree_of d (view h j)) [
      | None ↦ None
      | Some tree ↦ elim (seat_in d (view h j) j) [ None ↦ None | Some z ↦ link_front d h (view h j) tree z (Site j) ]
    ]

-- where site k is handed an input, what site i is handed
abbrev pub given_at : ℕ → ℕ → SiteInput → Option SiteInput
given_at k i input = if k == i then Some input else None

-- the same, where a client's seat, if any, is handed the input
abbrev pub given_seat : Option ℕ → ℕ → SiteInput → Option SiteInput
given_seat o i input = elim o [ None ↦ None | Some k ↦ given_at k i input ]

-- what site k is handed of the payload of this number of the lane of gear g of i to j
abbrev pub given_bulk : Deployed → List Entry → ℕ → ℕ → ℕ → ℕ → ℕ → Option SiteInput
given_bulk d h i g j n k =
    elim (slice_get (lane d h i g j) n)
    [ None ↦ None | Some l ↦ given_at j k (given.Bulk i g n (payload_at l (values_of h l))) ]

-- the number of a bulk: the one that it names, or the front of the lane
abbrev pub given_number : Deployed → List Entry → ℕ → ℕ → ℕ → Option ℕ → ℕ
given_number d h i g j o = elim o [ None ↦ lane_front d h i g j | Some n ↦ n ]

-- what an act hands to site k, None where it is not an act at k, or finds nothing to hand
unfoldable pub handed : Deployed → List Entry → Act → ℕ → Option SiteInput
unfolding turn_front lane values_of lane_front beats seat carried moving greatest_promise
handed d h (act.Tick i g ts) k = given_at i k (given.Tick g ts)
handed d h act.Clock k = Some (given.Clock (greatest_promise h d.sites d.gears))
handed d h (act.Write c x value) k = given_seat (seat d h c) k (given.Write (carrying h c) (One x) (value ∷ []))
handed d h (act.Writes c items values) k = given_seat (seat d h c) k (given.Write (carrying h c) items values)
handed d h (act.Read c x) k = given_seat (seat d h c) k (given.Read (carrying h c) x)
handed d h (act.Move c j) k = given_seat (seat d h c) k (given.Move (carrying h c) j)
handed d h (act.Attach c j) k = elim (seat d h c) [ None ↦ given_at j k (given.Attach (carrying h c)) | Some i ↦ None ]
handed d h (act.Gather i) k = given_at i k given.Gather
handed d h (act.Emit i) k = given_at i k given.Emit
handed d h (act.Pulse i) k = given_at i k given.Pulse
handed d h (act.Turn j) k = given_at j k (given.Turn (turn_front d h j))
handed d h (act.Bulk i g j o) k = given_bulk d h i g j (given_number d h i g j o) k
handed d h (act.Beat i j) k = given_at i k (given.Beat j)
handed d h (act.BeatIn i j n) k =
    elim (slice_get (beats d h i j) n) [ None ↦ None | Some note ↦ given_at j k (given.BeatIn i n note) ]
handed d h (act.Stamp j) k = given_at j k given.Stamp
handed d h (act.Close i) k = given_at i k given.Close
handed d h (act.Fall j) k = given_at j k given.Fall
handed d h (act.Advance j) k = given_at j k given.Advance
handed d h _ k = None

-- a site after an entry that handed it this, or nothing, and had this answer
unfoldable pub after : Deployed → ℕ → SiteState → Option SiteInput → Answer → SiteState
unfolding site_next
after d i s None answer = s
after d i s (Some input) answer = site_next d i s input answer

-- the state of a site: the replay of what it was handed and answered
unfoldable pub site_state : Deployed → List Entry → ℕ → SiteState
unfolding after handed
site_state d [] i = fresh_site i
site_state d (entry ∷ h) i = after d i (site_state d h i) (handed d h entry.act i) entry.answer
