-- A world of sites, links, killed serializers and clients, without the past, and its step.
use Rattle.std.specs.Prelude.{ℕ, zero, suc, Bool, true, false, ◌&&◌, not, ◌==◌, max, List, [], ◌∷◌, ◌++◌, filter, drop}
use Rattle.std.specs.Prelude.{Option, Some, None, slice_get, if◌then◌else◌}
use Rattle.sat_label.specs.declared.point.Point.{Point}
use Rattle.sat_label.specs.declared.items.Items.TheVariants.{One}
use Rattle.sat_label.specs.declared.label.Kind.TheVariants as kind
use Rattle.sat_label.specs.declared.label.Label.{Label}
use Rattle.sat_label.specs.declared.node.NodeId.{NodeId}
use Rattle.sat_label.specs.declared.node.NodeId.TheVariants.{Site, Serializer}
use Rattle.sat_label.specs.Order.{greater_point, zero_point, node_eq}
use Rattle.sat_tree.specs.Shape.{TreeShape}
use Rattle.sat_tree.specs.Cut.{neighbours}
use Rattle.sat_act.specs.declared.act.Act.{Act}
use Rattle.sat_act.specs.declared.act.Act.TheVariants as act
use Rattle.sat_act.specs.declared.answer.Answer.{Answer}
use Rattle.sat_act.specs.declared.answer.Answer.TheVariants as ans
use Rattle.sat_act.specs.declared.answer.Refusal.TheVariants as why
use Rattle.sat_act.specs.declared.entry.Entry.{Entry}
use Rattle.sat_act.specs.Deployed.{Deployed}
use Rattle.sat_act.specs.Done.{is_of, is_kill}
use Rattle.sat_act.specs.Parts.{BeatNote, Handling, tree_of, seat_in, goes_beyond, entered, taken, killed, carried}
use Rattle.sat_act.specs.Parts.{moving, seat, home, is_put, is_taken}
use Rattle.sat_act.specs.Answers.{refused_if, at_seat}
use Rattle.sat_label.specs.declared.carried.Carried.{Carried}
use Rattle.sat_bulk.specs.Payloads.{Payload}
use Rattle.sat_model.specs.State.{SiteState, fresh_site}
use Rattle.sat_model.specs.Input.{SiteInput}
use Rattle.sat_model.specs.Input as given
use Rattle.sat_model.specs.Look.{front_of}
use Rattle.sat_model.specs.Reply.{site_answer}
use Rattle.sat_model.specs.Replay.{after, site_state, given_at, given_seat}

-- a client: what it carries, and its seat
pub record ClientState : Type 0 where
  pub carried : Carried
  pub seat : Option ℕ

-- a world: its sites; its links, by epoch and edge, with what entered and was not taken; which serializers are dead, by
-- epoch; and its clients
pub record WorldState : Type 0 where
  pub sites : ℕ → SiteState
  pub links : ℕ → NodeId → NodeId → List Label
  pub dead : ℕ → ℕ → Bool
  pub clients : ℕ → ClientState

-- a world in the beginning
abbrev pub fresh_world : Deployed → WorldState
fresh_world d = record {
  sites = fresh_site;
  links = λ epoch u v. [];
  dead = λ epoch z. false;
  clients = λ c. record { carried = record { point = zero_point; moving = None }; seat = home d c };
}

-- ---- what a world hands

-- the first of a list
abbrev pub first : {X : Type 0} → List X → Option X
first xs = slice_get xs 0

-- the front of the link to site j from its serializer, in the tree of its view
abbrev pub front_at : Deployed → WorldState → ℕ → Option Label
front_at d w j =
    elim (seat_in d (w.sites j).views.view j)
    [ None ↦ None | Some z ↦ first (w.links (w.sites j).views.view z (Site j)) ]

-- the greatest of the first n promises of the first m sites
unfoldable pub greatest_row : (ℕ → ℕ → ℕ) → ℕ → ℕ → ℕ
greatest_row p m zero = 0
greatest_row p zero (suc n) = 0
greatest_row p (suc m) (suc n) = max (max (p m n) (greatest_row p (suc m) n)) (greatest_row p m (suc n))

-- the greatest promise of all gears
abbrev pub clock_of : Deployed → WorldState → ℕ
clock_of d w = greatest_row (λ i g. ((w.sites i).gears g).promise) d.sites d.gears

-- the number of a bulk: the one that it names, or the front of the lane
abbrev pub number_of : WorldState → ℕ → ℕ → ℕ → Option ℕ → ℕ
number_of w i g j o = elim o [ None ↦ front_of (w.sites j) i g | Some n ↦ n ]

-- the payload of this number of the lane of gear g of i to j
abbrev pub payload_from : WorldState → ℕ → ℕ → ℕ → ℕ → Option Payload
payload_from w i g j n = slice_get (((w.sites i).gears g).lanes j) n

-- the beat of this number of i for j
abbrev pub beat_from : WorldState → ℕ → ℕ → ℕ → Option BeatNote
beat_from w i j n = slice_get ((w.sites i).made_beats j) n

-- what an act hands to site k, None where it is no act at k, or finds nothing to hand
unfoldable pub world_given : Deployed → WorldState → Act → ℕ → Option SiteInput
world_given d w (act.Tick i g ts) k = given_at i k (given.Tick g ts)
world_given d w act.Clock k = Some (given.Clock (clock_of d w))
world_given d w (act.Write c x value) k =
    given_seat (w.clients c).seat k (given.Write (w.clients c).carried (One x) (value ∷ []))
world_given d w (act.Writes c items values) k =
    given_seat (w.clients c).seat k (given.Write (w.clients c).carried items values)
world_given d w (act.Read c x) k = given_seat (w.clients c).seat k (given.Read (w.clients c).carried x)
world_given d w (act.Move c j) k = given_seat (w.clients c).seat k (given.Move (w.clients c).carried j)
world_given d w (act.Attach c j) k =
    elim (w.clients c).seat [ None ↦ given_at j k (given.Attach (w.clients c).carried) | Some i ↦ None ]
world_given d w (act.Gather i) k = given_at i k given.Gather
world_given d w (act.Emit i) k = given_at i k given.Emit
world_given d w (act.Pulse i) k = given_at i k given.Pulse
world_given d w (act.Turn j) k = given_at j k (given.Turn (front_at d w j))
world_given d w (act.Bulk i g j o) k =
    elim (payload_from w i g j (number_of w i g j o))
    [ None ↦ None | Some p ↦ given_at j k (given.Bulk i g (number_of w i g j o) p) ]
world_given d w (act.Beat i j) k = given_at i k (given.Beat j)
world_given d w (act.BeatIn i j n) k =
    elim (beat_from w i j n) [ None ↦ None | Some note ↦ given_at j k (given.BeatIn i n note) ]
world_given d w (act.Stamp j) k = given_at j k given.Stamp
world_given d w (act.Close i) k = given_at i k given.Close
world_given d w (act.Fall j) k = given_at j k given.Fall
world_given d w (act.Advance j) k = given_at j k given.Advance
world_given d w _ k = None

-- ---- what a world answers

-- the neighbours of serializer z, but the one that the label came from, beyond which a target lies
abbrev pub nodes_for : Deployed → TreeShape → NodeId → ℕ → Label → List NodeId
nodes_for d t u z l = filter (λ v. not (node_eq u v) && goes_beyond d t (Serializer z) v l) (neighbours t z)

-- the answer of a hop, by the front that it finds
abbrev pub hop_by : Deployed → TreeShape → NodeId → ℕ → Option Label → Answer
hop_by d t u z o = elim o [ None ↦ ans.Refused why.Empty | Some l ↦ ans.Hopped l (nodes_for d t u z l) ]

-- what a world answers to an act, one clause for each act. For a settle it is a stand-in: the world doesn't take it as
-- one act
unfoldable pub world_answer : Deployed → WorldState → Act → Answer
unfolding site_answer
world_answer d w (act.Tick i g ts) = site_answer d i (w.sites i) (given.Tick g ts)
world_answer d w act.Clock = ans.Clocked (clock_of d w)
world_answer d w (act.Write c x value) =
    at_seat (w.clients c).seat
    (λ i. site_answer d i (w.sites i) (given.Write (w.clients c).carried (One x) (value ∷ [])))
world_answer d w (act.Writes c items values) =
    at_seat (w.clients c).seat (λ i. site_answer d i (w.sites i) (given.Write (w.clients c).carried items values))
world_answer d w (act.Read c x) =
    at_seat (w.clients c).seat (λ i. site_answer d i (w.sites i) (given.Read (w.clients c).carried x))
world_answer d w (act.Move c j) =
    at_seat (w.clients c).seat (λ i. site_answer d i (w.sites i) (given.Move (w.clients c).carried j))
world_answer d w (act.Leave c) = at_seat (w.clients c).seat (λ i. ans.Left (w.clients c).carried.point)
world_answer d w (act.Attach c j) =
    elim (w.clients c).seat
    [ None ↦ site_answer d j (w.sites j) (given.Attach (w.clients c).carried) | Some i ↦ ans.Refused why.Joined ]
world_answer d w (act.Gather i) = site_answer d i (w.sites i) given.Gather
world_answer d w (act.Emit i) = site_answer d i (w.sites i) given.Emit
world_answer d w (act.Pulse i) = site_answer d i (w.sites i) given.Pulse
world_answer d w (act.Hop epoch u z) =
    refused_if (w.dead epoch z) why.Dead (
    elim (tree_of d epoch)
    [ None ↦ ans.Refused why.Empty | Some tree ↦ hop_by d tree u z (first (w.links epoch u (Serializer z))) ])
world_answer d w (act.Turn j) = site_answer d j (w.sites j) (given.Turn (front_at d w j))
world_answer d w (act.Bulk i g j o) =
    elim (payload_from w i g j (number_of w i g j o))
    [ None ↦ ans.Refused why.NoSuch | Some p ↦ site_answer d j (w.sites j) (given.Bulk i g (number_of w i g j o) p) ]
world_answer d w (act.Beat i j) = site_answer d i (w.sites i) (given.Beat j)
world_answer d w (act.BeatIn i j n) =
    elim (beat_from w i j n)
    [ None ↦ ans.Refused why.NoSuch | Some note ↦ site_answer d j (w.sites j) (given.BeatIn i n note) ]
world_answer d w (act.Stamp j) = site_answer d j (w.sites j) given.Stamp
world_answer d w (act.Close i) = site_answer d i (w.sites i) given.Close
world_answer d w (act.Fall j) = site_answer d j (w.sites j) given.Fall
world_answer d w (act.Advance j) = site_answer d j (w.sites j) given.Advance
world_answer d w (act.Kill epoch z) = refused_if (w.dead epoch z) why.Already ans.Killed
world_answer d w act.Settle = ans.Settled 0 0

-- ---- what an answer makes of a world

-- what an act handled, by each site's emission epoch and view
unfoldable pub handled_by : Deployed → (ℕ → ℕ) → (ℕ → ℕ) → Act → Answer → Option Handling
handled_by d emission view a r =
    elim r [
      | ans.Emitted l ↦
          elim a [ act.Emit i ↦ Some (record { epoch = emission i; node = Site i; from = None; label = l }) | _ ↦ None ]
      | ans.Pulsed l ↦ elim a
          [ act.Pulse i ↦ Some (record { epoch = emission i; node = Site i; from = None; label = l }) | _ ↦ None ]
      | ans.Closed f p ↦
          elim a [
            | act.Close i ↦ Some (record {
              epoch = f;
              node = Site i;
              from = None;
              label = record { point = p; kind = kind.Close f };
            })
            | _ ↦ None
          ]
      | ans.Hopped l to ↦ elim a
          [ act.Hop f u z ↦ Some (record { epoch = f; node = Serializer z; from = Some u; label = l }) | _ ↦ None ]
      | ans.Shown l ↦
          elim a [
            | act.Turn j ↦ Some (record { epoch = view j; node = Site j; from = seat_in d (view j) j; label = l })
            | _ ↦ None
          ]
      | ans.Took l ↦
          elim a [
            | act.Turn j ↦ Some (record { epoch = view j; node = Site j; from = seat_in d (view j) j; label = l })
            | _ ↦ None
          ]
      | _ ↦ None
    ]

-- what a handled label makes of the link from u to v in an epoch
abbrev pub link_next : Deployed → Option Handling → ℕ → NodeId → NodeId → List Label → List Label
link_next d o epoch u v ls =
    elim (tree_of d epoch) [
      | None ↦ []
      | Some tree ↦ elim o [
        | None ↦ ls
        | Some x ↦ (if is_taken epoch u v x then drop 1 ls else ls)
            ++ (if is_put d epoch tree u v x then x.label ∷ [] else [])
      ]
    ]

-- whether a serializer is dead after an act
abbrev pub dead_next : ℕ → ℕ → Bool → Act → Answer → Bool
dead_next epoch z b a r = elim r [ ans.Killed ↦ if is_kill a epoch z then true else b | _ ↦ b ]

-- the point of client c after an act
abbrev pub point_next : ℕ → Point → Act → Answer → Point
point_next c p a r =
    elim r [
      | ans.Wrote l ↦ if is_of a c then greater_point l.point p else p
      | ans.ReadSome l v ↦ if is_of a c then greater_point l.point p else p
      | ans.Moved l ↦ if is_of a c then greater_point l.point p else p
      | _ ↦ p
    ]

-- the goal of client c after an act
abbrev pub moving_next : ℕ → Option ℕ → Act → Answer → Option ℕ
moving_next c o a r =
    elim r [
      | ans.Attached ↦ if is_of a c then None else o
      | ans.Left p ↦ if is_of a c then None else o
      | ans.Moved l ↦ if is_of a c then elim l.kind [ kind.Move j ↦ Some j | _ ↦ o ] else o
      | _ ↦ o
    ]

-- the seat of client c after an act
abbrev pub seat_next : ℕ → Option ℕ → Act → Answer → Option ℕ
seat_next c o a r =
    elim r [
      | ans.Attached ↦ elim a [ act.Attach b j ↦ if b == c then Some j else o | _ ↦ o ]
      | ans.Moved l ↦ if is_of a c then None else o
      | ans.Left p ↦ if is_of a c then None else o
      | _ ↦ o
    ]

-- client c after an act
abbrev pub client_next : ℕ → ClientState → Act → Answer → ClientState
client_next c s a r =
    record {
      carried = record { point = point_next c s.carried.point a r; moving = moving_next c s.carried.moving a r };
      seat = seat_next c s.seat a r;
    }

-- what an act and its answer make of a world
unfoldable pub world_next : Deployed → WorldState → Act → Answer → WorldState
unfolding after world_given handled_by
world_next d w a r = record {
  sites = λ k. after d k (w.sites k) (world_given d w a k) r;
  links =
      λ epoch u v. link_next d (handled_by d (λ i. (w.sites i).views.emission) (λ i. (w.sites i).views.view) a r) epoch
      u v (w.links epoch u v);
  dead = λ epoch z. dead_next epoch z (w.dead epoch z) a r;
  clients = λ c. client_next c (w.clients c) a r;
}

-- a world's step: its answer, and the world after it. This is what `World::apply` does
unfoldable pub world_step : Deployed → WorldState → Act → Answer × WorldState
unfolding world_answer world_next
world_step d w a = (world_answer d w a, world_next d w a (world_answer d w a))

-- ---- the world that stands for a history

-- what stands on a link after a history: what was put there and not taken
abbrev pub link_left : Deployed → List Entry → ℕ → NodeId → NodeId → List Label
link_left d h epoch u v =
    elim (tree_of d epoch) [ None ↦ [] | Some tree ↦ drop (taken d h epoch u v) (entered d h epoch tree u v) ]

-- the world that stands for a history
unfoldable pub world_state : Deployed → List Entry → WorldState
unfolding site_state taken entered killed carried moving seat
world_state d h = record {
  sites = site_state d h;
  links = link_left d h;
  dead = killed h;
  clients = λ c. record { carried = record { point = carried h c; moving = moving h c }; seat = seat d h c };
}
