-- What each act makes of a hub, and of a gear: of an answer what changes, where all else stays.
use Rattle.std.specs.Prelude.{◌≡◌, ℕ, ◌+◌, Bool, true, false, ◌&&◌, ◌||◌, not, ◌==◌, List, [], ◌∷◌, ◌++◌, filter}
use Rattle.std.specs.Prelude.{Option, Some, if◌then◌else◌}
use Rattle.sat_label.specs.Order.{greater_point, label_eq}
use Rattle.sat_label.specs.declared.carried.Carried.{Carried}
use Rattle.sat_label.specs.declared.items.Items.{Items}
use Rattle.sat_label.specs.declared.label.Label.{Label}
use Rattle.sat_label.specs.declared.point.Point.{Point}
use Rattle.sat_act.specs.declared.answer.Answer.TheVariants as ans
use Rattle.sat_act.specs.declared.answer.Refusal.{Refusal}
use Rattle.sat_act.specs.Deployed.{Deployed}
use Rattle.sat_act.specs.Answers.{is_close_of}
use Rattle.sat_act.specs.Parts.{BeatNote, is_target, is_update_of, items_of, known_by, value_for}
use Rattle.sat_bulk.specs.Payloads.{Payload}
use Rattle.sat_model.specs.State.{ProxyState, SinkState, ViewState}
use Rattle.sat_model.specs.Next.{note_of, passed_cut, payload_at, put, raised, version_at}
use Rattle.sat_joint.specs.Pieces.{Drain}
use Rattle.sat_joint.specs.Machines.{HubState, GearNode, hub_alone, of_gears}
use Rattle.sat_hub_laws.specs.Inputs.{HubInput, GearInput}
use Rattle.sat_hub_laws.specs.Inputs as given
use Rattle.sat_hub_laws.specs.Hubs.{hub_then}
use Rattle.sat_hub_laws.specs.Gears.{gear_then}

-- ---- the sink

-- it has what the gears gave: their promises, their labels behind those that wait, and how much of their lanes there is
abbrev pub sink_gathers : SinkState → (ℕ → Drain) → SinkState
sink_gathers s f = record {
  promises = λ g. (f g).promise;
  pending = λ g. s.pending g ++ (f g).labels;
  counts = λ g j. (f g).counts j;
  last = s.last;
  pulse = s.pulse;
}

-- it sent this label, which waits no more
abbrev pub sink_emits : SinkState → Label → SinkState
sink_emits s l = record {
  promises = s.promises;
  pending = λ g. filter (λ m. not (label_eq l m)) (s.pending g);
  counts = s.counts;
  last = l.point;
  pulse = s.pulse;
}

abbrev pub sink_pulses : SinkState → Label → SinkState
sink_pulses s l =
    record { promises = s.promises; pending = s.pending; counts = s.counts; last = l.point; pulse = l.point.ts }

abbrev pub sink_closes : SinkState → Point → SinkState
sink_closes s p = record { promises = s.promises; pending = s.pending; counts = s.counts; last = p; pulse = s.pulse }

-- ---- views

abbrev pub views_close : ViewState → ℕ → Point → ViewState
views_close s e p = record {
  view = s.view;
  emission = e + 1;
  fallen = s.fallen;
  closes = λ n. if e == n then Some p else s.closes n;
  heard = s.heard;
}

abbrev pub views_fall : ViewState → ViewState
views_fall s =
    record { view = s.view; emission = s.emission; fallen = true; closes = s.closes; heard = s.heard }

abbrev pub views_pass : ViewState → ℕ → ViewState
views_pass s v = record { view = v; emission = s.emission; fallen = false; closes = s.closes; heard = s.heard }

-- it took a label, which may be a site's Close
abbrev pub views_hear : ViewState → Label → ViewState
views_hear s l = record {
  view = s.view;
  emission = s.emission;
  fallen = s.fallen;
  closes = s.closes;
  heard = λ i e. is_close_of l i e || s.heard i e;
}

-- ---- what it has of other sites

-- the point up to which each site is known, after a label was taken from the tree
abbrev pub known_after : (ℕ → Point) → Label → ℕ → Point
known_after last l i = if l.point.site == i then greater_point (known_by l) (last i) else last i

abbrev pub proxy_takes : ProxyState → Label → ProxyState
proxy_takes s l = record { taken = s.taken; pool = s.pool; beats = s.beats; last = known_after s.last l }

-- an update waits no more
abbrev pub without : List Payload → Label → List Payload
without ps l = filter (λ p. not (label_eq l p.label)) ps

abbrev pub proxy_turns : ProxyState → Label → ProxyState
proxy_turns s l = record { taken = s.taken; pool = without s.pool l; beats = s.beats; last = known_after s.last l }

abbrev pub proxy_stamps : ProxyState → Label → ProxyState
proxy_stamps s l = record { taken = s.taken; pool = without s.pool l; beats = s.beats; last = s.last }

abbrev pub proxy_brings : ProxyState → ℕ → ℕ → ℕ → Payload → ProxyState
proxy_brings s from gear n p = record {
  taken = λ i g. if (from == i) && (gear == g) then s.taken i g ++ n ∷ [] else s.taken i g;
  pool = s.pool ++ p ∷ [];
  beats = s.beats;
  last = s.last;
}

abbrev pub proxy_hears : ProxyState → ℕ → ℕ → BeatNote → ProxyState
proxy_hears s from n note = record {
  taken = s.taken;
  pool = s.pool;
  beats = λ i. if from == i then s.beats i ++ (n, note) ∷ [] else s.beats i;
  last = s.last;
}

-- each site is known up to its cut at the close of the view, where that is shown in timestamp order
abbrev pub proxy_passes : Deployed → ℕ → HubState → ProxyState
proxy_passes d i h = record {
  taken = h.proxy.taken;
  pool = h.proxy.pool;
  beats = h.proxy.beats;
  last = λ k. raised (h.proxy.last k) (passed_cut d i (hub_alone d i h) k);
}

-- ---- a hub

-- what each act of hub i makes of it: a refusal and an attach leave it, and so do a payload and a beat that came again
pub record HubChanges (d : Deployed) (i : ℕ) (h : HubState) : Type 0 where
  pub refused : (input : HubInput) (f : Refusal) → hub_then d i h input (ans.Refused f) ≡ h
  pub again : (input : HubInput) → hub_then d i h input ans.Again ≡ h
  pub old : (input : HubInput) → hub_then d i h input ans.Old ≡ h
  pub attach : (seen : Carried) → hub_then d i h (given.Attach seen) ans.Attached ≡ h
  pub gather : (f : ℕ → Drain) (labels stable : ℕ) → hub_then d i h (given.Gather f) (ans.Gathered labels stable)
      ≡ record h { sink = sink_gathers h.sink (of_gears d f) }
  pub emit : (l : Label) → hub_then d i h given.Emit (ans.Emitted l) ≡ record h { sink = sink_emits h.sink l }
  pub pulse : (l : Label) → hub_then d i h given.Pulse (ans.Pulsed l) ≡ record h { sink = sink_pulses h.sink l }
  pub turn : (front : Option Label) (l : Label) → hub_then d i h (given.Turn front) (ans.Shown l)
      ≡ record h { proxy = proxy_turns h.proxy l }
  pub take : (front : Option Label) (l : Label) → hub_then d i h (given.Turn front) (ans.Took l)
      ≡ record h { views = views_hear h.views l; proxy = proxy_takes h.proxy l }
  pub bulk : (from gear n : ℕ) (p : Payload) (l : Label) → hub_then d i h (given.Bulk from gear n p) (ans.Brought l)
      ≡ record h { proxy = proxy_brings h.proxy from gear n p }
  pub beat : (to n : ℕ) → hub_then d i h (given.Beat to) (ans.Beat n)
      ≡ record h {
        made_beats = λ j. if to == j then h.made_beats j ++ note_of d i (hub_alone d i h) j ∷ [] else h.made_beats j;
      }
  pub beat_in : (from n : ℕ) (note : BeatNote) → hub_then d i h (given.BeatIn from n note) ans.Taken
      ≡ record h { proxy = proxy_hears h.proxy from n note }
  pub stamp : (l : Label) → hub_then d i h given.Stamp (ans.Shown l) ≡ record h { proxy = proxy_stamps h.proxy l }
  pub close : (e : ℕ) (p : Point) → hub_then d i h given.Close (ans.Closed e p)
      ≡ record h { sink = sink_closes h.sink p; views = views_close h.views e p }
  pub fall : hub_then d i h given.Fall ans.Fallen ≡ record h { views = views_fall h.views }
  pub advance : (v : ℕ) → hub_then d i h given.Advance (ans.View v)
      ≡ record h { views = views_pass h.views v; proxy = proxy_passes d i h }

abbrev pub HubsChange : Type 0
HubsChange = (d : Deployed) (i : ℕ) (h : HubState) → HubChanges d i h

-- ---- a gear

-- a gear that made this label
abbrev pub gear_moved : GearNode → Label → GearNode
gear_moved n l = record {
  gear = record { promise = l.point.ts; fresh = n.gear.fresh ++ l ∷ []; lanes = n.gear.lanes };
  store = n.store;
}

-- a gear that made this update, which joins the lanes of its targets, and shows the values of all of its items
abbrev pub gear_wrote : Deployed → GearNode → Label → List (List ℕ) → GearNode
gear_wrote d n l values = record {
  gear = record {
    promise = l.point.ts;
    fresh = n.gear.fresh ++ l ∷ [];
    lanes = λ j. if is_target d l j then n.gear.lanes j ++ payload_at l values ∷ [] else n.gear.lanes j;
  };
  store = λ x. if is_update_of l.kind x
      then put (n.store x) (version_at l (value_for (items_of l.kind) values x)) else n.store x;
}

-- whether an input is an act of the gear's own, and no part of another node's
abbrev pub input_is_own : GearInput → Bool
input_is_own (given.Drain f labels stable) = false
input_is_own (given.Show by p) = false
input_is_own _ = true

-- what each act of its own makes of gear g. Its parts of other nodes' acts are `gear_drained` and `gear_shows`
pub record GearChanges (d : Deployed) (g : ℕ) (n : GearNode) : Type 0 where
  pub refused : (input : GearInput) (f : Refusal) → input_is_own input ≡ true
      → gear_then d g n input (ans.Refused f) ≡ n
  pub tick : (ts t : ℕ) → gear_then d g n (given.Tick ts) (ans.Ticked t)
      ≡ record { gear = record { promise = t; fresh = n.gear.fresh; lanes = n.gear.lanes }; store = n.store }
  pub write : (seen : Carried) (items : Items) (values : List (List ℕ)) (l : Label) → (l.point.gear == g) ≡ true
      → gear_then d g n (given.Write seen items values) (ans.Wrote l) ≡ gear_wrote d n l values
  pub read : (seen : Carried) (x : ℕ) (l : Label) (value : List ℕ)
      → gear_then d g n (given.Read seen x) (ans.ReadSome l value) ≡ n
  pub missed : (seen : Carried) (x : ℕ) → gear_then d g n (given.Read seen x) ans.ReadNone ≡ n
  pub move : (seen : Carried) (j : ℕ) (l : Label) → (l.point.gear == g) ≡ true
      → gear_then d g n (given.Move seen j) (ans.Moved l) ≡ gear_moved n l

abbrev pub GearsChange : Type 0
GearsChange = (d : Deployed) (g : ℕ) (n : GearNode) → GearChanges d g n
