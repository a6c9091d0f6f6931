-- What the parts of the world are that stands for a history, in the history's words.
use Rattle.std.specs.Prelude.{◌≡◌, ℕ, List, length, map, drop, ◌++◌, Option, Some, None}
use Rattle.sat_label.specs.declared.label.Label.{Label}
use Rattle.sat_label.specs.declared.node.NodeId.{NodeId}
use Rattle.sat_tree.specs.Shape.{TreeShape}
use Rattle.sat_bulk.specs.Payloads.{Payload}
use Rattle.sat_act.specs.declared.entry.Entry.{Entry}
use Rattle.sat_act.specs.Deployed.{Deployed}
use Rattle.sat_act.specs.Parts.{tree_of, promise, made, gathered, stable, ready, cut, last_sent, last_pulse, pending}
use Rattle.sat_act.specs.Parts.{emission, close_cut, view, fallen, in_stamp_mode, entered, taken, killed, version}
use Rattle.sat_act.specs.Parts.{values_of, value_of, lane, lane_front, waiting, beats, best, seat, moving, carried}
use Rattle.sat_act.specs.Parts.{last}
use Rattle.sat_act.specs.Answers.{took_close}
use Rattle.sat_model.specs.State.{SiteState, Version}
use Rattle.sat_model.specs.Look.{rows, stable_of, ready_of, cut_of, mode_of, waiting_of, front_of, best_of}
use Rattle.sat_model.specs.Next.{payload_at, version_at}
use Rattle.sat_model.specs.World.{WorldState}

-- a label with the values of its write
abbrev pub valued : List Entry → Label → Payload
valued h l = payload_at l (values_of h l)

-- a version of item x with the value of its write for it
abbrev pub valued_version : List Entry → ℕ → Option Label → Option Version
valued_version h x o = elim o [ None ↦ None | Some l ↦ Some (version_at l (value_of h l x)) ]

-- the gears and the sink of site i
pub record SinkAgrees (d : Deployed) (h : List Entry) (i : ℕ) (s : SiteState) : Type 0 where
  pub promises : (g : ℕ) → (s.gears g).promise ≡ promise h i g
  pub fresh : (g : ℕ) → made h i g ≡ made (gathered h i) i g ++ (s.gears g).fresh
  pub lanes : (g j : ℕ) → (s.gears g).lanes j ≡ map (valued h) (lane d h i g j)
  pub gathered_promises : (g : ℕ) → s.sink.promises g ≡ promise (gathered h i) i g
  pub pending : rows s.sink.pending d.gears ≡ pending d h i
  pub counts : (g j : ℕ) → s.sink.counts g j ≡ length (lane d (gathered h i) i g j)
  pub last : s.sink.last ≡ last_sent h i
  pub pulse : s.sink.pulse ≡ last_pulse h i
  pub stable : stable_of d s ≡ stable d h i
  pub ready : ready_of d s ≡ ready d h i
  pub cut : cut_of d i s ≡ cut d h i

-- the epochs of site j, and what it has of other sites
pub record ViewAgrees (d : Deployed) (h : List Entry) (j : ℕ) (s : SiteState) : Type 0 where
  pub view : s.views.view ≡ view h j
  pub emission : s.views.emission ≡ emission h j
  pub fallen : s.views.fallen ≡ fallen h j
  pub closes : (epoch : ℕ) → s.views.closes epoch ≡ close_cut h j epoch
  pub heard : (i epoch : ℕ) → s.views.heard i epoch ≡ took_close h j i epoch
  pub mode : mode_of d s ≡ in_stamp_mode d h j
  pub fronts : (i g : ℕ) → front_of s i g ≡ lane_front d h i g j
  pub pool : s.proxy.pool ≡ map (valued h) (waiting h j)
  pub waiting : waiting_of s ≡ waiting h j
  pub best : (i : ℕ) → best_of d s i ≡ best d h j i
  pub last : (i : ℕ) → s.proxy.last i ≡ last d h j i
  pub versions : (x : ℕ) → s.store x ≡ valued_version h x (version h j x)
  pub beats : (k : ℕ) → s.made_beats k ≡ beats d h j k

-- a client
pub record ClientAgrees (d : Deployed) (h : List Entry) (c : ℕ) (w : WorldState) : Type 0 where
  pub point : (w.clients c).carried.point ≡ carried h c
  pub moving : (w.clients c).carried.moving ≡ moving h c
  pub seat : (w.clients c).seat ≡ seat d h c

-- each part of a world is the history's
pub record PartsAgree (d : Deployed) (h : List Entry) (w : WorldState) : Type 0 where
  pub sinks : (i : ℕ) → SinkAgrees d h i (w.sites i)
  pub views : (j : ℕ) → ViewAgrees d h j (w.sites j)
  pub links : (epoch : ℕ) (tree : TreeShape) (u v : NodeId) → tree_of d epoch ≡ Some tree →
      w.links epoch u v ≡ drop (taken d h epoch u v) (entered d h epoch tree u v)
  pub dead : (epoch z : ℕ) → w.dead epoch z ≡ killed h epoch z
  pub clients : (c : ℕ) → ClientAgrees d h c w
