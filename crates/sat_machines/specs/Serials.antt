-- What a serializer means as a machine: its state is whether it was killed.
use Rattle.std.specs.Prelude.{ℕ, ◌≡◌, ◌<◌, ◌&&◌, Bool, true, false, nat_lt, List, length, slice_get, Option, Some, None}
use Rattle.std.specs.Prelude.{if◌then◌else◌}
use Rattle.sat_label.specs.declared.label.Label.{Label}
use Rattle.sat_label.specs.declared.label.Kind.{Kind}
use Rattle.sat_label.specs.declared.label.Kind.TheVariants as kind
use Rattle.sat_label.specs.declared.node.NodeId.{NodeId}
use Rattle.sat_label.specs.declared.node.NodeId.TheVariants.{Site, Serializer}
use Rattle.sat_label.specs.declared.node.NodeName.{NodeName}
use Rattle.sat_label.specs.declared.node.NodeName.TheVariants as named
use Rattle.sat_label.specs.Grouped.{list_of}
use Rattle.sat_label.specs.Order.{node_eq}
use Rattle.sat_label.specs.Words.{has}
use Rattle.sat_sites.specs.Interested.{Interested, are_below}
use Rattle.sat_tree.specs.Shape.{TreeShape}
use Rattle.sat_tree.specs.Cut.{is_edge, neighbours}
use Rattle.sat_act.specs.declared.answer.Answer.{Answer}
use Rattle.sat_act.specs.declared.answer.Answer.TheVariants as ans
use Rattle.sat_act.specs.declared.answer.Refusal.TheVariants as why
use Rattle.sat_act.specs.Answers.{refused_if}
use Rattle.sat_act.specs.Deployed.{Deployed}
use Rattle.sat_act.specs.Limits.{IsDeployment}
use Rattle.sat_act.specs.Parts.{tree_of}
use Rattle.sat_model.specs.Interests.{interest_of}
use Rattle.sat_model.specs.World.{hop_by}
use Rattle.sat_serial.specs.Outboxes.{SerializerSeen}
use Rattle.sat_serial.specs.Routes.{leads, Arrives}
use Rattle.sat_node.specs.declared.kept.Body.{Body}
use Rattle.sat_node.specs.declared.kept.Body.TheVariants as body
use Rattle.sat_node.specs.declared.kept.Made.{Made}
use Rattle.sat_node.specs.declared.kept.Made.TheVariants as made
use Rattle.sat_node.specs.Meanings.{Meaning}
use Rattle.sat_machines.specs.declared.serial_act.SerialAct.{SerialAct}
use Rattle.sat_machines.specs.declared.serial_act.SerialAct.TheVariants as given
use Rattle.sat_machines.specs.declared.serial_act.SerialAnswer.{SerialAnswer}
use Rattle.sat_machines.specs.Layout.{out_places, in_places}

-- a serializer and the epoch of its tree
pub record SerialSeen : Type 0 where
  pub epoch : ℕ
  pub serial : SerializerSeen

-- the serializer of this name, of N's tree, was killed or not
pub record StandsAt (d : Deployed) (e z : ℕ) (x : SerialSeen) (dead : Bool) : Type 0 where
  pub epoch : x.epoch ≡ e
  pub number : x.serial.number ≡ z
  pub tree : tree_of d e ≡ Some x.serial.tree
  pub killed : x.serial.killed ≡ dead

abbrev pub SerialStands : Deployed → NodeName → SerialSeen → Bool → Type 0
SerialStands d (named.Site i) x dead = ⊥
SerialStands d (named.Serializer e z) x dead = StandsAt d e z x dead
SerialStands d (named.Gear i g) x dead = ⊥

-- what the machine keeps beside its serializer
pub record IsSerial (d : Deployed) (epoch number : ℕ) (serial : SerializerSeen) (tree : TreeShape)
    (a : Interested) : Type 0 where
  pub deployment : IsDeployment d
  pub tree_is : tree ≡ serial.tree
  pub number_is : number ≡ serial.number
  pub interest : a ≡ interest_of d
  pub of : tree_of d epoch ≡ Some serial.tree
  pub inner : serial.number < length serial.tree.parents

-- ---- which labels fit

abbrev pub is_node : TreeShape → NodeId → Bool
is_node t (Site i) = nat_lt i (length t.seats)
is_node t (Serializer z) = nat_lt z (length t.parents)

abbrev pub is_kind_of : Interested → Kind → Bool
is_kind_of a (kind.Update items) = are_below (length a.replicas) (list_of items)
is_kind_of a (kind.Move j) = nat_lt j a.sites
is_kind_of a _ = true

abbrev pub is_label_of : Interested → Label → Bool
is_label_of a l = nat_lt l.point.site a.sites && is_kind_of a l.kind

-- a label of the interest that came over an edge beyond which a target lies
unfoldable pub arrives : Interested → TreeShape → ℕ → NodeId → Label → Bool
arrives a t z u l = (is_node t u && is_edge t u (Serializer z)) && (is_label_of a l && leads a t u (Serializer z) l)

-- a kill always fits
abbrev pub serial_takes_in : Deployed → SerialSeen → SerialAct → Bool
serial_takes_in d x (given.Hop u l) = arrives (interest_of d) x.serial.tree x.serial.number u l
serial_takes_in d x given.Kill = true

abbrev pub SerialFits : Deployed → ℕ → ℕ → SerialAct → Type 0
SerialFits d e z (given.Hop u l) = (t : TreeShape) × (tree_of d e ≡ Some t) × Arrives (interest_of d) t z u l
SerialFits d e z given.Kill = Unit {0}

-- ---- answers

abbrev pub serial_answer : Deployed → TreeShape → ℕ → Bool → SerialAct → Answer
serial_answer d t z dead (given.Hop u l) = refused_if dead why.Dead (hop_by d t u z (Some l))
serial_answer d t z dead given.Kill = refused_if dead why.Already ans.Killed

-- by what the serializer is
abbrev pub answer_in : Deployed → SerializerSeen → SerialAct → Answer
answer_in d s act = serial_answer d s.tree s.number s.killed act

-- the answer of the model's serializer, with its neighbours
pub record SerialAnswers (d : Deployed) (e z : ℕ) (dead : Bool) (act : SerialAct) (a : SerialAnswer) : Type 0 where
  pub tree : TreeShape
  pub is_tree : tree_of d e ≡ Some tree
  pub answer : a.answer ≡ serial_answer d tree z dead act
  pub ends : a.ends ≡ neighbours tree z

abbrev pub dead_after : Bool → Answer → Bool
dead_after dead ans.Killed = true
dead_after dead _ = dead

-- ---- what entries put on links and take from them

abbrev pub goes_to : Option NodeId → Label → List NodeId → Option Made
goes_to None l to = None
goes_to (Some v) l to = if has node_eq to v then Some (made.Label l) else None

abbrev pub hopped_to : Option NodeId → Answer → Option Made
hopped_to v (ans.Hopped l to) = goes_to v l to
hopped_to v _ = None

-- on the link to the neighbour of this number
abbrev pub serial_puts : ℕ → SerialAnswer → Option Made
serial_puts k a = hopped_to (slice_get a.ends k) a.answer

abbrev pub came_over : Option NodeId → NodeId → Label → Option Body
came_over None u l = None
came_over (Some v) u l = if node_eq v u then Some (body.Label l) else None

-- a hop takes its label from the link from its neighbour, unless the serializer is dead
abbrev pub hop_takes : Option NodeId → NodeId → Answer → Option Body
hop_takes v u (ans.Hopped l to) = came_over v u l
hop_takes v u _ = None

abbrev pub serial_takes : ℕ → SerialAct → SerialAnswer → Option Body
serial_takes k (given.Hop u l) a = hop_takes (slice_get a.ends k) u a.answer
serial_takes k given.Kill a = None

-- ---- all of it

abbrev pub epoch_in : NodeName → ℕ
epoch_in (named.Site i) = 0
epoch_in (named.Serializer e z) = e
epoch_in (named.Gear i g) = 0

abbrev pub serial_in : NodeName → ℕ
serial_in (named.Site i) = 0
serial_in (named.Serializer e z) = z
serial_in (named.Gear i g) = 0

-- what a serializer is as a node: its state is whether it is dead
abbrev pub serial_meaning : Deployed → Meaning Bool SerialAct SerialAnswer
serial_meaning d = record {
  fresh = λ name. false;
  fits = λ name dead act. SerialFits d (epoch_in name) (serial_in name) act;
  answers = λ name dead act a. SerialAnswers d (epoch_in name) (serial_in name) dead act a;
  after = λ name dead act a. dead_after dead a.answer;
  puts = λ name k act a. serial_puts k a;
  takes = λ name k act a. serial_takes k act a;
  stands = λ act a. true;
  outs = out_places d;
  ins = in_places d;
}
