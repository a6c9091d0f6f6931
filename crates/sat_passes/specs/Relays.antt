-- What a serializer's pass does.
use Rattle.std.specs.Prelude.{◌≡◌, ◌⊎◌, ℕ, Bool, true, false, List, [], ◌∷◌, ◌++◌, Option, Some, None, slice_get}
use Rattle.sat_label.specs.declared.label.Label.{Label}
use Rattle.sat_label.specs.declared.node.NodeId.{NodeId}
use Rattle.sat_tree.specs.Cut.{neighbours}
use Rattle.sat_act.specs.Deployed.{Deployed}
use Rattle.sat_link.specs.Ends.{rise}
use Rattle.sat_node.specs.declared.kept.Kept.{Kept}
use Rattle.sat_node.specs.declared.kept.Body.{Body}
use Rattle.sat_node.specs.declared.kept.Body.TheVariants as body
use Rattle.sat_node.specs.declared.kept.Envelope.{Envelope}
use Rattle.sat_node.specs.Links.{HeldSeen, InSeen}
use Rattle.sat_machines.specs.declared.serial_act.SerialAct.{SerialAct}
use Rattle.sat_machines.specs.declared.serial_act.SerialAct.TheVariants as given
use Rattle.sat_machines.specs.declared.serial_act.SerialAnswer.{SerialAnswer}
use Rattle.sat_machines.specs.Serials.{SerialSeen, serial_takes_in}
use Rattle.sat_machines.specs.Sites.{some_if}

-- a serializer's node with its link ends
abbrev pub SerialHeld : Type 0
SerialHeld = HeldSeen SerialSeen SerialAct SerialAnswer

-- a label from a neighbour, if there is one, as a hop, if the machine may be handed it
abbrev pub hop_from : Deployed → SerialSeen → Option NodeId → Label → Option SerialAct
hop_from d x None l = None
hop_from d x (Some u) l = some_if (serial_takes_in d x (given.Hop u l)) (given.Hop u l)

-- what came over the link of this number, as a hop. None where it doesn't fit the machine
abbrev pub hop_with : Deployed → SerialSeen → ℕ → Body → Option SerialAct
hop_with d x k (body.Label l) = hop_from d x (slice_get (neighbours x.serial.tree x.serial.number) k) l
hop_with d x k (body.Payload gear number payload) = None
hop_with d x k (body.Beat number beat) = None

-- the same of a front, if there is one
abbrev pub hop_at : Deployed → SerialSeen → ℕ → Option Envelope → Option SerialAct
hop_at d x k None = None
hop_at d x k (Some e) = hop_with d x k e.body

abbrev pub is_hop : SerialAct → Bool
is_hop (given.Hop u l) = true
is_hop given.Kill = false

-- each of these entries is a hop
abbrev pub AreHops : List (Kept SerialAct SerialAnswer) → Type 0
AreHops [] = Unit {0}
AreHops (k ∷ ks) = (is_hop k.input ≡ true) × AreHops ks

-- nothing but the outboxes differs
pub record SameSerial (x y : SerialSeen) : Type 0 where
  pub epoch : y.epoch ≡ x.epoch
  pub tree : y.serial.tree ≡ x.serial.tree
  pub number : y.serial.number ≡ x.serial.number
  pub killed : y.serial.killed ≡ x.serial.killed

-- the node kept some hops more, or none
pub record Hops (old new : SerialHeld) : Type 0 where
  pub name : new.node.name ≡ old.node.name
  pub serial : SameSerial old.node.machine new.node.machine
  pub added : (more : List (Kept SerialAct SerialAnswer)) × (new.node.entries ≡ old.node.entries ++ more) × AreHops more

-- the link was not found empty
abbrev pub SameEmpties : InSeen → InSeen → Type 0
SameEmpties old new = new.link.empties ≡ old.link.empties

-- the link was found empty and no front is kept, or a front is kept that doesn't fit the machine
abbrev pub IsDrained : Deployed → SerialSeen → ℕ → InSeen → InSeen → Type 0
IsDrained d x k old new =
    ((new.front ≡ None) × (new.link.empties ≡ rise old.link.empties))
    ⊎ ((e : Envelope) × (new.front ≡ Some e) × (hop_with d x k e.body ≡ None))
