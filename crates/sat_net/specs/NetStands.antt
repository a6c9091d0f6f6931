-- The links and the killed serializers of a history's epoch that a net stands for.
use Rattle.std.specs.Prelude.{ℕ, ◌≡◌, ◌<◌, Bool, true, List, length, Option, Some}
use Rattle.sat_label.specs.declared.label.Label.{Label}
use Rattle.sat_label.specs.declared.node.NodeId.{NodeId}
use Rattle.sat_tree.specs.Cut.{is_edge, IsNode}
use Rattle.sat_act.specs.Deployed.{Deployed}
use Rattle.sat_act.specs.Limits.{IsDeployment}
use Rattle.sat_act.specs.Parts.{Handling, tree_of}
use Rattle.sat_model.specs.World.{link_next}
use Rattle.sat_net.specs.Nets.{NetSeen, IsNet, link_of, is_dead}

-- a net of the tree that the deployment has for an epoch
pub record IsNetOf (d : Deployed) (epoch : ℕ) (n : NetSeen) : Type 0 where
  pub deployment : IsDeployment d
  pub tree : tree_of d epoch ≡ Some n.tree
  pub net : IsNet n

-- on each edge of the tree, either way, stands what these links have, and its serializers are dead where these are
pub record StandsNet (n : NetSeen) (links : NodeId → NodeId → List Label) (dead : ℕ → Bool) : Type 0 where
  pub each : (u v : NodeId) → IsNode n.tree u → IsNode n.tree v → is_edge n.tree u v ≡ true → link_of n u v ≡ links u v
  pub killed : (z : ℕ) → z < length n.tree.parents → is_dead n z ≡ dead z

-- a label that a node sent, hopped or took in an epoch, and the neighbour that it came from
abbrev pub handled_at : ℕ → NodeId → Option NodeId → Label → Handling
handled_at epoch u o l = record { epoch = epoch; node = u; from = o; label = l }

-- the links of an epoch after a label was handled, or none was
abbrev pub links_next : Deployed → Option Handling → ℕ → (NodeId → NodeId → List Label) → NodeId → NodeId → List Label
links_next d o epoch links u v = link_next d o epoch u v (links u v)
