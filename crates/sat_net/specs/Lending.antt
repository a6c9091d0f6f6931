-- What a serializer makes of a link that is lent out. Only private calls speak of it.
use Rattle.std.specs.Prelude.{ℕ, ◌≡◌, ◌≤◌, List, length, take, drop}
use Rattle.sat_label.specs.declared.label.Label.{Label}
use Rattle.sat_label.specs.declared.node.NodeId.{NodeId}
use Rattle.sat_sites.specs.Interested.{Interested}
use Rattle.sat_serial.specs.Outboxes.{SerializerSeen, after_handles}
use Rattle.sat_net.specs.Nets.{NetSeen, change_at}

-- serializer z has put copies of labels that came from u, one label after another, into the outboxes of the neighbours
-- that they go on to
abbrev pub all_handled : Interested → NodeId → ℕ → List Label → List SerializerSeen → List SerializerSeen
all_handled a u z ls serializers = change_at (λ s. after_handles s a u ls) z serializers

abbrev pub after_all_copies : NetSeen → Interested → NodeId → ℕ → List Label → NetSeen
after_all_copies n a u z ls = record n { serializers = all_handled a u z ls n.serializers }

-- of these labels from u serializer z has handed on the first k, and the others are left
pub record HandsSome (old : List SerializerSeen) (a : Interested) (u : NodeId) (z : ℕ) (ls : List Label) (k : ℕ)
    (new : List SerializerSeen) (rest : List Label) : Type 0 where
  pub many : k ≤ length ls
  pub after : new ≡ all_handled a u z (take k ls) old
  pub left : rest ≡ drop k ls

-- and so in a net
pub record HandsOver (n : NetSeen) (a : Interested) (u : NodeId) (z : ℕ) (ls : List Label) (k : ℕ) (m : NetSeen)
    (rest : List Label) : Type 0 where
  pub many : k ≤ length ls
  pub after : m ≡ after_all_copies n a u z (take k ls)
  pub left : rest ≡ drop k ls
