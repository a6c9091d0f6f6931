-- A link that a builder made: what was taken from it is what was put there. What travels may be lost, late, doubled and
-- out of order.
use Rattle.std.specs.Prelude.{◌≡◌, ◌≢◌, ℕ, true, List, [], ◌∷◌, ◌++◌, Option, Some, None, slice_get}
use Rattle.sat_label.specs.declared.label.Label.{Label}
use Rattle.sat_node.specs.declared.kept.Body.{Body}
use Rattle.sat_node.specs.declared.kept.Body.TheVariants as body
use Rattle.sat_node.specs.declared.kept.Envelope.{Envelope}
use Rattle.sat_node.specs.Meanings.{Meaning}
use Rattle.sat_node.specs.Puts.{put_by}
use Rattle.sat_node.specs.Links.{HeldSeen, takings, may_pass}
use Rattle.sat_node.specs.Laws.{IsFor}
use Rattle.sat_stitch.specs.Kept.{numbered}
use Rattle.sat_stitch.specs.Fit.{IsHanded}

abbrev pub label_of : Body → Option Label
label_of (body.Label l) = Some l
label_of (body.Payload g n p) = None
label_of (body.Beat n b) = None

-- the labels among envelopes, in order, each under its envelope's number
abbrev pub labels_in : List Envelope → List (ℕ × Label)
labels_in [] = []
labels_in (e ∷ es) = numbered e.lamport (label_of e.body) ++ labels_in es

-- one of these carries the same under a smaller number
pub record IsOneOf (put : List Envelope) (t : Envelope) : Type 0 where
  pub place : ℕ
  pub one : Envelope
  pub there : slice_get put place ≡ Some one
  pub carries : IsFor one t

-- the k-th label that was taken is the k-th that was put; each payload and each beat that was taken was put. All under
-- greater numbers
pub record Delivered (took put : List Envelope) : Type 0 where
  pub labels : IsHanded (labels_in took) (labels_in put)
  pub others : (k : ℕ) (t : Envelope) → slice_get took k ≡ Some t → may_pass t.body ≡ true → IsOneOf put t

-- ---- between nodes. Two ends are those of one link where they have one place

module _ {S T M K I A J B : Type 0} (m : Meaning S I A) (n : Meaning T J B) where
  -- of each link from one node to another: what the receiver's entries took from it, the sender's entries put there
  abbrev pub DeliveredTo : HeldSeen M I A → HeldSeen K J B → Type 0
  DeliveredTo sender receiver =
      (k j place : ℕ) → slice_get (m.outs sender.node.name) k ≡ Some place
      → slice_get (n.ins receiver.node.name) j ≡ Some place
      → Delivered (takings (n.takes receiver.node.name j) receiver.node.entries)
      (put_by (m.puts sender.node.name k) sender.node.entries)

  -- of each link between a node of the first list and one of the second
  abbrev pub DeliveredAll : List (HeldSeen M I A) → List (HeldSeen K J B) → Type 0
  DeliveredAll senders receivers =
      (a b : ℕ) (sender : HeldSeen M I A) (receiver : HeldSeen K J B) → slice_get senders a ≡ Some sender
      → slice_get receivers b ≡ Some receiver → DeliveredTo sender receiver

-- of each link from one of these nodes to another of them
abbrev pub DeliveredWithin : {S M I A : Type 0} → Meaning S I A → List (HeldSeen M I A) → Type 0
DeliveredWithin {S} {M} {I} {A} m nodes =
    (a b : ℕ) (sender receiver : HeldSeen M I A) → a ≢ b → slice_get nodes a ≡ Some sender
    → slice_get nodes b ≡ Some receiver → DeliveredTo m m sender receiver
