-- What opened nodes agree on.
use Rattle.std.specs.Prelude.{◌≡◌, ◌≢◌, ℕ, List, Some, slice_get}
use Rattle.sat_node.specs.Meanings.{Meaning}
use Rattle.sat_node.specs.Puts.{OutSeen, put_by}
use Rattle.sat_node.specs.Links.{InSeen, HeldSeen, takings, Handed}

module _ {S T M K I A J B : Type 0} (m : Meaning S I A) (n : Meaning T J B) where
  -- if these two ends have one place, what the receiver's entries took there is of the first of what the sender's
  -- entries put there
  unfoldable pub AgreeEnds : HeldSeen M I A → ℕ → HeldSeen K J B → ℕ → Type 0
  AgreeEnds sender k receiver j =
      (o : OutSeen) (i : InSeen) → slice_get sender.outs k ≡ Some o → slice_get receiver.ins j ≡ Some i
      → o.place ≡ i.place
      → Handed (takings (n.takes receiver.node.name j) receiver.node.entries)
      (put_by (m.puts sender.node.name k) sender.node.entries)

  unfoldable pub AgreeOut : HeldSeen M I A → ℕ → HeldSeen K J B → Type 0
  AgreeOut sender k receiver = (j : ℕ) → AgreeEnds sender k receiver j

  -- of each link from the first node to the second
  unfoldable pub AgreeNodes : HeldSeen M I A → HeldSeen K J B → Type 0
  AgreeNodes sender receiver = (k : ℕ) → AgreeOut sender k receiver

  unfoldable pub AgreeRow : HeldSeen M I A → List (HeldSeen K J B) → Type 0
  AgreeRow sender receivers =
      (b : ℕ) (receiver : HeldSeen K J B) → slice_get receivers b ≡ Some receiver → AgreeNodes sender receiver

  -- of each link between a node of the first list and one of the second
  unfoldable pub AgreeAll : List (HeldSeen M I A) → List (HeldSeen K J B) → Type 0
  AgreeAll senders receivers =
      (a : ℕ) (sender : HeldSeen M I A) → slice_get senders a ≡ Some sender → AgreeRow sender receivers

module _ {S M I A : Type 0} (m : Meaning S I A) where
  -- of each link from one of these nodes to another of them
  unfoldable pub AgreeWithin : List (HeldSeen M I A) → Type 0
  AgreeWithin nodes =
      (a b : ℕ) (sender receiver : HeldSeen M I A) → a ≢ b → slice_get nodes a ≡ Some sender
      → slice_get nodes b ≡ Some receiver → AgreeNodes m m sender receiver
