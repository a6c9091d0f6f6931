-- What a machine means: the model's state that it stands for, and what its entries put on links and take from them.
use Rattle.std.specs.Prelude.{ℕ, ◌<◌, Bool, List, [], ◌∷◌, Option}
use Rattle.sat_label.specs.declared.node.NodeName.{NodeName}
use Rattle.sat_node.specs.declared.kept.Kept.{Kept}
use Rattle.sat_node.specs.declared.kept.Made.{Made}
use Rattle.sat_node.specs.declared.kept.Body.{Body}

-- S is what the model keeps of such a machine. Each meaning knows the node's name, and those of an entry its input and
-- its answer
pub record Meaning (S I A : Type 0) : Type 1 where
  -- a new machine's state
  pub fresh : NodeName → S
  -- which inputs fit a state
  pub fits : NodeName → S → I → Type 0
  -- which answer an input has in a state
  pub answers : NodeName → S → I → A → Type 0
  -- the state after an input and its answer
  pub after : NodeName → S → I → A → S
  -- what an entry puts on the outgoing link of this number, one thing at most
  pub puts : NodeName → ℕ → I → A → Option Made
  -- what an entry takes from the incoming link of this number, one thing at most
  pub takes : NodeName → ℕ → I → A → Option Body
  -- whether an entry stands: none does whose answer speaks of what other nodes have done
  pub stands : I → A → Bool
  -- the places of the outgoing links in the list of wires, in their order, and of the incoming ones
  pub outs : NodeName → List ℕ
  pub ins : NodeName → List ℕ

module _ {S I A : Type 0} (m : Meaning S I A) (name : NodeName) where
  -- the state after these entries, from a state on
  abbrev pub state_from : S → List (Kept I A) → S
  state_from s [] = s
  state_from s (k ∷ ks) = state_from (m.after name s k.input k.answer) ks

  -- the state after all entries of a journal
  abbrev pub replay : List (Kept I A) → S
  replay ks = state_from (m.fresh name) ks

  -- each input fitted the state that it met, and has its answer
  abbrev pub RunsFrom : S → List (Kept I A) → Type 0
  RunsFrom s [] = Unit {0}
  RunsFrom s (k ∷ ks) =
      m.fits name s k.input × m.answers name s k.input k.answer × RunsFrom (m.after name s k.input k.answer) ks

  -- each entry of a node's journal has the answer that its state gives, from the fresh state on
  abbrev pub Runs : List (Kept I A) → Type 0
  Runs ks = RunsFrom (m.fresh name) ks

-- the number of the last entry, and n where there is none
abbrev pub last_of : {I A : Type 0} → ℕ → List (Kept I A) → ℕ
last_of n [] = n
last_of n (k ∷ ks) = last_of k.lamport ks

-- the numbers rise, from one above n on
abbrev pub Rises : {I A : Type 0} → ℕ → List (Kept I A) → Type 0
Rises n [] = Unit {0}
Rises n (k ∷ ks) = (n < k.lamport) × Rises k.lamport ks
