-- What a node was handed, by its journal and the slips of its messages.
use Rattle.std.specs.Prelude.{ℕ, List, [], ◌∷◌, Some, None}
use Rattle.std.specs.declared.option.Option.{Option}
use Rattle.sat_node.specs.declared.kept.Kept.{Kept}
use Rattle.sat_node.specs.declared.kept.Body.{Body}
use Rattle.sat_node.specs.Puts.{envelope}
use Rattle.sat_message.specs.declared.message.Slip.{Slip}
use Rattle.sat_handed.specs.declared.handed.Handed.{Handed}
use Rattle.sat_handed.specs.declared.handed.Handed.TheVariants as given

-- a message by its slip and what was taken
abbrev pub came_by : Slip → Body → Handed
came_by s b = given.Came s.link (record { number = s.number; sent = envelope s.lamport b })

-- what an entry was handed: itself, or the next message, which takes a slip
abbrev pub told_next : Option Handed → Option Body → List Slip → (List Slip → List Handed) → List Handed
told_next (Some h) b ss rest = h ∷ rest ss
told_next None None ss rest = rest ss
told_next None (Some b) [] rest = rest []
told_next None (Some b) (s ∷ ss) rest = came_by s b ∷ rest ss

-- each entry was handed something, and each slip is of one message
abbrev pub fed_next : Option Handed → Option Body → List Slip → (List Slip → Type 0) → Type 0
fed_next (Some h) b ss rest = rest ss
fed_next None None ss rest = ⊥
fed_next None (Some b) [] rest = ⊥
fed_next None (Some b) (s ∷ ss) rest = rest ss

module _ {I A : Type 0} (asked : ℕ → I → Option Handed) (took : I → Option Body) where
  -- what these entries were handed, in order, with these slips
  abbrev pub told : List (Kept I A) → List Slip → List Handed
  told [] ss = []
  told (k ∷ ks) ss = told_next (asked k.lamport k.input) (took k.input) ss (told ks)

  -- there are as many slips as messages
  abbrev pub IsFed : List (Kept I A) → List Slip → Type 0
  IsFed [] [] = Unit {0}
  IsFed [] (s ∷ ss) = ⊥
  IsFed (k ∷ ks) ss = fed_next (asked k.lamport k.input) (took k.input) ss (IsFed ks)
