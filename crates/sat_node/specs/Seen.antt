-- What contracts see of a node, and what a take does.
use Rattle.std.specs.Prelude.{◌≡◌, ℕ, ◌+◌, ◌-◌, ◌^◌, ◌≤◌, ◌<◌, ◌↔◌, ◌⊎◌, max, Bool, true, List, [], ◌∷◌, ◌++◌, Result}
use Rattle.std.specs.Prelude.{IfOk, IfErr, OnOk, OnErr, IsErrOf}
use Rattle.sat_node.specs.declared.kept.Kept.{Kept}
use Rattle.sat_node.specs.declared.kept.CallFault.{CallFault}
use Rattle.sat_node.specs.declared.kept.CallFault.TheVariants as fault
use Rattle.sat_label.specs.declared.node.NodeName.{NodeName}

-- its name, its machine, its journal, its number, and for how many entries more the journal has room
pub record NodeSeen (M I A : Type 0) : Type 0 where
  pub name : NodeName
  pub machine : M
  pub entries : List (Kept I A)
  pub number : ℕ
  pub room : ℕ

-- the greatest number that there is: no entry can have one above it
abbrev pub last_number : ℕ
last_number = 2 ^ 64 - 1

-- an entry of a journal, under this number
abbrev pub entry : {I A : Type 0} → ℕ → I → A → Kept I A
entry number input answer = record { lamport = number; input = input; answer = answer }

-- nothing but the room differs
abbrev pub SameNode : {M I A : Type 0} → NodeSeen M I A → NodeSeen M I A → Type 0
SameNode old new =
    (new.name ≡ old.name) × (new.machine ≡ old.machine) × (new.entries ≡ old.entries) × (new.number ≡ old.number)

-- an input was taken: one entry more, under one above the node's number and the one heard, with the answer that comes
-- back. Worn comes exactly where one of these two is the greatest number. After an error the node is as before
pub record Takes {M I A : Type 0} (heard : ℕ) (input : I) (may_fail : Bool) (result : Result A CallFault)
    (old new : NodeSeen M I A) : Type 0 where
  pub taken : IfOk result (λ a. new.entries ≡ old.entries ++ entry (max old.number heard + 1) input a ∷ [])
  pub number : OnOk result (new.number ≡ max old.number heard + 1)
  pub name : new.name ≡ old.name
  pub err : OnErr result (SameNode old new × (old.room ≤ new.room))
  pub worn : IsErrOf result (fault.Worn last_number) ↔ (max old.number heard ≡ last_number)
  pub only : IfErr result (λ f. (f ≡ fault.Worn last_number) ⊎ (f ≡ fault.Memory))
  pub memory : IsErrOf result fault.Memory → 0 < old.room → may_fail ≡ true
