-- What a comparison of notes found.
use Rattle.std.specs.Prelude.{◌≡◌, List, Option, Some, None}
use Rattle.sat_session.specs.Owned.{Owned}
use Rattle.sat_session.specs.Sessions.{SameNotes}
use Rattle.sat_parts_notes.specs.declared.compare.Difference.{Difference}
use Rattle.sat_parts_notes.specs.Differences.{IsDifference}

-- nothing where nodes and sessions kept the same, and else a difference
abbrev pub IsCompared : List Owned → List Owned → Option Difference → Type 0
IsCompared nodes sessions None = SameNotes nodes sessions
IsCompared nodes sessions (Some f) = IsDifference nodes sessions f.node f.session

-- these two notes, which are not the same
pub record IsPair (a b : Owned) (f : Difference) : Type 0 where
  pub node_is : f.node ≡ Some a.1
  pub session_is : f.session ≡ Some b.1
  pub apart : a.1 ≡ b.1 → ⊥
