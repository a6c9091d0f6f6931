-- Where what nodes kept of the acts of sessions, and what the sessions kept of acts at nodes, differ.
use Rattle.std.specs.Prelude.{◌≡◌, ℕ, List, Option, Some, None}
use Rattle.sat_label.specs.Members.{In}
use Rattle.sat_stitch.specs.Places.{Session}
use Rattle.sat_session.specs.declared.noted.Noted.{Noted}
use Rattle.sat_session.specs.Owned.{Owned}

-- what was kept of a session's act under a number: one of these notes, or none
abbrev pub IsKeptUnder : List Owned → Session → ℕ → Option Noted → Type 0
IsKeptUnder xs s number None = (n : Noted) → In xs (s, n) → n.lamport ≡ number → ⊥
IsKeptUnder xs s number (Some n) = In xs (s, n) × (n.lamport ≡ number)

-- for one session and one number, these are what nodes kept and what the session kept, and they are not the same. Where
-- nodes kept two notes there, the one is told that the session did not keep
pub record IsDifference (nodes sessions : List Owned) (node session : Option Noted) : Type 0 where
  pub owner : Session
  pub number : ℕ
  pub at_nodes : IsKeptUnder nodes owner number node
  pub at_session : IsKeptUnder sessions owner number session
  pub apart : node ≡ session → ⊥
