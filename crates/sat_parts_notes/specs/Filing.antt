-- Notes in the order of their sessions and of their numbers.
use Rattle.std.specs.Prelude.{◌≡◌, ℕ, ◌+◌, Bool, true, false, ◌&&◌, ◌||◌, ◌==◌, nat_lt, List, [], ◌∷◌, Option, Some}
use Rattle.std.specs.Prelude.{None}
use Rattle.sat_label.specs.Members.{In}
use Rattle.sat_stitch.specs.Places.{Session, Client, Operator}
use Rattle.sat_session.specs.Owned.{Owned}

-- the session of a client, or the operator's
abbrev pub owner_in : Option ℕ → Session
owner_in None = Operator
owner_in (Some c) = Client c

-- the operator's session comes first, then those of clients by number
abbrev pub rank_of : Session → ℕ
rank_of Operator = 0
rank_of (Client c) = c + 1

abbrev pub key_of : Owned → ℕ × ℕ
key_of o = (rank_of o.0, o.1.lamport)

-- the order of notes: the operator's first, then those of clients by number, and those of one session by Lamport number
abbrev pub comes_before : Owned → Owned → Bool
comes_before a b =
    nat_lt (rank_of a.0) (rank_of b.0) || ((rank_of a.0 == rank_of b.0) && nat_lt a.1.lamport b.1.lamport)

-- no note comes before one that stands in front of it
abbrev pub Ascending : List Owned → Type 0
Ascending [] = Unit {0}
Ascending (x ∷ xs) = Ascending xs × ((y : Owned) → In xs y → comes_before y x ≡ false)

-- a session's note under the same number
abbrev pub IsUnderSame : Owned → Owned → Type 0
IsUnderSame a b = (a.0 ≡ b.0) × (a.1.lamport ≡ b.1.lamport)

-- all of these come before a note, and all of these behind it
abbrev pub AllBefore : List Owned → Owned → Type 0
AllBefore xs a = (x : Owned) → In xs x → comes_before x a ≡ true

abbrev pub AllBehind : List Owned → Owned → Type 0
AllBehind xs a = (x : Owned) → In xs x → comes_before a x ≡ true
