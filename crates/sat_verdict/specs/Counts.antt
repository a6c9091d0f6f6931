-- One count a client: of each client, how far its entries are known.
use Rattle.std.specs.Prelude.{◌≡◌, ◌⊎◌, ◌<◌, ℕ, suc, Bool, ◌==◌, max, List, [], ◌∷◌, length, Some, if◌then◌else◌}
use Rattle.sat_label.specs.declared.point.Point.{Point}
use Rattle.sat_verdict.specs.declared.tale.Tale.{Tale}
use Rattle.sat_verdict.specs.declared.tale.Tale.TheVariants.{Wrote, Moved, ReadSome}
use Rattle.sat_verdict.specs.Entries.{added_in, client_of, is_of, makes}
use Rattle.sat_verdict.specs.Causes.{Who, Client, Maker}

-- what the maker of the point knew that an entry read
abbrev pub read_count : Tale → (Point → ℕ) → ℕ
read_count (ReadSome c x p) knew = knew p
read_count _ knew = 0

-- the client of an entry that made a point
abbrev pub maker_of : Tale → ℕ
maker_of (Wrote c xs b) = c
maker_of (Moved c b) = c
maker_of _ = 0

-- a client's count after n entries and one more: of its own entries all, else the greater of what it knew and what it
-- reads
abbrev pub next_count : Bool → Bool → ℕ → ℕ → ℕ → ℕ
next_count own mine n old new = if own then suc n else if mine then max old new else old

-- how many entries are known, counting those of all clients, when only those of client d are asked for
unfoldable pub known : List Tale → Who → ℕ → ℕ
known [] who d = 0
known (e ∷ h) (Client c) d =
    next_count (d == c) (is_of e c) (length h) (known h (Client c) d) (read_count e (λ p. known h (Maker p) d))
known (e ∷ h) (Maker b) d =
    if makes e b then max (known h (Maker b) d) (known h (Client (maker_of e)) d) else known h (Maker b) d

-- an entry at place n wrote or read the point, and lies below its client's count
abbrev pub AddedWithin : Tale → ℕ → (ℕ → ℕ) → Point → Type 0
AddedWithin e n count a = (d : ℕ) × (added_in e ≡ Some a) × (client_of e ≡ Some d) × (n < count d)

-- some entry below its client's count wrote or read the point
unfoldable pub Within : List Tale → (ℕ → ℕ) → Point → Type 0
Within [] count a = ⊥
Within (e ∷ h) count a = Within h count a ⊎ AddedWithin e (length h) count a
