-- The greatest point of each item that a reader's past is known to have.
use Rattle.std.specs.Prelude.{◌≡◌, ◌<◌, ◌≤◌, ◌-◌, ◌==◌, not, ℕ, Bool, true, false, List, length, get_or, Option, Some}
use Rattle.std.specs.Prelude.{None, if◌then◌else◌}
use Rattle.sat_label.specs.declared.point.Point.{Point}
use Rattle.sat_label.specs.Order.{point_le, zero_point}
use Rattle.sat_label.specs.Words.{has}
use Rattle.sat_verdict.specs.declared.tale.Tale.{Tale}
use Rattle.sat_verdict.specs.declared.tale.Tale.TheVariants.{Other}
use Rattle.sat_verdict.specs.declared.greatest.Noted.{Noted}
use Rattle.sat_verdict.specs.Entries.{added_in, client_of}
use Rattle.sat_verdict.specs.Passes.{item_of, passes, table_fresh}
use Rattle.sat_verdict.specs.Walks.{IsOwn}

abbrev pub nothing_noted : Noted
nothing_noted = record { reader = 0; point = zero_point }

abbrev pub noted_for : ℕ → Noted → Option Point
noted_for reader last = if last.reader == reader then Some last.point else None

-- the point that was noted for a reader under an item
abbrev pub greatest_of : List Noted → ℕ → ℕ → Option Point
greatest_of noted reader x = noted_for reader (get_or noted x nothing_noted)

-- whether a point is there, and at least as great
abbrev pub reaches : Option Point → Point → Bool
reaches None p = false
reaches (Some q) p = point_le p q

abbrev pub is_reached : List Noted → ℕ → ℕ → Point → Bool
is_reached noted reader x p = reaches (greatest_of noted reader x) p

-- what is noted for a reader only rises
abbrev pub Rises : ℕ → List Noted → List Noted → Type 0
Rises reader old new = (x : ℕ) (p : Point) → is_reached old reader x p ≡ true → is_reached new reader x p ≡ true

-- a point is noted under each of some items
abbrev pub AreNoted : List Noted → ℕ → List ℕ → Point → Type 0
AreNoted noted reader xs p = (x : ℕ) → has ◌==◌ xs x ≡ true → is_reached noted reader x p ≡ true

-- what an entry wrote or read is noted under each item of its maker, the entry with this number
abbrev pub Absorbs : List Tale → List Noted → ℕ → ℕ → Tale → Type 0
Absorbs tales noted reader number e =
    (p : Point) (x : ℕ) → added_in e ≡ Some p → 0 < number → item_of x (get_or tales (number - 1) Other) ≡ true
    → is_reached noted reader x p ≡ true

-- so are all entries of client c from a place up to another
abbrev pub AreAbsorbed : List Tale → List ℕ → List Noted → ℕ → ℕ → ℕ → ℕ → Type 0
AreAbsorbed tales numbers noted reader c from to =
    (j : ℕ) → from ≤ j → j < to → client_of (get_or tales j Other) ≡ Some c
    → Absorbs tales noted reader (get_or numbers j 0) (get_or tales j Other)

-- for each client, a place of its own below which all is noted for a reader
pub record AreRead (tales : List Tale) (numbers : List ℕ) (noted : List Noted) (reader : ℕ)
    (places : List ℕ) : Type 0 where
  pub own : (c : ℕ) → c < length places → IsOwn tales c (get_or places c 0)
  pub absorbed : (c : ℕ) → c < length places → AreAbsorbed tales numbers noted reader c 0 (get_or places c 0)

-- whether no point is above what was read; where nothing was, whether there is no point
abbrev pub is_none_above : Option Point → Option Point → Bool
is_none_above None read = true
is_none_above (Some q) read = not (passes read q)

-- the marked entries missed nothing
abbrev pub AreFresh : List Tale → List ℕ → List (List ℕ) → List Bool → Type 0
AreFresh tales numbers rows fresh =
    (i : ℕ) → get_or fresh i false ≡ true → table_fresh tales numbers rows i (get_or tales i Other) ≡ None
