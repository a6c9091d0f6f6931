-- What stands around an answer, and further nodes and items.
use Rattle.std.specs.Prelude.{ℕ, ◌+◌, ◌-◌, ◌^◌, min, List, [], ◌∷◌, ◌++◌, Option, None, Some, if◌then◌else◌}
use Rattle.std.specs.Fmt.{decimal}
use Rattle.sat_label.specs.declared.node.NodeId.{NodeId}
use Rattle.sat_label.specs.Text.{node_text}
use Rattle.sat_act.specs.Deployed.{Deployed}
use Rattle.sat_report.specs.Texts.{item_name, is_kept}

-- the digits of a line's number, where it has one
unfoldable pub digits_of : Option ℕ → List ℕ
digits_of None = []
digits_of (Some n) = decimal n

-- the number of the next line; behind the greatest of 64 bits there is none
unfoldable pub next_front : Option ℕ → Option ℕ
next_front None = None
next_front (Some n) = Some (min (n + 1) (2 ^ 64 - 1))

-- before the answer in a line with a number; nothing where it stands by itself
unfoldable pub front_text : Option ℕ → List ℕ
front_text None = []
front_text (Some n) = decimal n ++ 32 ∷ []

-- behind it
unfoldable pub end_text : Option ℕ → List ℕ
end_text None = []
end_text (Some n) = 10 ∷ []

abbrev pub framed : Option ℕ → List ℕ → List ℕ
framed number text = front_text number ++ (text ++ end_text number)

-- a comma before each
abbrev pub commas : List NodeId → List ℕ
commas [] = []
commas (n ∷ ns) = 44 ∷ (node_text n ++ commas ns)

-- a comma and an item's name, if site j keeps it
abbrev pub next_name : Deployed → ℕ → ℕ → List ℕ
next_name d j x = if is_kept d j x then 44 ∷ item_name d x else []

-- each of some items so, before a text
abbrev pub next_names : Deployed → ℕ → List ℕ → List ℕ → List ℕ
next_names d j [] text = text
next_names d j (x ∷ xs) text = next_name d j x ++ next_names d j xs text
