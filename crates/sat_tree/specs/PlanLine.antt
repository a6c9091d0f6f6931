-- The line of a script that plans a tree.
use Rattle.std.specs.Prelude.{ℕ, List, [], ◌∷◌, ◌++◌, map, Option, Some, None, codes}
use Rattle.std.specs.Fmt.{decimal}
use Rattle.sat_tree.specs.Shape.{TreeShape}

-- words with a blank before each
abbrev pub spaced : List (List ℕ) → List ℕ
spaced [] = []
spaced (word ∷ words) = 32 ∷ (word ++ spaced words)

-- the serializer that one hangs on, `-` for the root
abbrev pub parent_text : Option ℕ → List ℕ
parent_text None = codes "-"
parent_text (Some p) = decimal p

-- the words `plan tree PARENTS / SEATS`
abbrev pub tree_words : TreeShape → List (List ℕ)
tree_words t = codes "plan" ∷ codes "tree" ∷ (map parent_text t.parents ++ codes "/" ∷ map decimal t.seats)

-- the same as a line: `plan tree PARENTS / SEATS` and a newline
unfoldable pub tree_line : TreeShape → List ℕ
tree_line t =
    codes "plan tree"
    ++ (spaced (map parent_text t.parents) ++ (codes " /" ++ (spaced (map decimal t.seats) ++ 10 ∷ [])))
