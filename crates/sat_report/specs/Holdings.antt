-- What each site holds in the end.
use Rattle.std.specs.Prelude.{ℕ, zero, suc, Bool, List, [], ◌∷◌, ◌++◌, length, Some, None, if◌then◌else◌, codes}
use Rattle.std.specs.Fmt.{decimal}
use Rattle.sat_act.specs.declared.entry.Entry.{Entry}
use Rattle.sat_act.specs.Deployed.{Deployed}
use Rattle.sat_act.specs.Parts.{view, emission, in_stamp_mode, waiting, version, values_of, value_of, replicates}
use Rattle.sat_report.specs.Texts.{label_text, item_name}
use Rattle.sat_report.specs.Answers.{answers}

abbrev pub mode_word : Bool → List ℕ
mode_word stamp = if stamp then codes "stamp" else codes "tree"

-- `site I view V emission E MODE waiting W`
abbrev pub site_text : ℕ → ℕ → ℕ → Bool → ℕ → List ℕ
site_text i view emission stamp waiting =
    codes "site " ++ (decimal i ++ (codes " view " ++ (decimal view ++ (codes " emission " ++ (decimal emission
    ++ 32 ∷ (mode_word stamp ++ (codes " waiting " ++ (decimal waiting ++ 10 ∷ []))))))))

-- as the history says of a site
unfoldable pub site_line : Deployed → List Entry → ℕ → List ℕ
unfolding view emission in_stamp_mode waiting
site_line d h i = site_text i (view h i) (emission h i) (in_stamp_mode d h i) (length (waiting h i))

-- a version of an item and its value for it, or `none`
unfoldable pub held_text : List Entry → ℕ → ℕ → List ℕ
unfolding version values_of
held_text h i x = elim (version h i x) [ None ↦ codes "none" | Some l ↦ label_text l ++ 32 ∷ value_of h l x ]

-- the line of an item at a site that keeps it
unfoldable pub item_line : Deployed → List Entry → ℕ → ℕ → List ℕ
unfolding replicates item_name held_text
item_line d h i x =
    if replicates d x i then codes "item " ++ (item_name d x ++ 32 ∷ (held_text h i x ++ 10 ∷ [])) else []

-- those of the first n items
unfoldable pub item_lines : Deployed → List Entry → ℕ → ℕ → List ℕ
unfolding item_line
item_lines d h i zero = []
item_lines d h i (suc n) = item_lines d h i n ++ item_line d h i n

-- the first n sites, each with its items
unfoldable pub site_lines : Deployed → List Entry → ℕ → List ℕ
unfolding site_line item_lines
site_lines d h zero = []
site_lines d h (suc n) = site_lines d h n ++ (site_line d h n ++ item_lines d h n (length d.items))

-- the end of a report: what each site holds, and the line `done`
unfoldable pub holdings : Deployed → List Entry → List ℕ
unfolding site_lines
holdings d h = codes "holdings" ++ 10 ∷ (site_lines d h d.sites ++ (codes "done" ++ 10 ∷ []))

-- the report of a history
unfoldable pub report : Deployed → List Entry → List ℕ
unfolding answers holdings
report d h = answers d h ++ holdings d h
