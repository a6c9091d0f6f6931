-- The summary of the run of a large script.
use Rattle.std.specs.Prelude.{ℕ, zero, suc, ◌+◌, List, [], ◌∷◌, ◌++◌, length, codes}
use Rattle.std.specs.Fmt.{decimal}
use Rattle.sat_act.specs.declared.entry.Entry.{Entry}
use Rattle.sat_act.specs.Deployed.{Deployed}
use Rattle.sat_act.specs.Parts.{view, waiting}
use Rattle.sat_act.specs.Settling.{capped}
use Rattle.sat_rest.specs.Ends.{wrote_count}
use Rattle.sat_world.specs.Counts.{shown_count}
use Rattle.sat_world.specs.Underway.{underway}

-- the payloads that wait at the first n sites
unfoldable pub waiting_count : List Entry → ℕ → ℕ
unfolding waiting
waiting_count h zero = 0
waiting_count h (suc n) = waiting_count h n + length (waiting h n)

-- `views` and the view of each of the first n sites
unfoldable pub views_text : List Entry → ℕ → List ℕ
unfolding view
views_text h zero = codes "views"
views_text h (suc n) = views_text h n ++ 32 ∷ decimal (view h n)

-- `load SEED N`
abbrev pub asked_line : ℕ → ℕ → List ℕ
asked_line seed n = codes "load " ++ (decimal seed ++ 32 ∷ (decimal n ++ 10 ∷ []))

-- a word and a number
abbrev pub number_line : List ℕ → ℕ → List ℕ
number_line word n = word ++ 32 ∷ (decimal n ++ 10 ∷ [])

-- how many updates were written and shown, wait, and are under way
abbrev pub counts_text : ℕ → ℕ → ℕ → ℕ → List ℕ
counts_text written shown waiting underway =
    number_line (codes "written") written ++ number_line (codes "shown") shown ++ number_line (codes "waiting") waiting
    ++ number_line (codes "underway") underway

-- the summary of a history: what was asked, how many updates were written and shown, wait, and are under way, the views
-- of the sites, and `done`. Each number but the first is at most 2^64 - 1
unfoldable pub summary : Deployed → List Entry → ℕ → ℕ → List ℕ
unfolding wrote_count waiting_count views_text shown_count underway
summary d h seed n =
    asked_line seed n ++ counts_text (wrote_count h) (capped (shown_count h)) (capped (waiting_count h d.sites))
    (capped (underway d h))
    ++ views_text h d.sites ++ 10 ∷ (codes "done" ++ 10 ∷ [])
