-- What a site's cut says, at every moment of every run.
use Rattle.std.specs.Prelude.{◌≡◌, ◌↔◌, ◌<◌, ◌≤◌, ℕ, true, List, ◌∷◌, ◌++◌, Some, slice_get}
use Rattle.sat_label.specs.declared.label.Label.{Label}
use Rattle.sat_label.specs.Order.{point_le, label_eq, label_lt}
use Rattle.sat_label.specs.Words.{has}
use Rattle.sat_act.specs.declared.entry.Entry.{Entry}
use Rattle.sat_act.specs.Deployed.{Deployed}
use Rattle.sat_act.specs.Parts.{sent, stable, cut}
use Rattle.sat_act.specs.Runs.{IsRun}
use Rattle.sat_act.specs.Goals.{Made, IsValid}

-- a label that was made at a site was sent by it exactly where its point is at or below the site's cut
abbrev pub CutIsWhatWasSent : Type 0
CutIsWhatWasSent = (d : Deployed) (h : List Entry) (i : ℕ) (l : Label) → IsValid d → IsRun d h → i < d.sites → Made h l
    → l.point.site ≡ i → (has label_eq (sent h i) l ≡ true) ↔ (point_le l.point (cut d h i) ≡ true)

-- of two made labels the one that left a site first is the lesser: made labels leave in their order, and each once
abbrev pub SentInLabelOrder : Type 0
SentInLabelOrder = (d : Deployed) (h : List Entry) (i m n : ℕ) (a b : Label) → IsValid d → IsRun d h → i < d.sites → m
    < n → slice_get (sent h i) m ≡ Some a → slice_get (sent h i) n ≡ Some b → Made h a → Made h b → label_lt a b ≡ true

-- what a site sends, pulses and closes too, has that site in its point
abbrev pub SentBySite : Type 0
SentBySite = (d : Deployed) (h : List Entry) (i : ℕ) (l : Label) → IsRun d h → has label_eq (sent h i) l ≡ true
    → l.point.site ≡ i

-- no entry lets a cut fall
abbrev pub CutNeverFalls : Type 0
CutNeverFalls = (d : Deployed) (h : List Entry) (e : Entry) (i : ℕ) → IsValid d → IsRun d (e ∷ h) → i < d.sites
    → point_le (cut d h i) (cut d (e ∷ h) i) ≡ true

-- nor do any number of entries
abbrev pub CutNeverFallsLater : Type 0
CutNeverFallsLater = (d : Deployed) (h later : List Entry) (i : ℕ) → IsValid d → IsRun d (later ++ h) → i < d.sites
    → point_le (cut d h i) (cut d (later ++ h) i) ≡ true

-- a cut is a point of its own site, never above what is stable there
abbrev pub CutIsStable : Type 0
CutIsStable = (d : Deployed) (h : List Entry) (i : ℕ) → IsRun d h → i < d.sites
    → ((cut d h i).site ≡ i) × ((cut d h i).ts ≤ stable d h i)
