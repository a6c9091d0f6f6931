-- The order of merged journals: by number, then by the journal's place, then as the journal has its entries. In this
-- file lists are the oldest first.
use Rattle.std.specs.Prelude.{◌≡◌, ◌⊎◌, ℕ, Bool, ◌&&◌, ◌||◌, ◌==◌, nat_lt, List, [], ◌∷◌, ◌++◌, map, flat_map}
use Rattle.std.specs.Prelude.{if◌then◌else◌, reverse}
use Rattle.sat_act.specs.declared.entry.Entry.{Entry}
use Rattle.sat_stitch.specs.declared.journal.Ranked.{Ranked}
use Rattle.sat_stitch.specs.declared.journal.Journal.{Journal}
use Rattle.sat_act.specs.Deployed.{Deployed}
use Rattle.sat_act.specs.Runs.{IsRun}
use Rattle.sat_act.specs.Settling.{run}
use Rattle.sat_act.specs.Goals.{IsValid}
use Rattle.sat_label.specs.Members.{In}
pub use Rattle.sat_stitch.specs.Kept.{Distinct}
use Rattle.sat_stitch.specs.Kept.{Kept, Rising, entry_of, history, acts_of}
use Rattle.sat_stitch.specs.Places.{Place, Session, places, part_at, session_part}
use Rattle.sat_stitch.specs.Fit.{Fit, IsMerge}

-- a journal has a place, and entries under their numbers
abbrev pub Numbered : Type 0 → Type 0
Numbered X = ℕ × List (ℕ × X)

abbrev pub rank : {X : Type 0} → ℕ → ℕ × X → Ranked X
rank place e = record { number = e.0; place = place; item = e.1 }

abbrev pub ranked : {X : Type 0} → ℕ → List (ℕ × X) → List (Ranked X)
ranked place es = map (rank place) es

abbrev pub ranks_of : {X : Type 0} → Numbered X → List (Ranked X)
ranks_of j = ranked j.0 j.1

abbrev pub all_ranked : {X : Type 0} → List (Numbered X) → List (Ranked X)
all_ranked js = flat_map ranks_of js

abbrev pub comes_before : {X : Type 0} → Ranked X → Ranked X → Bool
comes_before a b = nat_lt a.number b.number || ((a.number == b.number) && nat_lt a.place b.place)

-- one entry more, in front of all that don't come before it
abbrev pub put : {X : Type 0} → Ranked X → List (Ranked X) → List (Ranked X)
put x [] = x ∷ []
put x (y ∷ ys) = if comes_before y x then y ∷ put x ys else x ∷ y ∷ ys

abbrev pub in_order : {X : Type 0} → List (Ranked X) → List (Ranked X)
in_order [] = []
in_order (x ∷ xs) = put x (in_order xs)

abbrev pub item_of : {X : Type 0} → Ranked X → X
item_of r = r.item

-- the items of these ranks, in order
abbrev pub ordered : {X : Type 0} → List (Ranked X) → List X
ordered rs = map item_of (in_order rs)

-- all entries of these journals, in order
abbrev pub stitched : {X : Type 0} → List (Numbered X) → List X
stitched js = ordered (all_ranked js)

-- a journal as its contract sees it
abbrev pub seen : Journal → Numbered Entry
seen j = (j.place, j.kept)

-- ---- kept lists as journals

abbrev pub oldest : List Kept → List (ℕ × Kept)
oldest [] = []
oldest (k ∷ ks) = oldest ks ++ (k.number, k) ∷ []

-- the kept lists of these places, each with its number
abbrev pub journals_of : (Place → ℕ) → (Place → List Kept) → List Place → List (Numbered Kept)
journals_of rank lists [] = []
journals_of rank lists (p ∷ ps) = (rank p, oldest (lists p)) ∷ journals_of rank lists ps

-- the journals of all places where something was kept, stitched, are their merge
abbrev pub StitchesMerge : Type 0
StitchesMerge = (lists : Place → List Kept) (rank : Place → ℕ) (names : List Place) → Distinct names
    → ((p : Place) → In names p ⊎ (lists p ≡ [])) → ((p : Place) → Rising (lists p)) →
    ((p : Place) (k : Kept) → In (lists p) k → places k.act k.given ≡ p ∷ [])
    → IsMerge lists (reverse (stitched (journals_of rank lists names)))

-- ---- kept lists as journals of entries

abbrev pub entry_under : ℕ × Kept → ℕ × Entry
entry_under e = (e.0, entry_of e.1)

-- what nodes and sessions kept, without what was handed
abbrev pub entry_journals : (Place → ℕ) → (Place → List Kept) → List Place → List (Numbered Entry)
entry_journals rank lists [] = []
entry_journals rank lists (p ∷ ps) = (rank p, map entry_under (oldest (lists p))) ∷ entry_journals rank lists ps

-- each place at which something was kept is one of these
abbrev pub Covers : (Place → List Kept) → List Place → Type 0
Covers lists names = (p : Place) → In names p ⊎ (lists p ≡ [])

-- where these journals are kept lists that fit, the whole is one run, whose parts are the lists, and those of the
-- sessions
abbrev pub IsOneRun : List (Numbered Entry) → List Entry → Type 0
IsOneRun js all =
    (d : Deployed) (lists : Place → List Kept) (sessions : Session → List Kept) (rank : Place → ℕ) (names : List Place)
    → IsValid d → Fit d lists sessions → Distinct names → Covers lists names →
    js ≡ entry_journals rank lists names →
    IsRun d (reverse all) × (run d (acts_of (reverse all)) ≡ reverse all)
    × ((p : Place) → part_at d (reverse all) p ≡ history (lists p))
    × ((s : Session) → session_part (reverse all) s ≡ history (sessions s))

abbrev pub StitchesAreRuns : Type 0
StitchesAreRuns = (js : List (Numbered Entry)) → IsOneRun js (stitched js)
