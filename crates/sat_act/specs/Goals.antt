-- What holds of each run, law by law.
use Rattle.std.specs.Prelude.{◌≡◌, ◌⊎◌, ◌<◌, ◌≤◌, ◌==◌, ℕ, true, false, List, [], ◌∷◌, Option, Some, None, slice_get}
use Rattle.sat_label.specs.declared.label.Label.{Label}
use Rattle.sat_label.specs.Grouped.{list_of}
use Rattle.sat_label.specs.Order.{label_lt, label_eq}
use Rattle.sat_label.specs.Words.{has}
use Rattle.sat_act.specs.declared.act.Act.TheVariants as act
use Rattle.sat_act.specs.declared.answer.Answer.{Answer}
use Rattle.sat_act.specs.declared.answer.Answer.TheVariants as ans
use Rattle.sat_act.specs.declared.entry.Entry.{Entry}
use Rattle.sat_act.specs.Deployed.{Deployed}
use Rattle.sat_act.specs.Done.{made_in, Written, write_in}
use Rattle.sat_act.specs.Parts.{replicates, shown_entry, is_update_of, version, value_for, value_of, home, seat, lane}
use Rattle.sat_act.specs.Parts.{brought, waiting}
use Rattle.sat_act.specs.Causes.{Past, Cause}

-- some entry gave x
unfoldable pub Gives : {X : Type 0} → (List Entry → Entry → Option X) → List Entry → X → Type 0
Gives f [] x = ⊥
Gives f (entry ∷ before) x = Gives f before x ⊎ (f before entry ≡ Some x)

-- l was made
abbrev pub Made : List Entry → Label → Type 0
Made h l = Gives (λ before entry. made_in entry.answer) h l

-- site k showed l
abbrev pub Shows : List Entry → ℕ → Label → Type 0
Shows h k l = Gives (shown_entry k) h l

-- an item of an update is replicated at k
abbrev pub IsKeptAt : Deployed → ℕ → Label → Type 0
IsKeptAt d k l = (x : ℕ) × (is_update_of l.kind x ≡ true) × (replicates d x k ≡ true)

-- whatever an entry shows at a site, each cause of it that the site keeps was shown there before
abbrev pub ShowsCausesFirst : Deployed → List Entry → Entry → Type 0
ShowsCausesFirst d before entry =
    (k : ℕ) (b a : Label) → shown_entry k before entry ≡ Some b → Cause (entry ∷ before) b a → IsKeptAt d k a
    → Shows before k a

-- each update was shown at each site after each cause that the site keeps
unfoldable pub Causal : Deployed → List Entry → Type 0
Causal d [] = Unit {0}
Causal d (entry ∷ before) = Causal d before × ShowsCausesFirst d before entry

-- an entry is a write of this item, with others or alone, with this value for it, and made the label
abbrev pub WritesNow : Entry → ℕ → List ℕ → Label → Type 0
WritesNow entry x value l =
    (w : Written) × (write_in entry.act ≡ Some w) × (has ◌==◌ (list_of w.items) x ≡ true)
    × (value_for (list_of w.items) w.values x ≡ value) × (entry.answer ≡ ans.Wrote l)

-- a write of this item with this value made the label
unfoldable pub Writes : List Entry → ℕ → List ℕ → Label → Type 0
Writes [] x value l = ⊥
Writes (entry ∷ before) x value l = Writes before x value l ⊎ WritesNow entry x value l

-- a label is the update that a write of this item made, with the value for it that the history has
pub record IsWriteOf (h : List Entry) (x : ℕ) (l : Label) : Type 0 where
  pub update : is_update_of l.kind x ≡ true
  pub written : Writes h x (value_of h l x) l

-- a label is one that a write of an item made that the site keeps
abbrev pub IsWriteKeptAt : Deployed → List Entry → ℕ → Label → Type 0
IsWriteKeptAt d h k b = (x : ℕ) × IsWriteOf h x b × (replicates d x k ≡ true)

-- whatever an entry shows at a site was not shown there before, and a write of an item that the site keeps made it
abbrev pub ShowsNew : Deployed → List Entry → Entry → Type 0
ShowsNew d before entry =
    (k : ℕ) (b : Label) → shown_entry k before entry ≡ Some b → (Shows before k b → ⊥)
    × IsWriteKeptAt d (entry ∷ before) k b

-- no site shows a label twice, and each was made by a write of an item that the site keeps
unfoldable pub Once : Deployed → List Entry → Type 0
Once d [] = Unit {0}
Once d (entry ∷ before) = Once d before × ShowsNew d before entry

-- what a client reads is not below any update of the item in its past, and it reads none only where its past has none
abbrev pub IsFresh : Answer → ℕ → List Entry → ℕ → Type 0
IsFresh (ans.ReadSome l v) c before x =
    (a : Label) → Past before c a → is_update_of a.kind x ≡ true → label_lt l a ≡ false
IsFresh ans.ReadNone c before x = (a : Label) → Past before c a → is_update_of a.kind x ≡ true → ⊥
IsFresh _ c before x = Unit {0}

-- each read is fresh
unfoldable pub Fresh : List Entry → Type 0
Fresh [] = Unit {0}
Fresh (entry ∷ before) = Fresh before × ((c x : ℕ) → entry.act ≡ act.Read c x → IsFresh entry.answer c before x)

-- a version is no older than a label
abbrev pub IsAtLeast : Option Label → Label → Type 0
IsAtLeast None l = ⊥
IsAtLeast (Some m) l = label_lt m l ≡ false

-- a read answers a version, and one that is no older than a label
abbrev pub ReadsAtLeast : Answer → Label → Type 0
ReadsAtLeast (ans.ReadSome m v) l = label_lt m l ≡ false
ReadsAtLeast _ l = ⊥

-- where the site at which a client reads an item has shown an update that has it, the client reads this update or a
-- greater one
abbrev pub ReadsShown : Deployed → List Entry → Entry → Type 0
ReadsShown d before entry =
    (c k x : ℕ) (l : Label) → entry.act ≡ act.Read c x → seat d before c ≡ Some k → Shows before k l
    → is_update_of l.kind x ≡ true → replicates d x k ≡ true → ReadsAtLeast entry.answer l

-- each read is of all that its site has shown
unfoldable pub ReadsWhole : Deployed → List Entry → Type 0
ReadsWhole d [] = Unit {0}
ReadsWhole d (entry ∷ before) = ReadsWhole d before × ReadsShown d before entry

-- A site shows an update at once, for each of its items that the site keeps: from then on each of them has this version
-- or a greater one, and so a client that reads one of these items there never reads, of another, what is older
pub record Whole (d : Deployed) (h : List Entry) : Type 0 where
  pub versions : (k x : ℕ) (l : Label) → Shows h k l → is_update_of l.kind x ≡ true → IsAtLeast (version h k x) l
  pub reads : ReadsWhole d h

-- a deployment whose numbers fit one another, as far as the laws of histories need it. Of the grades of a deployment
-- this asks least: `IsDeployment` (Limits), which all that `Deployment::new` makes meets, asks for more
pub record IsValid (d : Deployed) : Type 0 where
  pub some_gear : 0 < d.gears
  pub few_gears : d.gears ≤ 8
  pub homes : (c i : ℕ) → home d c ≡ Some i → i < d.sites

-- a version is the greatest update of the item that was made anywhere, with the value of its write
abbrev pub IsGreatestMade : List Entry → ℕ → Option Label → Type 0
IsGreatestMade h x None = (m : Label) → Made h m → is_update_of m.kind x ≡ true → ⊥
IsGreatestMade h x (Some l) =
    IsWriteOf h x l × ((m : Label) → Made h m → is_update_of m.kind x ≡ true → label_lt l m ≡ false)

-- all that was made for a site was brought to it
abbrev pub AllBrought : Deployed → List Entry → ℕ → Type 0
AllBrought d h k = (i g n : ℕ) (l : Label) → slice_get (lane d h i g k) n ≡ Some l → has label_eq (brought h k) l ≡ true

-- where all that was made for a site was brought and shown, the site holds its items' greatest versions
abbrev pub Settled : Deployed → List Entry → Type 0
Settled d h =
    (k x : ℕ) → AllBrought d h k → waiting h k ≡ [] → replicates d x k ≡ true → IsGreatestMade h x (version h k x)
