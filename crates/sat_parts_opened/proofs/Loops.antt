-- Journals, entry by entry.
use Rattle.std.proofs.Common.{◌≡◌, ◌<◌, ℕ, ◌+◌, Bool, true, false, List, [], ◌∷◌, ◌++◌, length, take, get_or, if◌then◌else◌, sym, ap, ◌∙◌, ◌&&◌, ◌||◌, ◌==◌, refl}
use Rattle.std.specs.List.{flat_map}
use Rattle.std.proofs.lemmas.List.{append-nil, take_more, flat_map_more}
use Rattle.sat_node.specs.declared.kept.Kept.{Kept as Line}
use Rattle.sat_stitch.specs.Kept.{entry_of}
use Rattle.sat_joint.specs.Journals.{Noted}
use Rattle.sat_parts.specs.declared.gear_answer.GearAnswer.{GearAnswer}
use Rattle.sat_parts.specs.Acts.{GearActSeen}
use Rattle.sat_parts_opened.specs.Keeping.{gear_kept, is_own_line, own_noted}
use Rattle.sat_label.proofs.Truth.{same-number}
use Rattle.sat_label.specs.Words.{has}
use Rattle.sat_act.specs.Deployed.{Deployed}
use Rattle.sat_act.specs.Answers.{gear_of}
use Rattle.sat_act.specs.Parts.{replicates}
use Rattle.sat_joint.specs.Table.{AtGear, gear_nodes, gears_if, item_gears, same_node}
use Rattle.sat_hub_laws.specs.Sites.{has_part}

pub one_more : {X Y : Type 0} (f : X → List Y) (old mid new : List Y) (xs : List X) (i : ℕ) (x : X) → i < length xs → new ≡ mid ++ f (get_or xs i x)
    → mid ≡ old ++ flat_map f (take i xs) → new ≡ old ++ flat_map f (take (i + 1) xs)
one_more f old mid new xs i x within added so-far =
    added ∙ (ap (λ ys. ys ++ f (get_or xs i x)) so-far ∙ (flat_map_more f old (take i xs) (get_or xs i x) ∙ ap (λ ys. old ++ flat_map f ys) (sym (take_more xs i x within))))

-- an entry of an act of its own is one more
pub own_here : (i g : ℕ) (k : Line GearActSeen GearAnswer) (old new : List Noted) → is_own_line k ≡ true → new ≡ old ++ (k.lamport, entry_of (gear_kept i g k), true) ∷ [] → new ≡ old ++ own_noted i g k
own_here i g k old new e w = w ∙ ap (λ (b : Bool). old ++ (if b then (k.lamport, entry_of (gear_kept i g k), true) ∷ [] else [])) (sym e)

-- and another is none
pub own_not : (i g : ℕ) (k : Line GearActSeen GearAnswer) (old : List Noted) → is_own_line k ≡ false → old ≡ old ++ own_noted i g k
own_not i g k old e = sym (append-nil old) ∙ ap (λ (b : Bool). old ++ (if b then (k.lamport, entry_of (gear_kept i g k), true) ∷ [] else [])) (sym e)

-- ---- parts

-- one more item
pub has_more : (d : Deployed) (i g x : ℕ) (xs : List ℕ) → has_part d i (x ∷ xs) g ≡ ((replicates d x i && (gear_of d x == g)) || has_part d i xs g)
has_more d i g x xs = go (replicates d x i)
  where
    go : (b : Bool) → has same_node (gear_nodes i (gears_if b (gear_of d x) (item_gears d i xs))) (AtGear i g) ≡ ((b && (gear_of d x == g)) || has_part d i xs g)
    go true = ap (λ (b : Bool). (b && (gear_of d x == g)) || has_part d i xs g) (same-number i)
    go false = refl
