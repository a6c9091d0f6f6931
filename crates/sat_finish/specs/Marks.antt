-- Which entries of journals a walk of all pairs of nodes reads: those that may tell of parts.
use Rattle.std.specs.Prelude.{◌≡◌, ℕ, Bool, true, false, ◌&&◌, not, List, [], ◌∷◌, ◌++◌, Option, Some, None, slice_get}
use Rattle.std.specs.List.{flat_map}
use Rattle.sat_act.specs.declared.answer.Answer.{Answer}
use Rattle.sat_act.specs.declared.answer.Answer.TheVariants as ans
use Rattle.sat_act.specs.Deployed.{Deployed}
use Rattle.sat_node.specs.declared.kept.Kept.{Kept as Line}
use Rattle.sat_hub_laws.specs.Changes.{input_is_own}
use Rattle.sat_parts.specs.declared.hub_answer.HubAnswer.{HubAnswer}
use Rattle.sat_parts.specs.declared.gear_answer.GearAnswer.{GearAnswer}
use Rattle.sat_parts.specs.declared.hub_input.HubInput.{HubInput}
use Rattle.sat_parts.specs.declared.hub_input.HubInput.TheVariants as hub
use Rattle.sat_parts.specs.declared.gear_input.GearInput.{GearInput}
use Rattle.sat_parts.specs.declared.gear_input.GearInput.TheVariants as gear
use Rattle.sat_parts.specs.Acts.{HubActSeen, GearActSeen, gear_handed}
use Rattle.sat_finish.specs.Parts.{hub_part, kept_part, written_part}

module _ {A B : Type 0} (f : A → List B) where
  -- what a member tells, nothing where there is none
  abbrev pub read_as : Option A → List B
  read_as None = []
  read_as (Some x) = f x

  -- what the members at these places tell
  abbrev pub read_at : List A → List ℕ → List B
  read_at xs ps = flat_map (λ p. read_as (slice_get xs p)) ps

  -- who reads these places alone misses nothing
  abbrev pub Covers : List A → List ℕ → Type 0
  Covers xs ps = read_at xs ps ≡ flat_map f xs

-- with one more place, where a test says so
abbrev pub noted : List ℕ → ℕ → Bool → List ℕ
noted ps n true = ps ++ n ∷ []
noted ps n false = ps

-- ---- which entries may tell of parts

-- whether an act showed a label
abbrev pub is_shown : Answer → Bool
is_shown (ans.Shown l) = true
is_shown _ = false

-- whether it wrote one
abbrev pub is_written : Answer → Bool
is_written (ans.Wrote l) = true
is_written _ = false

-- of a hub: gathers, and what shows
abbrev pub hub_tells : HubInput → Answer → Bool
hub_tells (hub.Gather drained) r = true
hub_tells (hub.Turn front) r = is_shown r
hub_tells hub.Stamp r = is_shown r
hub_tells _ r = false

-- of a gear, as the home: writes
abbrev pub gear_tells : GearInput → Answer → Bool
gear_tells (gear.Write seen items values) r = is_written r
gear_tells _ r = false

-- of a gear, as another one's: what it was handed in a write
abbrev pub is_handed : GearInput → Answer → Bool
is_handed input r = not (input_is_own (gear_handed input)) && is_written r

-- ---- the places of all of them

abbrev pub HubMarks : List (Line HubActSeen HubAnswer) → List ℕ → Type 0
HubMarks es ps = (d : Deployed) (i g : ℕ) → Covers (hub_part d i g) es ps

abbrev pub WrittenMarks : List (Line GearActSeen GearAnswer) → List ℕ → Type 0
WrittenMarks es ps = (d : Deployed) (i h g : ℕ) → Covers (written_part d i h g) es ps

abbrev pub HandedMarks : List (Line GearActSeen GearAnswer) → List ℕ → Type 0
HandedMarks es ps = (i g h : ℕ) → Covers (kept_part i g (Some h)) es ps
