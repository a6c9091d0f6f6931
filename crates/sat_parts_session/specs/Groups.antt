-- A write of several items under one label, as an act of the gears of its items: the least item's gear is its home, and
-- the others show their parts.
use Rattle.std.specs.Prelude.{ℕ, zero, suc, ◌≡◌, ◌==◌, ◌&&◌, not, Bool, List, [], ◌∷◌, ◌++◌, map, Option, Some}
use Rattle.std.specs.Prelude.{if◌then◌else◌}
use Rattle.sat_label.specs.declared.items.Items.{Items}
use Rattle.sat_label.specs.declared.label.Label.{Label}
use Rattle.sat_label.specs.declared.node.NodeName.{NodeName}
use Rattle.sat_label.specs.declared.node.NodeName.TheVariants as named
use Rattle.sat_label.specs.Grouped.{list_of}
use Rattle.sat_label.specs.Words.{has}
use Rattle.sat_act.specs.declared.answer.Answer.{Answer}
use Rattle.sat_act.specs.declared.answer.Answer.TheVariants as ans
use Rattle.sat_act.specs.Answers.{gear_of}
use Rattle.sat_act.specs.Deployed.{Deployed}
use Rattle.sat_model.specs.Next.{payload_at}
use Rattle.sat_model.specs.Reply.{gear_for}
use Rattle.sat_node.specs.Links.{Both, HeldSeen}
use Rattle.sat_node.specs.Together.{AllSame, KeepsSome}
use Rattle.sat_parts.specs.declared.gear_answer.GearAnswer.{GearAnswer}
use Rattle.sat_parts.specs.declared.gear_input.GearInput.TheVariants as gear
use Rattle.sat_parts.specs.declared.gear_input.ShownBy.TheVariants as by
use Rattle.sat_parts.specs.Acts.{GearActSeen}
use Rattle.sat_parts.specs.Gears.{gear_meaning}
use Rattle.sat_parts_session.specs.Asked.{gear_asked}

-- ---- its gears

-- whether a gear other than the least item's has one of these items
abbrev pub is_beside : Deployed → Items → ℕ → Bool
is_beside d items g = not (g == gear_for d items) && has ◌==◌ (map (gear_of d) (list_of items)) g

-- those of the first so many gears for which a test holds, ascending
abbrev pub gears_where : (ℕ → Bool) → ℕ → List ℕ
gears_where test zero = []
gears_where test (suc n) = if test n then gears_where test n ++ n ∷ [] else gears_where test n

-- all such of a deployment
abbrev pub gears_beside : Deployed → Items → List ℕ
gears_beside d items = gears_where (is_beside d items) d.gears

-- these are the gears of a write of these items by a client that is seated at a site: the home is the least item's gear
-- there, and the others, ascending, are the other gears there that have one of the items, each once
pub record AreGears (d : Deployed) (seat : Option ℕ) (items : Items) (i : ℕ) (home : NodeName)
    (others : List NodeName) : Type 0 where
  pub seated : seat ≡ Some i
  pub home_is : home ≡ named.Gear i (gear_for d items)
  pub others_are : others ≡ map (named.Gear i) (gears_beside d items)

-- ---- what they keep

-- what a gear is handed that shows its part of a client's write under this label
abbrev pub shown_under : ℕ → List (List ℕ) → Label → GearActSeen
shown_under c values l = gear_asked (Some c) (gear.Show by.Write (payload_at l values))

-- what the gears beside the home keep, by its answer. Where it wrote, each keeps its part under this number, which is
-- the payload of these values under the label that was answered; beside a refusal they keep nothing
abbrev pub KeepBeside : {M : Type 0} → Deployed → ℕ → ℕ → List (List ℕ) → Answer
    → List (HeldSeen M GearActSeen GearAnswer) → List (HeldSeen M GearActSeen GearAnswer) → Type 0
KeepBeside d number c values (ans.Wrote l) old new =
    Both (λ _ x y. KeepsSome (gear_meaning d) number (shown_under c values l) x y) old new
KeepBeside d number c values _ old new = AllSame old new
