-- The journal of a hub's node and that of a gear's as lines of the model's machines, and what holds of them.
use Rattle.std.specs.Prelude.{ℕ, ◌≡◌, true, List, [], ◌∷◌}
use Rattle.sat_label.specs.declared.node.NodeName.TheVariants as named
use Rattle.sat_act.specs.Deployed.{Deployed}
use Rattle.sat_stitch.specs.Nodes.{stands}
use Rattle.sat_hub_laws.specs.Lines.{HubLine, GearLine, IsHubJournal, IsGearJournal, hub_replay, gear_replay}
use Rattle.sat_node.specs.declared.kept.Kept.{Kept}
use Rattle.sat_node.specs.Links.{Each}
use Rattle.sat_node.specs.Meanings.{replay, Runs, Rises}
use Rattle.sat_parts.specs.declared.hub_answer.HubAnswer.{HubAnswer}
use Rattle.sat_parts.specs.declared.gear_answer.GearAnswer.{GearAnswer}
use Rattle.sat_parts.specs.Acts.{HubActSeen, GearActSeen, client_in, hub_handed, gear_handed}
use Rattle.sat_parts.specs.Hubs.{hub_meaning}
use Rattle.sat_parts.specs.Gears.{gear_meaning}

-- an entry of a hub's journal as a line
abbrev pub hub_line : Kept HubActSeen HubAnswer → HubLine
hub_line k = record {
  number = k.lamport;
  client = client_in k.input.by;
  input = hub_handed k.input.input;
  answer = k.answer.answer;
}

-- an entry of a gear's journal as a line
abbrev pub gear_line : Kept GearActSeen GearAnswer → GearLine
gear_line k = record {
  number = k.lamport;
  client = client_in k.input.by;
  input = gear_handed k.input.input;
  answer = k.answer.answer;
}

-- these entries, the oldest first, behind lines, the newest first
abbrev pub hub_behind : List HubLine → List (Kept HubActSeen HubAnswer) → List HubLine
hub_behind lines [] = lines
hub_behind lines (k ∷ ks) = hub_behind (hub_line k ∷ lines) ks

-- the same of a gear's
abbrev pub gear_behind : List GearLine → List (Kept GearActSeen GearAnswer) → List GearLine
gear_behind lines [] = lines
gear_behind lines (k ∷ ks) = gear_behind (gear_line k ∷ lines) ks

-- all entries of a journal as lines, the newest first
abbrev pub hub_lines : List (Kept HubActSeen HubAnswer) → List HubLine
hub_lines ks = hub_behind [] ks

-- the same of a gear's
abbrev pub gear_lines : List (Kept GearActSeen GearAnswer) → List GearLine
gear_lines ks = gear_behind [] ks

-- a journal that a hub's node keeps is one of the model's machine, and the node's state is what its lines make
pub record KeepsHub (d : Deployed) (i : ℕ) (ks : List (Kept HubActSeen HubAnswer)) : Type 0 where
  pub journal : IsHubJournal d i (hub_lines ks)
  pub state : replay (hub_meaning d) (named.Site i) ks ≡ hub_replay d i (hub_lines ks)

-- of each hub and each journal of its node, whose entries stand
abbrev pub HubsKeep : Type 0
HubsKeep =
    (d : Deployed) (i : ℕ) (ks : List (Kept HubActSeen HubAnswer)) → Runs (hub_meaning d) (named.Site i) ks → Rises 0 ks
    → Each ks (λ n k. stands k.answer.answer ≡ true) → KeepsHub d i ks

-- and so is one that a gear's node keeps
pub record KeepsGear (d : Deployed) (i g : ℕ) (ks : List (Kept GearActSeen GearAnswer)) : Type 0 where
  pub journal : IsGearJournal d i g (gear_lines ks)
  pub state : replay (gear_meaning d) (named.Gear i g) ks ≡ gear_replay d g (gear_lines ks)

-- of each gear and each journal of its node, whose entries stand
abbrev pub GearsKeep : Type 0
GearsKeep =
    (d : Deployed) (i g : ℕ) (ks : List (Kept GearActSeen GearAnswer)) → Runs (gear_meaning d) (named.Gear i g) ks
    → Rises 0 ks → Each ks (λ n k. stands k.answer.answer ≡ true) → KeepsGear d i g ks
