-- What each entry of the journal of a hub, and of a gear, met, and what it is.
use Rattle.std.proofs.Common.{ℕ, List, [], ◌∷◌}
use Rattle.sat_label.specs.declared.node.NodeName.TheVariants as named
use Rattle.sat_act.specs.Deployed.{Deployed}
use Rattle.sat_node.specs.declared.kept.Kept.{Kept as Line}
use Rattle.sat_node.specs.Meanings.{Runs, RunsFrom}
use Rattle.sat_hub_laws.specs.Lines.{HubLine, GearLine, hub_replay, gear_replay}
use Rattle.sat_parts.specs.declared.hub_answer.HubAnswer.{HubAnswer}
use Rattle.sat_parts.specs.declared.gear_answer.GearAnswer.{GearAnswer}
use Rattle.sat_parts.specs.Acts.{HubActSeen, GearActSeen}
use Rattle.sat_parts.specs.Hubs.{HubFitsAt, HubAnswersAt, hub_meaning}
use Rattle.sat_parts.specs.Gears.{GearFitsAt, GearAnswersAt, gear_meaning}
use Rattle.sat_parts.specs.Lines.{hub_line, gear_line}
use Rattle.sat_parts_opened.proofs.Walked.{Past}

-- ---- hubs

pub record HubStep (d : Deployed) (i : ℕ) (ls : List HubLine) (k : Line HubActSeen HubAnswer) : Type 0 where
  pub fits_there : HubFitsAt d i (hub_replay d i ls) k.input
  pub answers_there : HubAnswersAt d i (hub_replay d i ls) k.input k.answer

hub-past : (d : Deployed) (i : ℕ) (ls : List HubLine) (es : List (Line HubActSeen HubAnswer)) → RunsFrom (hub_meaning d) (named.Site i) (hub_replay d i ls) es → Past hub_line (HubStep d i) ls es
unfolding hub_replay
hub-past d i ls [] runs = tt
hub-past d i ls (k ∷ es) runs = (record { fits_there = runs.0; answers_there = runs.1 }, hub-past d i (hub_line k ∷ ls) es runs.2)

pub hub-steps : (d : Deployed) (i : ℕ) (es : List (Line HubActSeen HubAnswer)) → Runs (hub_meaning d) (named.Site i) es → Past hub_line (HubStep d i) [] es
unfolding hub_replay
hub-steps d i es runs = hub-past d i [] es runs

-- ---- gears

pub record GearStep (d : Deployed) (i g : ℕ) (ls : List GearLine) (k : Line GearActSeen GearAnswer) : Type 0 where
  pub fits_there : GearFitsAt d i g (gear_replay d g ls) k.input
  pub answers_there : GearAnswersAt d i (gear_replay d g ls) k.input k.answer

gear-past : (d : Deployed) (i g : ℕ) (ls : List GearLine) (es : List (Line GearActSeen GearAnswer)) → RunsFrom (gear_meaning d) (named.Gear i g) (gear_replay d g ls) es → Past gear_line (GearStep d i g) ls es
unfolding gear_replay
gear-past d i g ls [] runs = tt
gear-past d i g ls (k ∷ es) runs = (record { fits_there = runs.0; answers_there = runs.1 }, gear-past d i g (gear_line k ∷ ls) es runs.2)

pub gear-steps : (d : Deployed) (i g : ℕ) (es : List (Line GearActSeen GearAnswer)) → Runs (gear_meaning d) (named.Gear i g) es → Past gear_line (GearStep d i g) [] es
unfolding gear_replay
gear-steps d i g es runs = gear-past d i g [] es runs
