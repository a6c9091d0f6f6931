-- What a gear means as a machine of a node: its state, its answers, and what its entries put on lanes. They take
-- nothing from a link.
use Rattle.std.specs.Prelude.{ℕ, ◌≡◌, ◌≤◌, ◌<◌, Bool, true, false, [], length, Option, None}
use Rattle.sat_label.specs.declared.node.NodeName.{NodeName}
use Rattle.sat_label.specs.declared.node.NodeName.TheVariants as named
use Rattle.sat_label.specs.Grouped.{list_of}
use Rattle.sat_label.specs.Words.{bit}
use Rattle.sat_gear.specs.Gear.{GearSeen, version_of}
use Rattle.sat_act.specs.Deployed.{Deployed}
use Rattle.sat_act.specs.Answers.{gear_of}
use Rattle.sat_act.specs.Parts.{keeps_some, replicates}
use Rattle.sat_hub.specs.Changes.{shape_for}
use Rattle.sat_site.specs.Stands.{StandsGear, version_seen}
use Rattle.sat_stitch.specs.Nodes.{stands}
use Rattle.sat_joint.specs.Machines.{GearNode, fresh_gear}
use Rattle.sat_hub_laws.specs.Gears.{gear_answer, gear_fits, gear_then, GivesOwn}
use Rattle.sat_node.specs.declared.kept.Made.{Made}
use Rattle.sat_node.specs.Meanings.{Meaning}
use Rattle.sat_machines.specs.Layout.{peer}
use Rattle.sat_machines.specs.Sites.{number_of, payload_in}
use Rattle.sat_parts.specs.declared.gear_answer.GearAnswer.{GearAnswer}
use Rattle.sat_parts.specs.declared.gear_input.GearInput.{GearInput}
use Rattle.sat_parts.specs.declared.gear_input.GearInput.TheVariants as gear
use Rattle.sat_parts.specs.Acts.{GearActSeen, IsBy, gear_handed, is_gear_clients}
use Rattle.sat_parts.specs.Layout.{part_ins, part_outs}

-- gear g of site i of a deployment stands for a state of the model's gear: its promise, labels and lanes, and the
-- versions of its items that the site keeps
pub record StandsGearNode (d : Deployed) (i g : ℕ) (x : GearSeen) (n : GearNode) : Type 0 where
  pub shape : x.shape ≡ shape_for d i
  pub number : x.gear ≡ g
  pub gear : StandsGear d x n.gear
  pub beyond : (j : ℕ) → d.sites ≤ j → n.gear.lanes j ≡ []
  pub versions : (m : ℕ) → m < length d.items → replicates d m i ≡ true → gear_of d m ≡ g
      → version_seen (version_of x m) ≡ n.store m

-- the gear of this name
abbrev pub GearStands : Deployed → NodeName → GearSeen → GearNode → Type 0
GearStands d (named.Site i) x n = ⊥
GearStands d (named.Serializer e z) x n = ⊥
GearStands d (named.Gear i g) x n = StandsGearNode d i g x n

-- the number of a gear; only gears have one
abbrev pub gear_number : NodeName → ℕ
gear_number (named.Site i) = 0
gear_number (named.Serializer e z) = 0
gear_number (named.Gear i g) = g

-- ---- answers

-- whether site k keeps one of the items of a write of the gear's own
abbrev pub is_kept_at : Deployed → GearInput → ℕ → Bool
is_kept_at d (gear.Write seen items values) k = keeps_some d (list_of items) k
is_kept_at d _ k = false

-- the answer of the model's gear, and the sites that its payload is for
pub record GearAnswersAt (d : Deployed) (i : ℕ) (n : GearNode) (act : GearActSeen) (a : GearAnswer) : Type 0 where
  pub answer : a.answer ≡ gear_answer d i n (gear_handed act.input)
  pub keepers : (k : ℕ) → bit a.keepers.bits k ≡ is_kept_at d act.input k

-- it fits the model's gear, what it gives to a gather is its own, and it is a client's where it has to be
pub record GearFitsAt (d : Deployed) (i g : ℕ) (n : GearNode) (act : GearActSeen) : Type 0 where
  pub by : IsBy d act.by (is_gear_clients act.input)
  pub site : i < d.sites
  pub gear : g < d.gears
  pub fits : gear_fits d g (gear_handed act.input) ≡ true
  pub own : GivesOwn n (gear_handed act.input)

-- ---- what entries put on lanes

-- the payload of a write, for site j
abbrev pub lane_to : ℕ → GearInput → GearAnswer → Option Made
lane_to j (gear.Write seen items values) a = payload_in (bit a.keepers.bits j) values a.answer
lane_to j _ a = None

-- what a gear puts on the lane of this number
abbrev pub gear_puts : NodeName → ℕ → GearActSeen → GearAnswer → Option Made
gear_puts (named.Site i) k act a = None
gear_puts (named.Serializer e z) k act a = None
gear_puts (named.Gear i g) k act a = lane_to (peer i k) act.input a

-- ---- all of it

-- what a gear is as a node: its state is the model's, and so are fits, answers and steps; and what its acts put on its
-- lanes
abbrev pub gear_meaning : Deployed → Meaning GearNode GearActSeen GearAnswer
gear_meaning d = record {
  fresh = λ name. fresh_gear;
  fits = λ name n act. GearFitsAt d (number_of name) (gear_number name) n act;
  answers = λ name n act a. GearAnswersAt d (number_of name) n act a;
  after = λ name n act a. gear_then d (gear_number name) n (gear_handed act.input) a.answer;
  puts = gear_puts;
  takes = λ name k act a. None;
  stands = λ act a. stands a.answer;
  outs = part_outs d;
  ins = part_ins d;
}
