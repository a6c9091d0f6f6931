-- Journals of hubs and gears: as their machines keep them, the newest first, and as lists of pieces of acts.
use Rattle.std.specs.Prelude.{◌≡◌, ◌<◌, ℕ, true, List, [], ◌∷◌}
use Rattle.sat_act.specs.declared.answer.Answer.{Answer}
use Rattle.sat_act.specs.Deployed.{Deployed}
use Rattle.sat_stitch.specs.Nodes.{stands}
use Rattle.sat_joint.specs.Pieces.{Piece, Rises, EachOf}
use Rattle.sat_joint.specs.Table.{Node, AtHub, AtGear}
use Rattle.sat_joint.specs.Machines.{HubState, GearNode, fresh_hub, fresh_gear}
use Rattle.sat_hub_laws.specs.Inputs.{HubInput, GearInput}
use Rattle.sat_hub_laws.specs.Hubs.{hub_act, hub_answer, hub_fits, hub_handed, hub_then}
use Rattle.sat_hub_laws.specs.Gears.{GivesOwn, gear_act, gear_answer, gear_fits, gear_handed, gear_then}

-- a line of a hub's journal: its Lamport number, the client whose act it is, 0 where it is none's, what the hub was
-- handed, and what it answered
pub record HubLine : Type 0 where
  pub number : ℕ
  pub client : ℕ
  pub input : HubInput
  pub answer : Answer

-- a line of a gear's journal, in the same way
pub record GearLine : Type 0 where
  pub number : ℕ
  pub client : ℕ
  pub input : GearInput
  pub answer : Answer

abbrev pub hub_number : HubLine → ℕ
hub_number k = k.number

abbrev pub gear_number : GearLine → ℕ
gear_number k = k.number

-- ---- states

-- a hub after the lines of its journal
unfoldable pub hub_replay : Deployed → ℕ → List HubLine → HubState
hub_replay d i [] = fresh_hub i
hub_replay d i (k ∷ ks) = hub_then d i (hub_replay d i ks) k.input k.answer

-- gear g after the lines of its journal
unfoldable pub gear_replay : Deployed → ℕ → List GearLine → GearNode
gear_replay d g [] = fresh_gear
gear_replay d g (k ∷ ks) = gear_then d g (gear_replay d g ks) k.input k.answer

-- ---- pieces of acts

abbrev pub hub_piece : ℕ → HubLine → Piece
hub_piece i k =
    record { number = k.number; act = hub_act i k.client k.input; handed = hub_handed k.input; answer = k.answer }

abbrev pub gear_piece : ℕ → ℕ → GearLine → Piece
gear_piece i g k =
    record { number = k.number; act = gear_act i g k.client k.input; handed = gear_handed i k.input; answer = k.answer }

abbrev pub hub_pieces : ℕ → List HubLine → List Piece
hub_pieces i [] = []
hub_pieces i (k ∷ ks) = hub_piece i k ∷ hub_pieces i ks

abbrev pub gear_pieces : ℕ → ℕ → List GearLine → List Piece
gear_pieces i g [] = []
gear_pieces i g (k ∷ ks) = gear_piece i g k ∷ gear_pieces i g ks

-- what each node kept, of hubs, gears and others
abbrev pub node_lists : (ℕ → List HubLine) → (ℕ → ℕ → List GearLine) → (Node → List Piece) → Node → List Piece
node_lists hubs gears others (AtHub i) = hub_pieces i (hubs i)
node_lists hubs gears others (AtGear i g) = gear_pieces i g (gears i g)
node_lists hubs gears others p = others p

-- ---- when they are journals of machines

-- a line of the journal of hub i, in this state of it: the input fits, and the answer is the machine's
pub record IsHubLine (d : Deployed) (i : ℕ) (h : HubState) (k : HubLine) : Type 0 where
  pub site : i < d.sites
  pub fits : hub_fits d i h k.input ≡ true
  pub answer : k.answer ≡ hub_answer d i h k.input
  pub standing : stands k.answer ≡ true

-- a line of the journal of gear g of site i, in this state of it: the input fits, what it gives to a gather is its own,
-- and the answer is the machine's
pub record IsGearLine (d : Deployed) (i g : ℕ) (n : GearNode) (k : GearLine) : Type 0 where
  pub site : i < d.sites
  pub gear : g < d.gears
  pub fits : gear_fits d g k.input ≡ true
  pub own : GivesOwn n k.input
  pub answer : k.answer ≡ gear_answer d i n k.input
  pub standing : stands k.answer ≡ true

abbrev pub HubLineAt : Deployed → ℕ → List HubLine → HubLine → Type 0
HubLineAt d i before k = IsHubLine d i (hub_replay d i before) k

abbrev pub GearLineAt : Deployed → ℕ → ℕ → List GearLine → GearLine → Type 0
GearLineAt d i g before k = IsGearLine d i g (gear_replay d g before) k

pub record IsHubJournal (d : Deployed) (i : ℕ) (ks : List HubLine) : Type 0 where
  pub rising : Rises hub_number ks
  pub lines : EachOf (HubLineAt d i) ks

pub record IsGearJournal (d : Deployed) (i g : ℕ) (ks : List GearLine) : Type 0 where
  pub rising : Rises gear_number ks
  pub lines : EachOf (GearLineAt d i g) ks
