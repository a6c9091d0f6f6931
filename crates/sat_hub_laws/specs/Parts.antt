-- The parts of acts that a home and a gear kept of what passed between them. No clause crosses a lock, so they are
-- compared once all nodes are at rest: where the two lists of parts are one, for each gear and each home, each act of
-- several nodes stands at all of them.
use Rattle.std.specs.Prelude.{◌≡◌, ◌⊎◌, ℕ, Bool, true, false, ◌&&◌, not, ◌==◌, List, [], ◌∷◌, Option, Some, None}
use Rattle.sat_label.specs.Members.{In}
use Rattle.sat_act.specs.declared.act.Act.{Act}
use Rattle.sat_act.specs.declared.answer.Answer.{Answer}
use Rattle.sat_act.specs.declared.answer.Answer.TheVariants as ans
use Rattle.sat_act.specs.Deployed.{Deployed}
use Rattle.sat_stitch.specs.Places.{Session}
use Rattle.sat_joint.specs.Pieces.{Piece, Rises, EachOf, number_of}
use Rattle.sat_joint.specs.Table.{Node, AtHub, AtGear, stands_in, home_at}
use Rattle.sat_joint.specs.Machines.{GearNode, gear_after}
use Rattle.sat_joint.specs.Joint.{AllJoin, AnswersAtHome, HasHome, JointFit}
use Rattle.sat_joint.specs.Compare.{Gave, Got, NoShare, Share, gear_share, home_share}
use Rattle.sat_hub_laws.specs.Inputs.{GearInput}
use Rattle.sat_hub_laws.specs.Inputs as given
use Rattle.sat_hub_laws.specs.Gears.{GivesOwn, gear_handed}

-- a part: the act's number, the act, its answer, and what passed between its home and a gear
pub record Part : Type 0 where
  pub number : ℕ
  pub act : Act
  pub answer : Answer
  pub share : Share

abbrev pub part_number : Part → ℕ
part_number p = p.number

abbrev pub part_of : Piece → Share → Part
part_of k share = record { number = k.number; act = k.act; answer = k.answer; share = share }

abbrev pub part_if : Bool → Part → List Part → List Part
part_if true p ps = p ∷ ps
part_if false p ps = ps

-- of some pieces of a list their parts, by what stands before each
abbrev pub parts_by : (Piece → Bool) → (List Piece → Piece → Share) → List Piece → List Part
parts_by is share [] = []
parts_by is share (k ∷ ks) = part_if (is k) (part_of k (share ks k)) (parts_by is share ks)

-- the home of acts with parts at gears of site i: its hub, or another gear
abbrev pub home_node : ℕ → Option ℕ → Node
home_node i None = AtHub i
home_node i (Some h) = AtGear i h

-- the gear that wrote it, None where an answer is a hub's
abbrev pub written_at : Answer → Option ℕ
written_at (ans.Wrote l) = Some l.point.gear
written_at _ = None

abbrev pub same_home : Option ℕ → Option ℕ → Bool
same_home None None = true
same_home (Some g) (Some h) = g == h
same_home _ _ = false

-- whether an act that a home kept has a part at gear g
abbrev pub is_given : Deployed → ℕ → ℕ → Option ℕ → Piece → Bool
is_given d i g o k = home_at d (home_node i o) k && (stands_in d (AtGear i g) k && not (home_at d (AtGear i g) k))

-- whether what gear g kept is its part of an act of this home
abbrev pub is_kept : Deployed → ℕ → ℕ → Option ℕ → Piece → Bool
is_kept d i g o k = not (home_at d (AtGear i g) k) && same_home (written_at k.answer) o

-- what passed between a gear and the home of another node's act, as the gear's input tells without the gear's state
abbrev pub input_share : GearInput → Share
input_share (given.Drain f labels stable) = Gave f
input_share (given.Show by p) = Got p
input_share _ = NoShare

-- of an input whose drain is the gear's own that is what the gear kept of the act
abbrev pub InputsShare : Type 0
InputsShare =
    (i : ℕ) (n : GearNode) (input : GearInput) → GivesOwn n input →
    gear_share n (gear_handed i input) ≡ input_share input

-- the parts of gear g of site i, in acts of this home there, in what the home kept
abbrev pub given_parts : Deployed → ℕ → ℕ → Option ℕ → List Piece → List Part
given_parts d i g o ks = parts_by (is_given d i g o) (λ before k. home_share d (home_node i o) before g k) ks

-- the parts of gear g of site i, in acts of this home, in what the gear kept
abbrev pub kept_parts : Deployed → ℕ → ℕ → Option ℕ → List Piece → List Part
kept_parts d i g o ks = parts_by (is_kept d i g o) (λ before k. gear_share (gear_after d g before) k.handed) ks

-- for each gear and each home at its site, what the home kept of the gear and what the gear kept are the same parts
abbrev pub PartsAgree : Deployed → (Node → List Piece) → Type 0
PartsAgree d lists =
    (i g : ℕ) (o : Option ℕ) →
    given_parts d i g o (lists (home_node i o)) ≡ kept_parts d i g o (lists (AtGear i g))

-- so each act is joined
abbrev pub PartsJoin : Type 0
PartsJoin =
    (d : Deployed) (lists : Node → List Piece) → PartsAgree d lists →
    ((q : Node) → EachOf (AnswersAtHome d lists q) (lists q)) → (q : Node) → EachOf (AllJoin d lists q) (lists q)

-- and each piece that a gear kept is at its home, or its act's home has it
abbrev pub PartsHaveHomes : Type 0
PartsHaveHomes =
    (d : Deployed) (lists : Node → List Piece) → PartsAgree d lists → (i g : ℕ) (k : Piece) →
    In (lists (AtGear i g)) k → (home_at d (AtGear i g) k ≡ true) ⊎ HasHome d lists (AtGear i g) k

-- and lists that fit have parts that agree, so comparing these refuses nothing that fits
abbrev pub PartsAreExact : Type 0
PartsAreExact =
    (d : Deployed) (lists : Node → List Piece) (sessions : Session → List Piece) → JointFit d lists sessions →
    PartsAgree d lists

-- the numbers of parts rise where those of the list do
abbrev pub PartsRise : Type 0
PartsRise =
    (is : Piece → Bool) (share : List Piece → Piece → Share) (ks : List Piece) → Rises number_of ks →
    Rises part_number (parts_by is share ks)
