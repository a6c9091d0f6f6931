-- What is known of all hubs, gears and serializers of a deployment once their locks were taken apart, and their
-- journals as lines of machines and as pieces of acts.
use Rattle.std.specs.Prelude.{◌≡◌, ℕ, List, [], ◌∷◌, map}
use Rattle.sat_label.specs.declared.node.NodeName.TheVariants as named
use Rattle.sat_label.specs.Words.{below}
use Rattle.sat_act.specs.Deployed.{Deployed}
use Rattle.sat_node.specs.Links.{HeldSeen, Each}
use Rattle.sat_node.specs.Opened.{AgreeAll, AgreeWithin}
use Rattle.sat_machines.specs.Serials.{serial_meaning}
use Rattle.sat_machines.specs.declared.serial_act.SerialAct.{SerialAct}
use Rattle.sat_machines.specs.declared.serial_act.SerialAnswer.{SerialAnswer}
use Rattle.sat_stitch.specs.Kept.{Kept}
use Rattle.sat_joint.specs.Pieces.{Piece, Plain}
use Rattle.sat_joint.specs.Table.{Node, AtHub, AtGear, AtSerial, Alone}
use Rattle.sat_hub_laws.specs.Lines.{HubLine, GearLine, node_lists}
use Rattle.sat_parts.specs.declared.hub_answer.HubAnswer.{HubAnswer}
use Rattle.sat_parts.specs.declared.gear_answer.GearAnswer.{GearAnswer}
use Rattle.sat_parts.specs.Acts.{HubActSeen, GearActSeen}
use Rattle.sat_parts.specs.Hubs.{hub_meaning}
use Rattle.sat_parts.specs.Gears.{gear_meaning}
use Rattle.sat_parts.specs.Lines.{hub_lines, gear_lines}
use Rattle.sat_opened.specs.Keeping.{serial_kept, newest}
use Rattle.sat_opened.specs.Opened.{IsOpened, name_in, serial_names, entries_at}
use Rattle.sat_parts.specs.Layout.{gear_names}

-- all nodes: each hub, each gear and each serializer once, in order; each is opened; and each link between two of them
-- carried what its sender put there: payloads from gears to hubs, beats between hubs, and labels
pub record PartsOpened {M G K : Type 0} (d : Deployed) (hubs : List (HeldSeen M HubActSeen HubAnswer))
    (gears : List (HeldSeen G GearActSeen GearAnswer)) (serials : List (HeldSeen K SerialAct SerialAnswer))
    : Type 0 where
  pub all_hubs : map name_in hubs ≡ map named.Site (below d.sites)
  pub all_gears : map name_in gears ≡ gear_names d
  pub all_serials : map name_in serials ≡ serial_names d
  pub each_hub : Each hubs (λ _ h. IsOpened (hub_meaning d) h)
  pub each_gear : Each gears (λ _ h. IsOpened (gear_meaning d) h)
  pub each_serial : Each serials (λ _ h. IsOpened (serial_meaning d) h)
  pub lanes : AgreeAll (gear_meaning d) (hub_meaning d) gears hubs
  pub between_hubs : AgreeWithin (hub_meaning d) hubs
  pub between_serials : AgreeWithin (serial_meaning d) serials
  pub from_hubs : AgreeAll (hub_meaning d) (serial_meaning d) hubs serials
  pub from_serials : AgreeAll (serial_meaning d) (hub_meaning d) serials hubs

-- ---- journals

-- the lines of the journal of each hub, and of each gear, none where there is no such node
abbrev pub hubs_of : {M : Type 0} → List (HeldSeen M HubActSeen HubAnswer) → ℕ → List HubLine
hubs_of hubs i = hub_lines (entries_at (named.Site i) hubs)

-- and of each gear
abbrev pub gears_of : {G : Type 0} → List (HeldSeen G GearActSeen GearAnswer) → ℕ → ℕ → List GearLine
gears_of gears i g = gear_lines (entries_at (named.Gear i g) gears)

-- what was kept of an act of one node alone, as a piece of it
abbrev pub piece_of : Kept → Piece
piece_of k = record { number = k.number; act = k.act; handed = Plain k.given; answer = k.answer }

-- and of a list
abbrev pub pieces_of : List Kept → List Piece
pieces_of [] = []
pieces_of (k ∷ ks) = piece_of k ∷ pieces_of ks

-- what serializers kept, and what each client's session kept alone
abbrev pub others_of : {K : Type 0} → List (HeldSeen K SerialAct SerialAnswer) → (ℕ → List Piece) → Node → List Piece
others_of serials alone (AtHub i) = []
others_of serials alone (AtGear i g) = []
others_of serials alone (AtSerial e z) =
    pieces_of (newest (serial_kept e z) (entries_at (named.Serializer e z) serials))
others_of serials alone (Alone c) = alone c

-- what was kept at each node
abbrev pub pieces_at : {M G K : Type 0} → List (HeldSeen M HubActSeen HubAnswer)
    → List (HeldSeen G GearActSeen GearAnswer) → List (HeldSeen K SerialAct SerialAnswer) → (ℕ → List Piece) → Node
    → List Piece
pieces_at hubs gears serials alone = node_lists (hubs_of hubs) (gears_of gears) (others_of serials alone)
