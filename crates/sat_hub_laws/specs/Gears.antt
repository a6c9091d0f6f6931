-- A gear as a machine: what it answers to what it is handed, what it then is, and what its acts are.
use Rattle.std.specs.Prelude.{◌≡◌, ℕ, Bool, true, false, ◌&&◌, ◌==◌, max, List, [], ◌∷◌, length, map, Option, Some}
use Rattle.std.specs.Prelude.{None, is_some, unwrap_or}
use Rattle.sat_label.specs.declared.items.Items.{Items}
use Rattle.sat_label.specs.declared.items.Items.TheVariants.{One}
use Rattle.sat_label.specs.declared.label.Kind.{Kind}
use Rattle.sat_label.specs.declared.label.Kind.TheVariants as kind
use Rattle.sat_label.specs.Grouped.{list_of}
use Rattle.sat_act.specs.declared.act.Act.{Act}
use Rattle.sat_act.specs.declared.act.Act.TheVariants as act
use Rattle.sat_act.specs.declared.answer.Answer.{Answer}
use Rattle.sat_act.specs.declared.answer.Answer.TheVariants as ans
use Rattle.sat_act.specs.Deployed.{Deployed}
use Rattle.sat_act.specs.Answers.{gear_of}
use Rattle.sat_bulk.specs.Payloads.{Payload}
use Rattle.sat_model.specs.Fits.{is_site, is_item, is_group, is_time, is_carried}
use Rattle.sat_model.specs.Input.{SiteInput}
use Rattle.sat_model.specs.Input as site
use Rattle.sat_model.specs.Reply.{gear_for, write_by, read_by, move_by}
use Rattle.sat_stitch.specs.Kept.{Nothing, OfClient}
use Rattle.sat_joint.specs.Pieces.{Handed, Plain, Drained, Showing}
use Rattle.sat_joint.specs.Machines.{GearNode, gear_by_input, gear_drained, gear_shows, drain_of}
use Rattle.sat_hub_laws.specs.Inputs.{GearInput, ShownBy, ByTurn, ByStamp, ByWrite}
use Rattle.sat_hub_laws.specs.Inputs as given

-- what the machine of the whole site is handed by an act of gear g, None where the act is another node's
abbrev pub site_of_gear : ℕ → GearInput → Option SiteInput
site_of_gear g (given.Tick ts) = Some (site.Tick g ts)
site_of_gear g (given.Write seen items values) = Some (site.Write seen items values)
site_of_gear g (given.Read seen x) = Some (site.Read seen x)
site_of_gear g (given.Move seen j) = Some (site.Move seen j)
site_of_gear g _ = None

-- what an act that shows a payload answered
abbrev pub shown_answer : ShownBy → Payload → Answer
shown_answer ByTurn p = ans.Shown p.label
shown_answer ByStamp p = ans.Shown p.label
shown_answer ByWrite p = ans.Wrote p.label

-- what a gear answers to what it is handed, one clause for each input
unfoldable pub gear_answer : Deployed → ℕ → GearNode → GearInput → Answer
gear_answer d i n (given.Tick ts) = ans.Ticked (max n.gear.promise ts)
gear_answer d i n (given.Write seen items values) = write_by d i items n.gear.promise seen.point.ts
gear_answer d i n (given.Read seen x) = read_by d i x (n.store x)
gear_answer d i n (given.Move seen j) = move_by i j n.gear.promise seen.point.ts
gear_answer d i n (given.Drain f labels stable) = ans.Gathered labels stable
gear_answer d i n (given.Show by p) = shown_answer by p

-- what an answer makes of gear g
abbrev pub gear_then : Deployed → ℕ → GearNode → GearInput → Answer → GearNode
gear_then d g n (given.Drain f labels stable) r = gear_drained n
gear_then d g n (given.Show by p) r = gear_shows n p
gear_then d g n input r = gear_by_input d g n (site_of_gear g input) r

-- a gear's step: its answer, and the gear after it
abbrev pub gear_step : Deployed → ℕ → ℕ → GearNode → GearInput → Answer × GearNode
gear_step d i g n input = (gear_answer d i n input, gear_then d g n input (gear_answer d i n input))

-- whether an act of a gear is one of gear g: a write is of its least item's gear, a move of gear 0
abbrev pub is_own : Deployed → ℕ → GearInput → Bool
is_own d g (given.Tick ts) = true
is_own d g (given.Write seen items values) = gear_for d items == g
is_own d g (given.Read seen x) = gear_of d x == g
is_own d g (given.Move seen j) = 0 == g
is_own d g _ = false

-- the items and as many values
abbrev pub is_write : Deployed → Items → List (List ℕ) → Bool
is_write d items values = is_group d items && (length values == length (list_of items))

-- whether a payload has each of these parts
abbrev pub has_all : List (Option (List ℕ)) → Bool
has_all [] = true
has_all (o ∷ os) = is_some o && has_all os

-- the values of a payload, nothing where it has none
abbrev pub values_of : Payload → List (List ℕ)
values_of p = map (λ v. unwrap_or v []) p.values

-- an update, with as many values as items, all of them there, where it was just written
abbrev pub is_shown : Deployed → ShownBy → Payload → Kind → Bool
is_shown d ByWrite p (kind.Update items) = is_write d items (values_of p) && has_all p.values
is_shown d by p (kind.Update items) = true
is_shown d by p _ = false

-- whether an input fits gear g
abbrev pub gear_fits : Deployed → ℕ → GearInput → Bool
gear_fits d g (given.Tick ts) = is_time ts
gear_fits d g (given.Write seen items values) =
    is_carried d seen && (is_write d items values && (gear_for d items == g))
gear_fits d g (given.Read seen x) = is_carried d seen && (is_item d x && (gear_of d x == g))
gear_fits d g (given.Move seen j) = is_carried d seen && (is_site d j && (0 == g))
gear_fits d g (given.Drain f labels stable) = true
gear_fits d g (given.Show by p) = is_shown d by p p.label.kind

-- what a gear gives to a gather is its own
abbrev pub GivesOwn : GearNode → GearInput → Type 0
GivesOwn n (given.Drain f labels stable) = f ≡ drain_of n
GivesOwn n _ = Unit {0}

-- a write as an act of client c: of one item alone, or of several under one label
abbrev pub write_act : ℕ → Items → List (List ℕ) → Act
write_act c (One x) (value ∷ []) = act.Write c x value
write_act c items values = act.Writes c items values

-- the write of a label of this kind
abbrev pub written_act : ℕ → Kind → List (List ℕ) → Act
written_act c (kind.Update items) values = write_act c items values
written_act c _ values = act.Writes c (One 0) values

abbrev pub shown_act : ℕ → ℕ → ShownBy → Payload → Act
shown_act i c ByTurn p = act.Turn i
shown_act i c ByStamp p = act.Stamp i
shown_act i c ByWrite p = written_act c p.label.kind (values_of p)

-- the act that an input is at gear g of site i, by client c where it is a client's
abbrev pub gear_act : ℕ → ℕ → ℕ → GearInput → Act
gear_act i g c (given.Tick ts) = act.Tick i g ts
gear_act i g c (given.Write seen items values) = write_act c items values
gear_act i g c (given.Read seen x) = act.Read c x
gear_act i g c (given.Move seen j) = act.Move c j
gear_act i g c (given.Drain f labels stable) = act.Gather i
gear_act i g c (given.Show by p) = shown_act i c by p

-- what was handed to a gear with an input. A client that writes, reads or moves has its seat at the site
abbrev pub gear_handed : ℕ → GearInput → Handed
gear_handed i (given.Tick ts) = Plain Nothing
gear_handed i (given.Write seen items values) = Plain (OfClient seen (Some i))
gear_handed i (given.Read seen x) = Plain (OfClient seen (Some i))
gear_handed i (given.Move seen j) = Plain (OfClient seen (Some i))
gear_handed i (given.Drain f labels stable) = Drained
gear_handed i (given.Show by p) = Showing p
