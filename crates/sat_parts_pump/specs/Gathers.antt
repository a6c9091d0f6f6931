-- Whether a hub gathers from its gears.
use Rattle.std.specs.Prelude.{◌&&◌, ◌||◌, Bool, false, List, [], ◌∷◌}
use Rattle.sat_gear.specs.Gear.{is_due}
use Rattle.sat_parts.specs.declared.hub_input.HubInput.TheVariants as hub
use Rattle.sat_parts.specs.HubSteps.{hub_takes}
use Rattle.sat_parts_passes.specs.Gathers.{GearHeld, given_by}
use Rattle.sat_parts_passes.specs.Sendings.{HubHeld}
use Rattle.sat_parts_pump.specs.declared.lending.Lent.TheVariants.{All}
use Rattle.sat_parts_pump.specs.Lent.{are_lent}

-- whether a gather is due because of one of these gears
abbrev pub any_due : List GearHeld → Bool
any_due [] = false
any_due (g ∷ gs) = is_due g.node.machine || any_due gs

-- whether these are all gears of the hub's site, and it is
abbrev pub may_gather : HubHeld → List GearHeld → Bool
may_gather h gears = are_lent h.node.machine.shape All gears && any_due gears

-- and whether the hub may then be handed what they give, which is so of the gears of its site
abbrev pub would_gather : HubHeld → List GearHeld → Bool
would_gather h gears = may_gather h gears && hub_takes h.node.machine (hub.Gather (given_by gears))
