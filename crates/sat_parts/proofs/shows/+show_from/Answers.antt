use Rattle.sat_parts.proofs.GearCode.{shown_none}
use Rattle.sat_parts.proofs.shows.+show_from.Goals as goal

pub returns-in-None : goal.returns-in-None
returns-in-None t c = shown_none _ _ _ _ c.in-None.ensures.cases
