-- The parts of a round, as the calls do them.
use Rattle.std.specs.Prelude.{ℕ, List}
use Rattle.sat_label.specs.Words.{below}
use Rattle.sat_act.specs.declared.entry.Entry.{Entry}
use Rattle.sat_act.specs.Deployed.{Deployed}
use Rattle.sat_act.specs.Settling.{for_each, until_refused}
use Rattle.sat_settle.specs.RoundActs.{bulk_to, later_acts}

-- the payloads of gear g of site i for site j come until none is left, of different sites alone
abbrev pub bulks_to : Deployed → ℕ → ℕ → ℕ → List Entry → List Entry
bulks_to d i g j h = for_each (until_refused d) (bulk_to i g j) h

-- those of gear g of site i
abbrev pub bulks_by : Deployed → ℕ → ℕ → List Entry → List Entry
bulks_by d i g h = for_each (bulks_to d i g) (below d.sites) h

-- those of site i
abbrev pub bulks_out : Deployed → ℕ → List Entry → List Entry
bulks_out d i h = for_each (bulks_by d i) (below d.gears) h

-- those of all sites
abbrev pub bulked : Deployed → List Entry → List Entry
bulked d h = for_each (bulks_out d) (below d.sites) h

-- a round without its bulks
abbrev pub later_round : Deployed → List Entry → List Entry
later_round d h = for_each (until_refused d) (later_acts d) h
