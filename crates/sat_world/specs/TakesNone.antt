-- The acts that take no memory.
use Rattle.std.specs.Prelude.{Bool, true, false}
use Rattle.sat_act.specs.declared.act.Act.{Act}
use Rattle.sat_act.specs.declared.act.Act.TheVariants as act

-- acts that take no memory
abbrev pub takes_none : Act → Bool
takes_none (act.Tick i g ts) = true
takes_none act.Clock = true
takes_none (act.Leave c) = true
takes_none (act.Attach c j) = true
takes_none (act.Turn j) = true
takes_none (act.Stamp j) = true
takes_none (act.Fall j) = true
takes_none (act.Advance j) = true
takes_none (act.Kill e z) = true
takes_none _ = false
