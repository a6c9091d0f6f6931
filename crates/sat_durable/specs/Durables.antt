-- What contracts see of a machine that survives a stop.
use Rattle.std.specs.Prelude.{ℕ}
use Rattle.sat_durable.specs.declared.durable.Durable.{Durable}

-- its disk
abbrev pub disk_of : {D M I O : Type 0} {d : _} {m : _} → Durable D M I O d m → D
disk_of durable = durable.disk

-- the machine
abbrev pub machine_of : {D M I O : Type 0} {d : _} {m : _} → Durable D M I O d m → M
machine_of durable = durable.machine

-- how many bytes its records are
abbrev pub size_of : {D M I O : Type 0} {d : _} {m : _} → Durable D M I O d m → ℕ
size_of durable = durable.size
