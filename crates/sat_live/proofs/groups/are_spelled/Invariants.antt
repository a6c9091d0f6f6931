use Rattle.std.proofs.Common.{take}
use Rattle.std.specs.List.{AllByRecursion}
use Rattle.sat_live.specs.Naming.{IsSpelled}
use Rattle.sat_live.proofs.groups.are_spelled.Given as goal

abbrev pub invariant-values : goal.invariant-values
invariant-values l = AllByRecursion IsSpelled (take l.value-index l.values)
