use Rattle.std.proofs.Common.{take}
use Rattle.std.specs.List.{AllByRecursion}
use Rattle.sat_live.specs.Naming.{IsNamedItem}
use Rattle.sat_live.proofs.names.item_names.Given as goal

abbrev pub invariant-items : goal.invariant-items
invariant-items l = AllByRecursion IsNamedItem (take l.item-index l.items)
