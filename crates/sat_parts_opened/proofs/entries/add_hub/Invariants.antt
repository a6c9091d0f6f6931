use Rattle.std.proofs.Common.{◌≡◌, ◌++◌, map, take}
use Rattle.sat_parts_opened.specs.Keeping.{hub_noted}
use Rattle.sat_parts_opened.proofs.entries.add_hub.Given as goal

abbrev pub invariant-loop-kept : goal.invariant-loop-kept
invariant-loop-kept g l = l.list ≡ l.initial.list ++ map (hub_noted l.site) (take l.kept-index l.journal)
