use Rattle.std.proofs.Common.{◌≡◌, ◌++◌, take}
use Rattle.std.specs.List.{flat_map}
use Rattle.sat_parts_opened.specs.Keeping.{own_noted}
use Rattle.sat_parts_opened.proofs.entries.add_gear.Given as goal

abbrev pub invariant-loop-kept : goal.invariant-loop-kept
invariant-loop-kept g l = l.list ≡ l.initial.list ++ flat_map (own_noted l.site l.gear) (take l.kept-index l.journal)
