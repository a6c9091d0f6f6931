use Rattle.std.proofs.Common.{◌≡◌, ◌++◌, take}
use Rattle.sat_report.specs.Fronts.{Keeps}
use Rattle.sat_draw.specs.Elements.{escaped}
use Rattle.sat_draw.proofs.spell.append_escaped.Given as goal

abbrev pub invariant-loop-byte : goal.invariant-loop-byte
invariant-loop-byte l = Keeps l.fn.out.items l.out.items × (l.out.items ≡ l.fn.out.items ++ escaped (take l.byte-index l.text))
