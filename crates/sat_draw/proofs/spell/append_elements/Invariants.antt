use Rattle.std.proofs.Common.{◌≡◌, ◌++◌, take}
use Rattle.sat_report.specs.Fronts.{Keeps}
use Rattle.sat_draw.specs.Elements.{spelled}
use Rattle.sat_draw.proofs.spell.append_elements.Given as goal

abbrev pub invariant-loop-element : goal.invariant-loop-element
invariant-loop-element l = Keeps l.fn.out.items l.out.items × (l.out.items ≡ l.fn.out.items ++ spelled (take l.element-index l.elements))
