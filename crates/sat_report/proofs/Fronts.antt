-- What stands in a buffer through several additions.
use Rattle.std.proofs.Common.{ℕ, ◌≤◌, List, length, take, sym, ap, ◌∙◌, arith, length-take}
use Rattle.std.proofs.lemmas.List.{take-take}
use Rattle.sat_report.specs.Fronts.{Keeps}

-- what keeps a later text keeps the earlier one that stands in it
pub keeps_on : (old mid new : List ℕ) → Keeps old mid → Keeps mid new → Keeps old new
keeps_on old mid new earlier later =
    let shorter : length old ≤ length mid = omega (arith, ap length earlier, length-take (length old) mid) in
    sym (take-take (length old) (length mid) new shorter) ∙ ap (take (length old)) later ∙ earlier
