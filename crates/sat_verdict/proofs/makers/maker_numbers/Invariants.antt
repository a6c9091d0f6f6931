use Rattle.std.specs.Prelude.{◌≡◌, take, reverse, map}
use Rattle.sat_verdict.specs.Tables.{number_in}
use Rattle.sat_verdict.proofs.makers.maker_numbers.Given as goal

abbrev pub invariant-loop-tale : goal.invariant-loop-tale
invariant-loop-tale l = l.numbers.items ≡ map (number_in (reverse l.tales)) (take l.tale-index l.tales)
