-- How long lists are at the most.
use Rattle.std.proofs.Common.{◌≡◌, ℕ, ◌<◌, ◌≤◌, true, List, length, arith}
use Rattle.std.specs.Prelude.{nat_lt}
use Rattle.std.specs.List.{flat_map}
use Rattle.std.proofs.lemmas.Bool.Decides.{nat_tests}
use Rattle.sat_label.specs.declared.point.Point.{Point}
use Rattle.sat_wire.specs.Code.{all_fit, number64}
use Rattle.sat_wire.specs.Exact.{exact64, members_short}
use Rattle.sat_wire.specs.Labels.{exact_point, point}
use Rattle.sat_wire.specs.Texts.{exact_value, value}

pub points_few : (xs : List Point) (n : ℕ) → nat_lt (length xs) 65536 ≡ true → all_fit point xs ≡ true → n ≡ length (flat_map point.spell xs) → n ≤ 786420
points_few xs n few fit is = let short = members_short point exact_point xs fit in let below : length xs < 65536 = grind (arith, nat_tests, few) in omega (arith, short, below, is)

pub counts_few : (xs : List ℕ) (n : ℕ) → nat_lt (length xs) 65536 ≡ true → all_fit number64 xs ≡ true → n ≡ length (flat_map number64.spell xs) → n ≤ 524280
counts_few xs n few fit is = let short = members_short number64 exact64 xs fit in let below : length xs < 65536 = grind (arith, nat_tests, few) in omega (arith, short, below, is)

pub values_few : (xs : List (List ℕ)) (n : ℕ) → nat_lt (length xs) 256 ≡ true → all_fit value xs ≡ true → n ≡ length (flat_map value.spell xs) → n ≤ 65790
values_few xs n few fit is = let short = members_short value exact_value xs fit in let below : length xs < 256 = grind (arith, nat_tests, few) in omega (arith, short, below, is)
