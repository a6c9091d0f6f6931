use Rattle.std.proofs.Common.{eqb, false, ◌≡◌, length, arith}
use Rattle.std.proofs.lemmas.Bool.Decides.{nat_tests}
use Rattle.sat_script.proofs.Order.{as_long, by_length}
use Rattle.sat_script.proofs.number.is_less.Goals as goal

pub returns-then-a-b : goal.returns-then-a-b
returns-then-a-b c = rw (c.is_lt.ensures, c.cmp.ensures) (as_long c.args.a.now c.args.b.now c.requires.a c.requires.b c.if-a-b.true)

pub returns-else-a-b : goal.returns-else-a-b
returns-else-a-b c =
    let apart = c.if-a-b.false in
    let other : eqb (length c.args.a.now) (length c.args.b.now) ≡ false = grind (arith, nat_tests, apart) in
    by_length c.args.a.now c.args.b.now c.requires.a c.requires.b other
