use Rattle.std.proofs.Common.{rules, ◌≡◌, true, false, eqb, length, arith}
use Rattle.std.proofs.lemmas.Bool.Decides.{nat_tests}
use Rattle.sat_script.proofs.Trees.{seats_differ, made_tree, flawed_tree}
use Rattle.sat_script.proofs.header_lines.new_tree.Goals as goal

pub returns-then-seats-from : goal.returns-then-seats-from
returns-then-seats-from c =
    let other : eqb (length c.args.seats.now) c.args.sites ≡ false = grind (arith, nat_tests, c.if-seats-from.true, c.from.ensures) in
    seats_differ c.args.sites (record { parents = c.args.parents.now; seats = c.args.seats.now }) other

pub returns-in-Ok : goal.returns-in-Ok
returns-in-Ok c =
    let seats : eqb (length c.args.seats.now) c.args.sites ≡ true = grind (arith, nat_tests, c.if-seats-from.false, c.from.ensures) in
    made_tree c.args.sites (record { parents = c.args.parents.now; seats = c.args.seats.now }) c.in-Ok.tree c.new.result c.in-Ok.is c.new.ensures.tree c.new.ensures.fault seats

pub returns-in-Err : goal.returns-in-Err
returns-in-Err c =
    flawed_tree c.args.sites (record { parents = c.args.parents.now; seats = c.args.seats.now }) c.in-Err.field-0 c.new.result c.in-Err.is c.new.ensures.fault (search rules)
