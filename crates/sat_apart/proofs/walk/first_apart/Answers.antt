use Rattle.std.proofs.Common.{◌≡◌, Some, arith}
use Rattle.sat_apart.proofs.Walking.{apart-here, ends-here, finds-some, none-is, numbers-are, same-here}
use Rattle.sat_apart.proofs.walk.first_apart.Goals as goal

pub loop-place-init : goal.loop-place-init
loop-place-init g c = tt

pub returns-then-not-is_same-clause-apart : goal.returns-then-not-is_same-clause-apart
returns-then-not-is_same-clause-apart g c =
    apart-here g.T.Numbered.place c.args.left.now c.args.right.now c.loop-place.place c.shorter-shared.result c.index-left-place.result c.index-right-place.result c.index-left-place-then-not-is_same.result
    c.index-right-place-then-not-is_same.result c.is_same.result c.at_members.result c.requires.left c.requires.right c.loop-place.invariant c.shorter-shared.ensures c.loop-place-test.true c.index-left-place.is
    c.index-right-place.is c.index-left-place-then-not-is_same.is c.index-right-place-then-not-is_same.is c.if-not-is_same.true c.is_same.ensures.1 c.at_members.ensures

pub returns-then-not-is_same-clause-numbers : goal.returns-then-not-is_same-clause-numbers
returns-then-not-is_same-clause-numbers g c =
    numbers-are g.T.Numbered.place c.args.left.now c.args.right.now (Some c.at_members.result)
    (apart-here g.T.Numbered.place c.args.left.now c.args.right.now c.loop-place.place c.shorter-shared.result c.index-left-place.result c.index-right-place.result c.index-left-place-then-not-is_same.result
    c.index-right-place-then-not-is_same.result c.is_same.result c.at_members.result c.requires.left c.requires.right c.loop-place.invariant c.shorter-shared.ensures c.loop-place-test.true c.index-left-place.is
    c.index-right-place.is c.index-left-place-then-not-is_same.is c.index-right-place-then-not-is_same.is c.if-not-is_same.true c.is_same.ensures.1 c.at_members.ensures)

pub loop-place-preserved : goal.loop-place-preserved
loop-place-preserved g c =
    same-here g.T.Numbered.place c.args.left.now c.args.right.now c.loop-place.place c.shorter-shared.result c.index-left-place.result c.index-right-place.result c.is_same.result c.loop-place.invariant c.shorter-shared.ensures
    c.loop-place-test.true c.index-left-place.is c.index-right-place.is c.if-not-is_same.false c.is_same.ensures.0

pub returns-clause-none : goal.returns-clause-none
returns-clause-none g c =
    let past = c.loop-place-test.false in
    let most = c.loop-place.auto.place-end in
    let whole : c.loop-place.place ≡ c.shorter-shared.result = omega arith in
    none-is g.T.Numbered.place c.args.left.now c.args.right.now c.at_end.result
    (ends-here g.T.Numbered.place c.args.left.now c.args.right.now c.loop-place.place c.shorter-shared.result c.at_end.result c.requires.left c.requires.right c.loop-place.invariant c.shorter-shared.ensures whole c.at_end.ensures)

pub returns-clause-apart : goal.returns-clause-apart
returns-clause-apart g c =
    let past = c.loop-place-test.false in
    let most = c.loop-place.auto.place-end in
    let whole : c.loop-place.place ≡ c.shorter-shared.result = omega arith in
    finds-some g.T.Numbered.place c.args.left.now c.args.right.now c.at_end.result
    (ends-here g.T.Numbered.place c.args.left.now c.args.right.now c.loop-place.place c.shorter-shared.result c.at_end.result c.requires.left c.requires.right c.loop-place.invariant c.shorter-shared.ensures whole c.at_end.ensures)

pub returns-clause-numbers : goal.returns-clause-numbers
returns-clause-numbers g c =
    let past = c.loop-place-test.false in
    let most = c.loop-place.auto.place-end in
    let whole : c.loop-place.place ≡ c.shorter-shared.result = omega arith in
    numbers-are g.T.Numbered.place c.args.left.now c.args.right.now c.at_end.result
    (ends-here g.T.Numbered.place c.args.left.now c.args.right.now c.loop-place.place c.shorter-shared.result c.at_end.result c.requires.left c.requires.right c.loop-place.invariant c.shorter-shared.ensures whole c.at_end.ensures)
