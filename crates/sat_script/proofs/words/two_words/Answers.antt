use Rattle.std.proofs.Common.{arith}
use Rattle.sat_script.proofs.BlankPlaces.{one_at, words_two}
use Rattle.sat_script.proofs.words.two_words.Goals as goal

pub part-one-requires-clause-inside : goal.part-one-requires-clause-inside
part-one-requires-clause-inside c =
    let next = one_at c.args.line.now c.args.places.now c.from-a.result (omega (arith, c.fits-places)) c.requires c.from-a.ensures in
    let inside = next.inside in
    omega (arith, inside)

pub part-two-requires-clause-order : goal.part-two-requires-clause-order
part-two-requires-clause-order c =
    let next = one_at c.args.line.now c.args.places.now c.from-a.result (omega (arith, c.fits-places)) c.requires c.from-a.ensures in
    let inside = next.inside in
    omega (arith, inside)

pub returns : goal.returns
returns c =
    let next = one_at c.args.line.now c.args.places.now c.from-a.result (omega (arith, c.fits-places)) c.requires c.from-a.ensures in
    words_two c.args.line.now _ _ c.from-a.result next c.part-one.ensures c.part-two.ensures
