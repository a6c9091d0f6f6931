use Rattle.std.proofs.Common.{arith}
use Rattle.sat_script.proofs.BlankPlaces.{three_at, words_four}
use Rattle.sat_script.proofs.words.four_words.Goals as goal

pub part-one-requires-clause-inside : goal.part-one-requires-clause-inside
part-one-requires-clause-inside c =
    let next = three_at c.args.line.now c.args.places.now c.from-a.result c.from-b.result c.from-c.result (omega (arith, c.fits-places)) c.requires c.from-a.ensures c.from-b.ensures c.from-c.ensures in
    let inside = next.0.inside in
    omega (arith, inside)

pub part-two-requires-clause-order : goal.part-two-requires-clause-order
part-two-requires-clause-order c =
    let next = three_at c.args.line.now c.args.places.now c.from-a.result c.from-b.result c.from-c.result (omega (arith, c.fits-places)) c.requires c.from-a.ensures c.from-b.ensures c.from-c.ensures in
    let from = next.1.from in
    omega (arith, from)

pub part-two-requires-clause-inside : goal.part-two-requires-clause-inside
part-two-requires-clause-inside c =
    let next = three_at c.args.line.now c.args.places.now c.from-a.result c.from-b.result c.from-c.result (omega (arith, c.fits-places)) c.requires c.from-a.ensures c.from-b.ensures c.from-c.ensures in
    let inside = next.1.inside in
    omega (arith, inside)

pub part-three-requires-clause-order : goal.part-three-requires-clause-order
part-three-requires-clause-order c =
    let next = three_at c.args.line.now c.args.places.now c.from-a.result c.from-b.result c.from-c.result (omega (arith, c.fits-places)) c.requires c.from-a.ensures c.from-b.ensures c.from-c.ensures in
    let from = next.2.from in
    omega (arith, from)

pub part-three-requires-clause-inside : goal.part-three-requires-clause-inside
part-three-requires-clause-inside c =
    let next = three_at c.args.line.now c.args.places.now c.from-a.result c.from-b.result c.from-c.result (omega (arith, c.fits-places)) c.requires c.from-a.ensures c.from-b.ensures c.from-c.ensures in
    let inside = next.2.inside in
    omega (arith, inside)

pub part-four-requires-clause-order : goal.part-four-requires-clause-order
part-four-requires-clause-order c =
    let next = three_at c.args.line.now c.args.places.now c.from-a.result c.from-b.result c.from-c.result (omega (arith, c.fits-places)) c.requires c.from-a.ensures c.from-b.ensures c.from-c.ensures in
    let inside = next.2.inside in
    omega (arith, inside)

pub returns : goal.returns
returns c =
    let next = three_at c.args.line.now c.args.places.now c.from-a.result c.from-b.result c.from-c.result (omega (arith, c.fits-places)) c.requires c.from-a.ensures c.from-b.ensures c.from-c.ensures in
    words_four c.args.line.now _ _ _ _ c.from-a.result c.from-b.result c.from-c.result next.0 next.1 next.2 c.part-one.ensures c.part-two.ensures c.part-three.ensures c.part-four.ensures
