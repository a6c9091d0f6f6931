use Rattle.std.proofs.Common.{rules, ◌≡◌, ◌<◌, length, refl, Some, slice_get}
use Rattle.std.proofs.lemmas.Option.{slice_get_read}
use Rattle.sat_wires.proofs.Pairs.{in_there}
use Rattle.sat_wires.proofs.ends.Ends.take_in.Goals as goal

pub returns : goal.returns
returns g c =
    let ends = c.self.inside.ins.items in
    let was = c.index_mut.result.now in
    let less : c.args.place < length ends = search rules in
    let at : slice_get ends c.args.place ≡ Some was = slice_get_read ends (length ends) c.args.place was refl less c.index_mut.ensures.value in
    in_there ends c.args.place was c.take.result c.self.invariant.1 at c.take.ensures.value
