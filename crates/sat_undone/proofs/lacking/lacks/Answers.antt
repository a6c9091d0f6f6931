use Rattle.std.proofs.Common.{◌∙◌, sym, arith}
use Rattle.sat_undone.proofs.Tables.{number_is, small_count}
use Rattle.sat_undone.proofs.lacking.lacks.Goals as goal

pub count_more-count-requires-clause-small : goal.count_more-count-requires-clause-small
count_more-count-requires-clause-small c =
    let less = number_is c.args.clients c.in-Some.number _ (sym c.session_number.ensures ∙ c.in-Some.is) in
    let small = small_count c.args.clients c.in-Some.number c.requires.counts.0 c.args.counts.now.items c.requires.counts.2 less in
    let few = c.requires.counts.1 in
    omega (arith, small, few)
