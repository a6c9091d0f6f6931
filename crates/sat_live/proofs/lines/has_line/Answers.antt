use Rattle.sat_live.proofs.Journals.{bulk_at}
use Rattle.sat_live.proofs.lines.has_line.Goals as goal

pub returns-then-are_pair : goal.returns-then-are_pair
returns-then-are_pair c = λ less.
    bulk_at c.args.d.now c.args.act.now c.in-Bulk.from c.in-Bulk.gear c.in-Bulk.to c.gears-then-are_pair.result c.in-Bulk.number c.in-Bulk.is (c.are_pair.ensures c.if-are_pair.true) c.gears-then-are_pair.ensures.gears c.in_word_if.ensures less
