use Rattle.std.proofs.Common.{arith, rules}
use Rattle.sat_label.specs.Grouped.{list_of}
use Rattle.sat_report.proofs.KeptNames.{none_kept, some_kept}
use Rattle.sat_report.proofs.items.write_kept_names.Goals as goal

pub returns-then-at-end-clause-written : goal.returns-then-at-end-clause-written
returns-then-at-end-clause-written c =
    some_kept c.args.d.now c.args.site (list_of c.args.items) c.write_next_names-at.new.text c.args.text.now c.write_next_names-at.result c.args.end (search rules) (search rules) c.if-at-end.true c.write_next_names-at.ensures.written

pub returns-else-at-end-clause-written : goal.returns-else-at-end-clause-written
returns-else-at-end-clause-written c =
    none_kept c.args.d.now c.args.site (list_of c.args.items) c.write_next_names-at.new.text c.args.text.now c.write_next_names-at.result c.args.end (search rules) (search rules) (omega arith) c.write_next_names-at.ensures.written
