use Rattle.std.proofs.Common.{sym}
use Rattle.sat_label.proofs.Names.{is_text}
use Rattle.sat_label.proofs.text.Name.of.Goals as goal

pub unreachable-requires : goal.unreachable-requires
unreachable-requires c = c.in_default.ensures.cases.0 (is_text c.args.text.now (sym c.if-not-spells_name.ensures))
