use Rattle.std.proofs.Common.{◌∙◌}
use Rattle.sat_label.proofs.Derived.{labels-lt}
use Rattle.sat_label.proofs.label.Label.is_below.Goals as goal

pub returns : goal.returns
returns c = c.lt.ensures ∙ labels-lt c.args.self.now c.args.other.now
