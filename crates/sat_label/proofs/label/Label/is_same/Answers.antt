use Rattle.std.proofs.Common.{◌∙◌}
use Rattle.sat_label.proofs.Derived.{labels-eq}
use Rattle.sat_label.proofs.label.Label.is_same.Goals as goal

pub returns : goal.returns
returns c = c.eq.ensures ∙ labels-eq c.args.self.now c.args.other.now
