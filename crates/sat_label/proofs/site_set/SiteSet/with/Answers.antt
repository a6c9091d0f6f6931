use Rattle.std.proofs.Common.{◌∙◌, ap, ◌||◌}
use Rattle.sat_label.specs.Words.{bit}
use Rattle.sat_label.proofs.Bits.{bit-or, bit-one}
use Rattle.sat_label.specs.Words.{bit}
use Rattle.sat_label.proofs.site_set.SiteSet.with.Goals as goal

-- src/site_set.rt:36:5
pub returns : goal.returns
returns c = λ k. bit-or _ _ k ∙ ap (λ b. bit c.args.self.now.bits k || b) (bit-one _ k c.requires)
