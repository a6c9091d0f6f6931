use Rattle.std.proofs.Common.{sym, ◌∙◌}
use Rattle.sat_hub.proofs.Wholes.{not-whole}
use Rattle.sat_hub.proofs.fitting.has_parts.Goals as goal

pub returns-then-len : goal.returns-then-len
returns-then-len c = not-whole c.args.shape.now _ _ (λ e. c.if-len.true (c.len.ensures ∙ (e ∙ sym c.len-2.ensures)))
