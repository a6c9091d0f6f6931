use Rattle.std.proofs.Common.{sym, ◌∙◌}
use Rattle.sat_sink.proofs.Fits.{goes-on, on-goes}
use Rattle.sat_sink.proofs.given.goes_on.Goals as goal

pub returns-then-promise-given : goal.returns-then-promise-given
returns-then-promise-given c = λ s own same. (
  λ e. goes-on s c.args.site c.args.gear c.args.promise c.args.given.now c.as_slice.result.now own same c.as_slice.ensures c.if-promise-given.true (sym c.rise_from.ensures ∙ e),
  λ k. c.rise_from.ensures ∙ (on-goes s c.args.site c.args.gear c.args.promise c.args.given.now c.as_slice.result.now own same c.as_slice.ensures k).1,
)
