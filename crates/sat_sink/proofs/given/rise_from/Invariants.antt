use Rattle.std.proofs.Common.{◌≡◌, drop}
use Rattle.sat_sink.specs.Sink.{are_new}
use Rattle.sat_sink.proofs.given.rise_from.Given as goal

abbrev pub invariant-loop-label : goal.invariant-loop-label
invariant-loop-label l = are_new l.site l.gear l.high (drop l.label-index l.labels) l.last ≡ are_new l.site l.gear l.high l.labels l.low
