use Rattle.std.proofs.Common.{◌≡◌, length, take}
use Rattle.std.specs.List.{flat_map}
use Rattle.sat_sink.specs.Pending.{labels_of}
use Rattle.sat_hub.proofs.hub.count_given.Given as goal

abbrev pub invariant-loop-given : goal.invariant-loop-given
invariant-loop-given l = l.count ≡ length (flat_map labels_of (take l.given-index l.drained))
