use Rattle.std.proofs.Common.{◌≡◌, take, drop}
use Rattle.sat_serial.specs.Outboxes.{after_handles}
use Rattle.sat_serial.proofs.serializer.Serializer.handle_all.Given as goal

abbrev pub invariant-loop : goal.invariant-loop
invariant-loop l = record {
  after : l.self ≡ after_handles l.initial.self l.interest l.from (take l.counter l.initial.labels.members);
  left : l.labels.members ≡ drop l.counter l.initial.labels.members;
}
