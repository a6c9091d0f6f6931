use Rattle.std.proofs.Common.{◌≡◌, length, map, take}
use Rattle.sat_hub.specs.Changes.{counts_of}
use Rattle.sat_hub.proofs.tally.take_all.Given as goal

abbrev pub invariant-loop-place : goal.invariant-loop-place
invariant-loop-place l = record {
  size : length l.rows ≡ length l.initial.rows;
  counted : take l.place l.rows ≡ map counts_of (take l.place l.drained);
}
