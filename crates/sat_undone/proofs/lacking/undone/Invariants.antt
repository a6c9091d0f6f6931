use Rattle.std.proofs.Common.{◌≡◌, [], take, drop}
use Rattle.std.specs.List.{AllByRecursion}
use Rattle.sat_undone.specs.Counted.{AreCounts, IsKnown}
use Rattle.sat_undone.specs.Undone.{undone_behind}
use Rattle.sat_undone.proofs.lacking.undone.Given as goal

abbrev pub invariant-loop-place : goal.invariant-loop-place
invariant-loop-place l = record {
  counts : AreCounts l.clients (take l.place l.acts) l.counts.items;
  known : AllByRecursion (IsKnown l.clients) (drop l.place l.acts);
  first : undone_behind l.entries (take l.place l.acts) (drop l.place l.acts) ≡ undone_behind l.entries [] l.acts;
}
