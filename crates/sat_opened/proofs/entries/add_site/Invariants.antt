use Rattle.std.proofs.Common.{◌≡◌, ◌++◌, map, take}
use Rattle.sat_opened.specs.Keeping.{site_kept, kept_under}
use Rattle.sat_opened.proofs.entries.add_site.Given as goal

abbrev pub invariant-loop-kept : goal.invariant-loop-kept
invariant-loop-kept g l = l.list ≡ l.initial.list ++ map (kept_under (site_kept l.site)) (take l.kept-index l.journal)
