use Rattle.std.proofs.Common.{◌≡◌, map, filter}
use Rattle.std.specs.List.{join_with_byte}
use Rattle.std.specs.Fmt.{decimal}
use Rattle.sat_label.specs.Words.{below, bit}
use Rattle.sat_script.proofs.write_lines.sites_word.Given as goal

abbrev pub invariant-loop-site : goal.invariant-loop-site
invariant-loop-site l = l.word.items ≡ join_with_byte 44 (map decimal (filter (bit l.set.bits) (below l.site)))
