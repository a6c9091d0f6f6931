use Rattle.std.proofs.Common.{arith, inl, inr}
use Rattle.std.proofs.lemmas.Bool.Decides.{nat_tests}
use Rattle.sat_script.proofs.Forms.{sites_line-other}
use Rattle.sat_script.proofs.header_lines.sites_line.Goals as goal
use Rattle.sat_script.proofs.header_lines.sites_line.Goals.{in_default-via-then-words-lt2, in_default-via-else-words-lt2+else-words-lt3}

pub returns-in_default : goal.returns-in_default
returns-in_default c = elim c.in_default.branch [
  | in_default-via-then-words-lt2 w ↦ λ _. sites_line-other c.args.place.now c.args.words.now (inl (grind (arith, nat_tests)))
  | in_default-via-else-words-lt2+else-words-lt3 w ↦ λ _. sites_line-other c.args.place.now c.args.words.now (inr (grind (arith, nat_tests)))
]
