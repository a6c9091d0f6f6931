use Rattle.std.proofs.Common.{map, arith}
use Rattle.std.specs.Prelude.{string_bytes}
use Rattle.std.proofs.lemmas.List.{length-map}
use Rattle.sat_top.proofs.Wordless.{many_words}
use Rattle.sat_top.proofs.words.command_of.Goals as goal

pub returns-in-len4-up-clause-command : goal.returns-in-len4-up-clause-command
returns-in-len4-up-clause-command c = many_words (map string_bytes c.args.words.now) (omega (arith, length-map c.args.words.now string_bytes, c.in-len4-up.len_at_least))
