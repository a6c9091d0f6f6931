use Rattle.std.proofs.Common.{◌≡◌, ◌++◌, drop}
use Rattle.sat_script.specs.Spelled.{clients_text}
use Rattle.sat_script.proofs.write.clients_bytes.Given as goal

abbrev pub invariant-loop-client : goal.invariant-loop-client
invariant-loop-client l = l.text.items ++ clients_text (drop l.client-index l.clients) ≡ clients_text l.clients
