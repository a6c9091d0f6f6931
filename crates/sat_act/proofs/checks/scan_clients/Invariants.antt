use Rattle.std.proofs.Common.{◌≡◌, None}
use Rattle.sat_label.specs.Words.{first_failing}
use Rattle.sat_act.specs.Flaw.{client_fits}
use Rattle.sat_act.proofs.checks.scan_clients.Given as goal

abbrev pub invariant-loop-c : goal.invariant-loop-c
invariant-loop-c l = first_failing (client_fits l.sites l.clients) l.c ≡ None
