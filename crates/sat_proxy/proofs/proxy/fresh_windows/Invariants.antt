use Rattle.std.proofs.Common.{◌≡◌, replicate}
use Rattle.sat_proxy.specs.Proxy.{no_numbers}
use Rattle.sat_proxy.proofs.proxy.fresh_windows.Given as goal

abbrev pub invariant-loop : goal.invariant-loop
invariant-loop l = l.windows.items ≡ replicate l.counter no_numbers
