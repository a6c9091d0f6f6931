use Rattle.std.proofs.Common.{◌≡◌, length, take}
use Rattle.sat_proxy.specs.Helps.{ComeInLane, lane_afters}
use Rattle.sat_proxy.proofs.proxy.bring_all.Given as goal

abbrev pub invariant-loop-payload : goal.invariant-loop-payload
invariant-loop-payload l =
    (l.done ≡ length l.yielded)
    × (record { waits = l.pool; numbers = l.window } ≡ lane_afters (record { waits = l.fn.pool; numbers = l.fn.window }) l.first (take l.done l.fn.payloads.items))
    × ComeInLane (record { waits = l.fn.pool; numbers = l.fn.window }) l.first l.fn.payloads.items l.done
