use Rattle.sat_proxy.proofs.Sound.{fresh_done}
use Rattle.sat_proxy.proofs.proxy.Proxy.new.Goals as goal

pub invariant_of-result : goal.invariant_of-result
invariant_of-result c =
    fresh_done c.args.sites c.args.gears c.args.site c.in_ok-windows.windows.items c.in_ok-fronts.fronts.items c.in_ok-pool.pool c.in_ok-beats.beats c.in_ok-last.last.items c.requires c.in_ok-windows.ensures c.in_ok-fronts.ensures c.in_ok-pool.ensures c.in_ok-beats.ensures c.in_ok-last.ensures c.limits.ensures.pool c.limits.ensures.beats
