use Rattle.std.proofs.Common.{◌<◌, Err, ap, arith}
use Rattle.sat_parts_pump.proofs.keeping.tick.Goals as goal

pub returns-then-ts-promise_of-clause-worn : goal.returns-then-ts-promise_of-clause-worn
returns-then-ts-promise_of-clause-worn g c = ((λ e. absurd (cc (e))), λ w. absurd (let t = c.if-ts-promise_of.true in let p = c.promise_of.ensures.promise in let l = w.0 in omega arith))

pub returns-in-Err-clause-worn : goal.returns-in-Err-clause-worn
returns-in-Err-clause-worn g c =
    let below : c.args.gear.now.node.machine.promise < c.args.ts = (let f = c.if-ts-promise_of.false in let p = c.promise_of.ensures.promise in omega arith) in
    ((λ e. (below, c.in-Err.ensures.worn.0 (cc (e)))), λ w. ap Err (c.in-Err.ensures.worn.1 w.1))

pub returns-clause-worn : goal.returns-clause-worn
returns-clause-worn g c = ((λ e. absurd (cc (e))), λ w. absurd (c.in_default.ensures.number w.1))
