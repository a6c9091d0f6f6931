use Rattle.std.proofs.Common.{◌≡◌, Some, None, ap, ◌∙◌}
use Rattle.sat_pool.specs.Pool.{Waiting, after_take, waiting_at}
use Rattle.sat_proxy.proofs.Pools.{added-waits, added-away, some_is}
use Rattle.sat_proxy.proofs.proxy.take_both.Goals as goal

pub returns-in-None-clause-waits : goal.returns-in-None-clause-waits
returns-in-None-clause-waits c =
    let there : waiting_at c.add.new.self c.args.payload.label.point ≡ Some c.args.payload = ap (λ (w : Waiting). waiting_at w c.args.payload.label.point) c.in_ok-add.ensures.ok ∙ added-waits _ _ c.requires.site c.requires.alone in
    let none : None ≡ Some c.args.payload = (rw c.label.ensures at c.in-None.ensures.found) ∙ there in
    absurd (cc)

pub returns-in-None-clause-number : goal.returns-in-None-clause-number
returns-in-None-clause-number c =
    let there : waiting_at c.add.new.self c.args.payload.label.point ≡ Some c.args.payload = ap (λ (w : Waiting). waiting_at w c.args.payload.label.point) c.in_ok-add.ensures.ok ∙ added-waits _ _ c.requires.site c.requires.alone in
    let none : None ≡ Some c.args.payload = (rw c.label.ensures at c.in-None.ensures.found) ∙ there in
    absurd (cc)

pub returns-in-Some-clause-back : goal.returns-in-Some-clause-back
returns-in-Some-clause-back c =
    let there : waiting_at c.add.new.self c.args.payload.label.point ≡ Some c.args.payload = ap (λ (w : Waiting). waiting_at w c.args.payload.label.point) c.in_ok-add.ensures.ok ∙ added-waits _ _ c.requires.site c.requires.alone in
    some_is _ _ ((rw c.label.ensures at c.in-Some.ensures.found) ∙ there)

pub returns-in-Some-clause-pool : goal.returns-in-Some-clause-pool
returns-in-Some-clause-pool c = (rw c.label.ensures at c.in-Some.ensures.new) ∙ (ap (λ (w : Waiting). after_take w c.args.payload.label.point) c.in_ok-add.ensures.ok ∙ added-away _ _ c.requires.site c.requires.alone)
