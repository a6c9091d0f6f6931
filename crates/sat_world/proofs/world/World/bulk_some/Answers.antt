use Rattle.std.proofs.Common.{◌<◌, ◌≤◌, ◌+◌, ◌-◌, ◌^◌, length, arith}
use Rattle.sat_world.proofs.Again.{on-err}
use Rattle.sat_world.proofs.Bulking.{copied-few, did-bulks, did-no-bulk, bulks-fit, gone-nothing, gone-seen, none-came, nothing-in}
use Rattle.sat_world.proofs.Deeds.{lane-gear, lane-site}
use Rattle.sat_world.proofs.world.World.bulk_some.Goals as goal

pub front-first-requires-clause-from : goal.front-first-requires-clause-from
front-first-requires-clause-from c = lane-site _ _ _ _ _ c.self.view_is c.self.invariant c.requires.act.0.1 c.index-receiver.ensures c.requires.act.0.0

pub front-first-requires-clause-gear : goal.front-first-requires-clause-gear
front-first-requires-clause-gear c = lane-gear _ _ _ _ _ c.self.view_is c.self.invariant c.requires.act.0.1 c.index-receiver.ensures c.requires.act.1

pub returns-then-first-clause-err : goal.returns-then-first-clause-err
returns-then-first-clause-err c = gone-nothing _ _

pub copies-requires-clause-gear : goal.copies-requires-clause-gear
copies-requires-clause-gear c = lane-gear _ _ _ _ _ c.self.view_is c.self.invariant c.requires.act.0.0 c.index-sender.ensures c.requires.act.1

pub copies-requires-clause-site : goal.copies-requires-clause-site
copies-requires-clause-site c = lane-site _ _ _ _ _ c.self.view_is c.self.invariant c.requires.act.0.0 c.index-sender.ensures c.requires.act.0.1

pub returns-in_err-payloads-clause-err : goal.returns-in_err-payloads-clause-err
returns-in_err-payloads-clause-err c = on-err _ _ (gone-nothing _ _)

pub returns-then-is_empty-clause-ok : goal.returns-then-is_empty-clause-ok
returns-then-is_empty-clause-ok c = gone-nothing _ _

pub returns-then-is_empty-clause-end : goal.returns-then-is_empty-clause-end
returns-then-is_empty-clause-end c = λ e. did-no-bulk _ _ _ _ _ _ _ _ _ _ c.self.view_is c.self.invariant c.requires.act c.index-sender.ensures c.index-receiver.ensures (λ d k s st. c.front-first.ensures.front d k s st) (λ d k s st. c.in_ok-payloads.ensures d k s st) (nothing-in _ _ c.in_ok-payloads.payloads.ok.0 c.if-is_empty.ensures) c.requires.some

pub bulk_all_at-came-requires-clause-fits : goal.bulk_all_at-came-requires-clause-fits
bulk_all_at-came-requires-clause-fits c =
    let few : length c.in_ok-payloads.payloads.items ≤ c.args.most = copied-few _ _ _ _ _ _ _ _ _ c.self.view_is c.self.invariant c.requires.act.0.0 c.index-sender.ensures (λ d k s st. c.in_ok-payloads.ensures d k s st) in
    let low : c.front-first.result < 2 ^ 63 - 256 = omega arith in
    let small : c.front-first.result + length c.in_ok-payloads.payloads.items < 2 ^ 63 = omega arith in
    bulks-fit _ _ _ _ _ _ _ _ _ _ c.self.view_is c.self.invariant c.requires.act c.index-sender.ensures c.index-receiver.ensures (λ d k s st. c.in_ok-payloads.ensures d k s st) small

pub invariant_of-self : goal.invariant_of-self
invariant_of-self c =
    let few : length c.in_ok-payloads.payloads.items ≤ c.args.most = copied-few _ _ _ _ _ _ _ _ _ c.self.view_is c.self.invariant c.requires.act.0.0 c.index-sender.ensures (λ d k s st. c.in_ok-payloads.ensures d k s st) in
    let low : c.front-first.result < 2 ^ 63 - 256 = omega arith in
    let small : c.front-first.result + length c.in_ok-payloads.payloads.items < 2 ^ 63 = omega arith in
    (did-bulks _ _ _ _ _ _ _ _ _ _ _ _ c.self.view_is c.self.invariant c.requires.act c.index-sender.ensures c.index-receiver.ensures (λ d k s st. c.in_ok-payloads.ensures d k s st) small c.bulk_all_at-came.ensures.bulks).world

pub returns-then-came-eq0-clause-err : goal.returns-then-came-eq0-clause-err
returns-then-came-eq0-clause-err c =
    let few : length c.in_ok-payloads.payloads.items ≤ c.args.most = copied-few _ _ _ _ _ _ _ _ _ c.self.view_is c.self.invariant c.requires.act.0.0 c.index-sender.ensures (λ d k s st. c.in_ok-payloads.ensures d k s st) in
    let low : c.front-first.result < 2 ^ 63 - 256 = omega arith in
    let small : c.front-first.result + length c.in_ok-payloads.payloads.items < 2 ^ 63 = omega arith in
    none-came _ _ _ _ _ c.self.view_is c.if-came-eq0.true (did-bulks _ _ _ _ _ _ _ _ _ _ _ _ c.self.view_is c.self.invariant c.requires.act c.index-sender.ensures c.index-receiver.ensures (λ d k s st. c.in_ok-payloads.ensures d k s st) small c.bulk_all_at-came.ensures.bulks)

pub invariant_of-self-2 : goal.invariant_of-self-2
invariant_of-self-2 c =
    let few : length c.in_ok-payloads.payloads.items ≤ c.args.most = copied-few _ _ _ _ _ _ _ _ _ c.self.view_is c.self.invariant c.requires.act.0.0 c.index-sender.ensures (λ d k s st. c.in_ok-payloads.ensures d k s st) in
    let low : c.front-first.result < 2 ^ 63 - 256 = omega arith in
    let small : c.front-first.result + length c.in_ok-payloads.payloads.items < 2 ^ 63 = omega arith in
    (did-bulks _ _ _ _ _ _ _ _ _ _ _ _ c.self.view_is c.self.invariant c.requires.act c.index-sender.ensures c.index-receiver.ensures (λ d k s st. c.in_ok-payloads.ensures d k s st) small c.bulk_all_at-came.ensures.bulks).world

pub returns-clause-ok : goal.returns-clause-ok
returns-clause-ok c =
    let few : length c.in_ok-payloads.payloads.items ≤ c.args.most = copied-few _ _ _ _ _ _ _ _ _ c.self.view_is c.self.invariant c.requires.act.0.0 c.index-sender.ensures (λ d k s st. c.in_ok-payloads.ensures d k s st) in
    let low : c.front-first.result < 2 ^ 63 - 256 = omega arith in
    let small : c.front-first.result + length c.in_ok-payloads.payloads.items < 2 ^ 63 = omega arith in
    gone-seen _ _ _ _ _ c.self.view_is (did-bulks _ _ _ _ _ _ _ _ _ _ _ _ c.self.view_is c.self.invariant c.requires.act c.index-sender.ensures c.index-receiver.ensures (λ d k s st. c.in_ok-payloads.ensures d k s st) small c.bulk_all_at-came.ensures.bulks)

pub returns-clause-most : goal.returns-clause-most
returns-clause-most c =
    let few : length c.in_ok-payloads.payloads.items ≤ c.args.most = copied-few _ _ _ _ _ _ _ _ _ c.self.view_is c.self.invariant c.requires.act.0.0 c.index-sender.ensures (λ d k s st. c.in_ok-payloads.ensures d k s st) in
    let count : c.bulk_all_at-came.result ≤ length c.in_ok-payloads.payloads.items = c.bulk_all_at-came.ensures.count in
    omega arith
