use Rattle.std.proofs.Common.{rules, ℕ, ◌≡◌, ◌<◌, ◌+◌, ◌∷◌, [], ◌∙◌, true, sym, ap, subst, length, get_or, take}
use Rattle.std.proofs.lemmas.Iterator.Adapters.{YieldsList-from_vec}
use Rattle.std.proofs.lemmas.Iterator.Consumers.{YieldsList-turn}
use Rattle.std.proofs.lemmas.List.{length-append}
use Rattle.sat_proxy.specs.Helps.{LaneSeen, lane_after}
use Rattle.sat_proxy.proofs.Bulks.{came-on, is-in, lane-rows, one-comes}
use Rattle.sat_proxy.proofs.proxy.bring_all.Goals as goal

pub bring_next-requires-clause-site : goal.bring_next-requires-clause-site
bring_next-requires-clause-site c =
    let turn = YieldsList-turn (YieldsList-from_vec {s = c.into_iter-payload-iterator.result} c.args.payloads.items (search rules) (search rules)) c.loop-payload.yielded c.loop-payload.payload-iterator c.loop-payload.yielded_by c.next.result c.next.new.self c.in-Some.payload c.in-Some.is c.next.ensures.steps in
    let rows : length c.loop-payload.pool.rows ≡ length c.args.pool.now.rows =
    ap (λ (x : LaneSeen). length x.waits.rows) c.loop-payload.invariant.1
    ∙ lane-rows (take c.loop-payload.done c.args.payloads.items) (record { waits = c.args.pool.now; numbers = c.args.window.now }) c.args.first in
    subst (λ (m : ℕ). c.in-Some.payload.label.point.site < m) (sym rows)
    (c.requires.site c.in-Some.payload (is-in c.args.payloads.items (length c.loop-payload.yielded) c.in-Some.payload turn.0 turn.1))

pub loop-payload-preserved : goal.loop-payload-preserved
loop-payload-preserved c =
    let turn = YieldsList-turn (YieldsList-from_vec {s = c.into_iter-payload-iterator.result} c.args.payloads.items (search rules) (search rules)) c.loop-payload.yielded c.loop-payload.payload-iterator c.loop-payload.yielded_by c.next.result c.next.new.self c.in-Some.payload c.in-Some.is c.next.ensures.steps in
    let yes : c.bring_next.result ≡ true = search rules in
    let many : c.loop-payload.done ≡ length c.loop-payload.yielded = c.loop-payload.invariant.0 in
    let low : length c.loop-payload.yielded < length c.args.payloads.items = turn.0 in
    let was : LaneSeen = record { waits = c.args.pool.now; numbers = c.args.window.now } in (
      ap (λ (m : ℕ). m + 1) many ∙ sym (length-append c.loop-payload.yielded (c.in-Some.payload ∷ [])),
      c.bring_next.ensures.taken yes
          ∙ (ap (λ (x : LaneSeen). lane_after x (c.args.first + c.loop-payload.done) c.in-Some.payload) c.loop-payload.invariant.1
          ∙ sym (one-comes (record { waits = c.args.pool.now; numbers = c.args.window.now }) c.args.first c.loop-payload.done c.args.payloads.items c.in-Some.payload
          (subst (λ (m : ℕ). m < length c.args.payloads.items) (sym many) low)
          (turn.1 ∙ ap (λ (m : ℕ). get_or c.args.payloads.items m c.in-Some.payload) (sym many)))),
      came-on was c.args.first c.args.payloads.items c.loop-payload.done c.loop-payload.invariant.2
          (sym (c.bring_next.ensures.next yes ∙ ap (λ (x : LaneSeen). x.numbers.front) c.loop-payload.invariant.1)),
    )
