use Rattle.std.proofs.Common.{rules, ◌≡◌, ◌<◌, ◌≤◌, ◌∙◌, sym, length, vec_len, vec_capacity, arith}
use Rattle.std.proofs.lemmas.Iterator.Adapters.{YieldsList-from_vec}
use Rattle.std.proofs.lemmas.Iterator.Consumers.{YieldsList-turn, YieldsList-end}
use Rattle.sat_cluster.proofs.locks.open_watched.Goals as goal

pub push_reserved-requires : goal.push_reserved-requires
push_reserved-requires g c =
    let turn = YieldsList-turn (YieldsList-from_vec {s = c.into_iter-lock-iterator.result} c.args.locks.items (search rules) (search rules)) c.loop-lock.yielded c.loop-lock.lock-iterator c.loop-lock.yielded_by c.next.result c.next.new.self c.in-Some.lock c.in-Some.is c.next.ensures.steps in
    let less : length c.loop-lock.yielded < length c.args.locks.items = turn.0 in
    let many : length c.loop-lock.nodes.items ≡ length c.loop-lock.yielded = c.loop-lock.invariant.0 in
    let room : vec_capacity c.loop-lock.nodes ≡ vec_capacity c.args.room = c.loop-lock.invariant.1 in
    let fits : vec_len c.args.locks ≤ vec_capacity c.args.room = c.requires.1 in
    let locks : vec_len c.args.locks ≡ length c.args.locks.items = c.args.locks.ok.0 in
    let nodes : vec_len c.loop-lock.nodes ≡ length c.loop-lock.nodes.items = c.loop-lock.nodes.ok.0 in
    omega arith

pub returns : goal.returns
returns g c =
    let all = YieldsList-end (YieldsList-from_vec {s = c.into_iter-lock-iterator.result} c.args.locks.items (search rules) (search rules)) c.loop-lock.yielded c.loop-lock.lock-iterator c.loop-lock.yielded_by c.next.result c.next.new.self c.in-None.is c.next.ensures.steps in
    let whole : length c.loop-lock.yielded ≡ length c.args.locks.items = all.1 in
    let many : length c.loop-lock.nodes.items ≡ length c.loop-lock.yielded = c.loop-lock.invariant.0 in
    many ∙ (whole ∙ sym c.args.locks.ok.0)
