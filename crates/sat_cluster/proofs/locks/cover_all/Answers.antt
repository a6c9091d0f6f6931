use Rattle.std.proofs.Common.{rules, ◌≡◌, ◌∙◌, sym, length, vec_len}
use Rattle.std.proofs.lemmas.Iterator.Adapters.{YieldsList-from_vec}
use Rattle.std.proofs.lemmas.Iterator.Consumers.{YieldsList-end}
use Rattle.sat_cluster.proofs.locks.cover_all.Goals as goal

pub returns : goal.returns
returns g c =
    let all = YieldsList-end (YieldsList-from_vec {s = c.into_iter-held-iterator.result} c.args.nodes.items (search rules) (search rules)) c.loop-held.yielded c.loop-held.held-iterator c.loop-held.yielded_by c.next.result c.next.new.self c.in-None.is c.next.ensures.steps in
    let whole : length c.loop-held.yielded ≡ length c.args.nodes.items = all.1 in
    let many : vec_len c.loop-held.locks ≡ length c.loop-held.yielded = c.loop-held.invariant in
    many ∙ (whole ∙ sym c.args.nodes.ok.0)
