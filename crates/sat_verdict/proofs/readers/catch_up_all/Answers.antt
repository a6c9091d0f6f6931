use Rattle.std.specs.Prelude.{ℕ, List, [], get_or}
use Rattle.std.proofs.Common.{arith, sym, ap, ◌∙◌}
use Rattle.sat_verdict.proofs.Noting.{read-step}
use Rattle.sat_verdict.proofs.readers.catch_up_all.Goals as goal

pub loop-client-init : goal.loop-client-init
loop-client-init c = (sym c.len-client-end.ensures, c.requires.size, c.requires.read, λ d l. absurd (omega arith))

pub loop-client-preserved : goal.loop-client-preserved
loop-client-preserved c =
    read-step c.args.tales.now c.args.numbers.now c.loop-client.noted.items c.catch_up-at.new.noted.items c.args.reader (λ d. get_or (get_or c.args.rows.now c.args.place []) d 0) c.loop-client.places c.set.new.self
    c.loop-client.client c.len-client-end.result c.at-from.result c.count_in-to.result c.catch_up-at.result c.loop-client.invariant c.loop-client-test.true c.at-from.ensures (c.count_in-to.ensures ∙ ap (λ (ys : List ℕ). get_or ys c.loop-client.client 0) c.row_at-row.ensures)
    c.catch_up-at.ensures.size c.catch_up-at.ensures.rises c.catch_up-at.ensures.walked c.set.ensures

pub returns-clause-past : goal.returns-clause-past
returns-clause-past c = λ d l. c.loop-client.invariant.3 d (omega (arith, l, c.loop-client.invariant.0, c.loop-client-test.false))
