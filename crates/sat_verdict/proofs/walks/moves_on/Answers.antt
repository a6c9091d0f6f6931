use Rattle.std.specs.Prelude.{ℕ, List, [], get_or}
use Rattle.std.proofs.Common.{arith, sym, ap, ◌∙◌}
use Rattle.sat_verdict.proofs.Clear.{clear-scan, moves-step}
use Rattle.sat_verdict.proofs.walks.moves_on.Goals as goal

pub loop-client-init : goal.loop-client-init
loop-client-init c = (sym c.len-client-end.ensures, c.requires.done, λ d l. absurd (omega arith))

pub loop-client-preserved : goal.loop-client-preserved
loop-client-preserved c =
    moves-step c.args.tales.now c.args.numbers.now c.args.unshown.now c.args.site (λ d. get_or (get_or c.args.rows.now c.args.made []) d 0) c.loop-client.done c.set.new.self c.loop-client.client c.len-client-end.result
    c.at-from.result c.count_in-to.result c.in-Some.at c.loop-client.invariant c.loop-client-test.true c.at-from.ensures (c.count_in-to.ensures ∙ ap (λ (ys : List ℕ). get_or ys c.loop-client.client 0) c.row_at-row.ensures) c.in-Some.ensures c.set.ensures

pub returns-clause-done : goal.returns-clause-done
returns-clause-done c = c.loop-client.invariant.1

pub returns-clause-clear : goal.returns-clause-clear
returns-clause-clear c = λ t.
    clear-scan c.args.tales.now c.args.numbers.now c.args.rows.now c.args.unshown.now c.args.made c.args.site c.loop-client.done c.loop-client.invariant.1
    (λ d l. c.loop-client.invariant.2 d (omega (arith, l, c.loop-client.invariant.0, c.loop-client-test.false)))
