use Rattle.std.specs.Prelude.{ℕ}
use Rattle.std.proofs.Common.{arith, sym, subst, ◌∙◌}
use Rattle.std.proofs.lemmas.List.{length-set}
use Rattle.sat_verdict.specs.Tables.{HasClients}
use Rattle.sat_verdict.proofs.Linkings.{nearer, walk-nearer}
use Rattle.sat_verdict.proofs.Noting.{marks-set}
use Rattle.sat_verdict.proofs.readers.mark_fresh.Goals as goal

pub loop-at-init : goal.loop-at-init
loop-at-init c = (c.requires.marks, c.requires.size, c.requires.clients, c.requires.read, c.requires.fresh)

pub loop-at-preserved : goal.loop-at-preserved
loop-at-preserved c = (
  length-set c.loop-at.fresh.items c.loop-at.at c.is_fresh-found.result ∙ c.loop-at.invariant.0,
  c.is_fresh-found.ensures.size,
  subst (λ (n : ℕ). HasClients n c.args.tales.now) (sym c.is_fresh-found.ensures.places) c.loop-at.invariant.2,
  c.is_fresh-found.ensures.read,
  marks-set c.args.tales.now c.args.numbers.now c.args.rows.now c.loop-at.fresh.items c.loop-at.at c.is_fresh-found.result (omega (arith, c.loop-at-test.true, c.loop-at.invariant.0)) c.loop-at.invariant.4 c.is_fresh-found.ensures.fresh,
)

pub loop-at-smaller : goal.loop-at-smaller
loop-at-smaller c = nearer _ _ _ c.loop-at-test.true (walk-nearer c.args.tales.now c.args.next.now c.loop-at.at c.requires.links c.loop-at-test.true)
