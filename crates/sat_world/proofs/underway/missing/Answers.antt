use Rattle.std.proofs.Common.{ℕ, ap, sym, ◌∙◌, ◌≡◌, ◌≤◌, arith}
use Rattle.std.specs.Prelude.{count_by}
use Rattle.sat_label.specs.Words.{below}
use Rattle.sat_proxy.specs.Proxy.{front_at}
use Rattle.sat_world.specs.Left.{is_missing}
use Rattle.sat_world.proofs.Lefts.{none-missing, missing-stands, count-less}
use Rattle.sat_world.proofs.underway.missing.Goals as goal

pub loop-number-init : goal.loop-number-init
loop-number-init c =
    let low : c.min-front.result ≤ front_at c.args.receiver.now.proxy c.args.from c.args.gear = omega (arith, c.min-front.ensures, c.front.ensures.seen) in
    sym (none-missing c.args.receiver.now c.args.from c.args.gear c.min-front.result low)

pub overflow_add-count : goal.overflow_add-count
overflow_add-count c = omega (arith, c.loop-number.invariant, count-less (is_missing c.args.receiver.now c.args.from c.args.gear) c.loop-number.number)

pub returns : goal.returns
returns c = λ d j t st.
    c.loop-number.invariant
    ∙ (ap (λ (m : ℕ). count_by (is_missing c.args.receiver.now c.args.from c.args.gear) (below m)) (let e : c.loop-number.number ≡ c.args.made = omega arith in e)
    ∙ missing-stands c.args.receiver.now c.args.from c.args.gear c.args.made c.sound.ensures c.requires.from c.requires.gear d j t st)
