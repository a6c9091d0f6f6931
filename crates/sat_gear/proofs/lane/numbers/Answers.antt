use Rattle.std.proofs.Common.{◌∙◌, ◌++◌, ◌∷◌, [], ℕ, ap, sym, arith}
use Rattle.sat_label.specs.Words.{bit}
use Rattle.sat_gear.proofs.Spreads.{numbers-failed, numbers-passed}
use Rattle.sat_gear.proofs.lane.numbers.Goals as goal
use Rattle.sat_gear.proofs.lane.numbers.Goals.{then-has+in_ok-push, else-has}

pub loop-site-preserved : goal.loop-site-preserved
loop-site-preserved c =
    elim c.if-has.branch [
      | then-has+in_ok-push w ↦
          w.numbers-is ∙ (w.in_ok-push.ensures.ok ∙ (ap (λ (n : ℕ). c.loop-site.numbers ++ n ∷ []) w.len.ensures
          ∙ numbers-passed (bit c.args.targets.bits) c.args.lanes.now c.loop-site.site c.index-lanes-site.result c.loop-site.numbers (omega arith) c.index-lanes-site.is (sym c.has.ensures ∙ w.if-has.true) c.loop-site.invariant))
      | else-has w ↦
          w.numbers-is
          ∙ numbers-failed (bit c.args.targets.bits) c.args.lanes.now c.loop-site.site c.index-lanes-site.result c.loop-site.numbers (omega arith) (sym c.has.ensures ∙ w.if-has.false) c.loop-site.invariant
    ]
