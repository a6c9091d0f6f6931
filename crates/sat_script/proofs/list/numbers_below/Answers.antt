use Rattle.std.proofs.Common.{refl, sym, ◌∙◌}
use Rattle.sat_script.proofs.Steps.{below_next, below_fails, below_all}
use Rattle.sat_script.proofs.list.numbers_below.Goals as goal

pub loop-word-init : goal.loop-word-init
loop-word-init c = (refl, c.new-numbers.ensures.items)

pub returns-in-None : goal.returns-in-None
returns-in-None c = below_fails c.args.limit c.args.words.now c.loop-word.word-index _ c.loop-word-test.true c.requires (sym c.in-None.is ∙ c.number_below.ensures.number)

pub loop-word-preserved : goal.loop-word-preserved
loop-word-preserved c =
    below_next c.args.limit c.args.words.now c.loop-word.word-index c.in-Some.number _ c.loop-word.numbers.items c.push.new.self.items c.loop-word-test.true (sym c.in-Some.is ∙ c.number_below.ensures.number)
    c.loop-word.invariant.0 c.loop-word.invariant.1 c.in_ok-push-in-Some.ensures.items

pub returns : goal.returns
returns c = below_all c.args.limit c.args.words.now c.loop-word.word-index c.loop-word.numbers.items c.loop-word-test.false c.loop-word.invariant.0 c.loop-word.invariant.1
