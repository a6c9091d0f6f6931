use Rattle.std.proofs.Common.{arith}
use Rattle.sat_verdict.proofs.Clear.{all-done-set, done-read}
use Rattle.sat_verdict.proofs.walks.is_clear.Goals as goal

pub moves_on-requires-clause-done : goal.moves_on-requires-clause-done
moves_on-requires-clause-done c =
    done-read c.args.tales.now c.args.numbers.now c.args.unshown.now c.args.done.now.items c.in-Some.site c.index_mut.result.now (omega (arith, c.if-place-len.false, c.len.ensures)) c.requires.done c.index_mut.ensures.value

pub returns-clause-done : goal.returns-clause-done
returns-clause-done c =
    all-done-set c.args.tales.now c.args.numbers.now c.args.unshown.now c.args.done.now.items c.in-Some.site c.moves_on.new.done (omega (arith, c.if-place-len.false, c.len.ensures)) c.requires.done c.moves_on.ensures.done
