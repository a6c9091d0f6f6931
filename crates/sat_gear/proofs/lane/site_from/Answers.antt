use Rattle.std.proofs.Common.{refl, arith}
use Rattle.sat_gear.proofs.Targets.{next-one, no-more, not-before}
use Rattle.sat_gear.proofs.lane.site_from.Goals as goal

pub returns-then-rest-eq0-clause-passed : goal.returns-then-rest-eq0-clause-passed
returns-then-rest-eq0-clause-passed c = λ k low high. no-more c.args.set.bits c.args.from _ k refl c.if-rest-eq0.true low

pub returns-clause-passed : goal.returns-clause-passed
returns-clause-passed c = λ k low high. not-before c.args.set.bits c.args.from _ k refl (omega arith) (omega arith) low high

pub returns-clause-here : goal.returns-clause-here
returns-clause-here c = λ low. next-one c.args.set.bits c.args.from _ refl (omega arith) (omega arith)
