use Rattle.std.proofs.Common.{rules, ◌∙◌}
use Rattle.sat_report.specs.Frames.{digits_of}
use Rattle.sat_report.proofs.NextDigit.{goes_on, next_digit, stays_last, stays_none}
use Rattle.sat_report.proofs.front.LineFront.advance.Goals as goal

pub returns-in_default : goal.returns-in_default
returns-in_default c = search (rules, stays_none)

pub returns-then-number : goal.returns-then-number
returns-then-number c = stays_last c.in-Some.number _ (search rules) (search rules)

pub invariant_of-self : goal.invariant_of-self
unfolding digits_of
invariant_of-self c =
    (search rules, next_digit c.self.inside.digits c.self.inside.start c.in-Some.number _ (search rules) (search rules) (search rules) (search rules) c.if-last-lt57.true)

pub returns-then-last-lt57 : goal.returns-then-last-lt57
returns-then-last-lt57 c = goes_on c.in-Some.number _ (search rules) (search rules)

pub returns-else-last-lt57 : goal.returns-else-last-lt57
returns-else-last-lt57 c = (search rules) ∙ goes_on c.in-Some.number _ (search rules) (search rules)
