use Rattle.sat_parts_opened.proofs.Bounded.{agree-if-within, within-if-agree}
use Rattle.sat_parts_opened.proofs.parts_within.Goals as goal

pub returns : goal.returns
returns c = record { agree = agree-if-within; within = within-if-agree }
