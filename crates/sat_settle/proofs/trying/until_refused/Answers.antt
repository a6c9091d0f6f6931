use Rattle.sat_settle.proofs.trying.until_refused.Goals as goal

pub hops-requires : goal.hops-requires
hops-requires c = rw c.in-Hop.is at c.requires.act

pub turns-requires : goal.turns-requires
turns-requires c = rw c.in-Turn.is at c.requires.act

pub returns-in-Hop-clause-ok : goal.returns-in-Hop-clause-ok
returns-in-Hop-clause-ok c = rw c.in-Hop.is c.hops.ensures.ok

pub returns-in-Hop-clause-err : goal.returns-in-Hop-clause-err
returns-in-Hop-clause-err c = rw c.in-Hop.is c.hops.ensures.err

pub returns-in-Turn-clause-ok : goal.returns-in-Turn-clause-ok
returns-in-Turn-clause-ok c = rw c.in-Turn.is c.turns.ensures.until
