use Rattle.std.proofs.Common.{◌∙◌, sym}
use Rattle.sat_chain.proofs.tail.applied.Goals as goal

pub applied_by_links-requires-clause-labels : goal.applied_by_links-requires-clause-labels
applied_by_links-requires-clause-labels c = (c.requires.tells _ (sym c.list.ensures)).labels

pub applied_by_links-requires-clause-each : goal.applied_by_links-requires-clause-each
applied_by_links-requires-clause-each c = (c.requires.tells _ (sym c.list.ensures)).each

pub applied_by_links-requires-clause-some : goal.applied_by_links-requires-clause-some
applied_by_links-requires-clause-some c = let t = c.requires.tells _ (sym c.list.ensures) in (t.count, t.some.within, t.some.sum ∙ sym c.put.ensures)
