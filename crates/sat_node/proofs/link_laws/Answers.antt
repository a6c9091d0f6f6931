use Rattle.sat_node.proofs.Laws.{taken_came, labels_in_order, puts_are_numbered}
use Rattle.sat_node.proofs.link_laws.Goals as goal

pub returns-clause-came : goal.returns-clause-came
returns-clause-came c = taken_came

pub returns-clause-labels : goal.returns-clause-labels
returns-clause-labels c = labels_in_order

pub returns-clause-numbers : goal.returns-clause-numbers
returns-clause-numbers c = puts_are_numbered
