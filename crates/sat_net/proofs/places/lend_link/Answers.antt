use Rattle.std.proofs.Common.{List, [], ◌∙◌, ap}
use Rattle.sat_label.specs.declared.label.Label.{Label}
use Rattle.sat_queue.specs.Queued.{members_of}
use Rattle.sat_net.proofs.Lists.{change-queue}
use Rattle.sat_net.proofs.places.lend_link.Goals as goal

pub returns-clause-rest : goal.returns-clause-rest
returns-clause-rest c = change-queue (λ (link : List Label). []) _ _ _ _ c.requires c.index_mut-link.ensures.value (ap members_of c.replace.ensures.after ∙ c.new-none.ensures)
