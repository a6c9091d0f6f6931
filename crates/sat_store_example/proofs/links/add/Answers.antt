use Rattle.std.proofs.Common.{List, [], ◌∷◌, ◌++◌, ◌∙◌, ap}
use Rattle.sat_label.specs.declared.label.Label.{Label}
use Rattle.sat_net.proofs.Lists.{change-queue, same-queues, on-err}
use Rattle.sat_store_example.proofs.links.add.Goals as goal

pub returns-in_err-reserve-clause-err : goal.returns-in_err-reserve-clause-err
returns-in_err-reserve-clause-err c = on-err _ (same-queues _ _ _ _ c.index_mut-link.ensures.value c.reserve.ensures.members)

pub returns-clause-ok : goal.returns-clause-ok
returns-clause-ok c = change-queue (λ (link : List Label). link ++ c.args.label ∷ []) _ _ _ _ c.requires c.index_mut-link.ensures.value (c.push.ensures ∙ ap (λ (link : List Label). link ++ c.args.label ∷ []) c.reserve.ensures.members)
