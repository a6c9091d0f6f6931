use Rattle.std.proofs.Common.{map, ap, ◌∙◌, List}
use Rattle.sat_act.specs.declared.deployment.Item.{Item}
use Rattle.sat_audit.specs.Judging.{replicas_of, tale_of}
use Rattle.sat_audit.specs.declared.heard.Heard.{Heard}
use Rattle.sat_audit.proofs.Judged.{one_of, said_of}
use Rattle.sat_audit.proofs.judging.audit.Goals as goal

pub returns-clause-exact : goal.returns-clause-exact
returns-clause-exact c =
    one_of c.args.history.now c.in_ok-verdict.verdict c.verdicts_are_found.ensures c.verdicts_are_unique.ensures
    (said_of c.args.history.now c.as_slice-2.result.now c.as_slice-3.result.now c.in_ok-verdict.verdict
    (c.as_slice-2.ensures.value ∙ c.in_ok-sets.ensures ∙ ap (λ (items : List Item). map replicas_of items) c.items.ensures.items)
    (c.as_slice-3.ensures.value ∙ c.in_ok-tales.ensures ∙ ap (λ (heard : List Heard). map tale_of heard) c.as_slice.ensures)
    c.in_ok-verdict.ensures.causal c.in_ok-verdict.ensures.once c.in_ok-verdict.ensures.fresh)
