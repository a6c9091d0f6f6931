use Rattle.std.proofs.Common.{List, ℕ, subst}
use Rattle.sat_top.specs.Auditing.{IsAudited}
use Rattle.sat_top.proofs.Audits.{audit_at_end, audit_output}
use Rattle.sat_top.proofs.output.judge.Goals as goal

pub returns-clause-output : goal.returns-clause-output
returns-clause-output g c =
    audit_output (g.S.Source.left c.args.source.now) c.in_ok-text.text.items c.in_ok-output.output.text.items c.in_ok-output.output.status c.in_ok-text.ensures.text
    (subst (λ (bytes : List ℕ). IsAudited bytes c.in_ok-output.output.text.items c.in_ok-output.output.status) c.deref.ensures.value c.in_ok-output.ensures)

pub returns-clause-end : goal.returns-clause-end
returns-clause-end g c =
    audit_at_end c.in_ok-text.text.items c.in_ok-output.output.text.items c.in_ok-output.output.status 0 _
    (subst (λ (bytes : List ℕ). IsAudited bytes c.in_ok-output.output.text.items c.in_ok-output.output.status) c.deref.ensures.value c.in_ok-output.ensures)
    c.in_ok-text.ensures.end (λ e. cc)

pub returns-clause-found_end : goal.returns-clause-found_end
returns-clause-found_end g c =
    audit_at_end c.in_ok-text.text.items c.in_ok-output.output.text.items c.in_ok-output.output.status 7 _
    (subst (λ (bytes : List ℕ). IsAudited bytes c.in_ok-output.output.text.items c.in_ok-output.output.status) c.deref.ensures.value c.in_ok-output.ensures)
    c.in_ok-text.ensures.end (λ e. cc)
