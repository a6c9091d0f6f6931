use Rattle.std.proofs.Common.{ap, ◌∙◌}
use Rattle.sat_process.specs.Sites.{asked_at_site, took_at_site}
use Rattle.sat_process.proofs.SiteTurns.{ask_taken, asked_is}
use Rattle.sat_process.proofs.Takings.{acts_taken, on_err, on_ok}
use Rattle.sat_process.proofs.site.take_asked.Goals as goal
use Rattle.sat_process.proofs.site.take_asked.Goals.{in-Ok-Some, in-Err-Memory}

pub returns-clause-taken : goal.returns-clause-taken
returns-clause-taken g c =
    let p = ask_taken c.args.d.now c.args.host.now c.args.lamport c.args.by c.args.input c.requires.would in
    let is = ap (asked_at_site _) c.act_of-act.ensures ∙ asked_is c.args.lamport c.args.host.now.node.number c.args.by c.args.input p.0 p.1 in
    elim c.match-act_at_site.branch [
      | in-Ok-Some w ↦ on_ok _ _ (acts_taken asked_at_site took_at_site _ _ _ _ _ c.args.host.now c.act_at_site.new.host is (rw w.in-Ok-Some.field-0-is at w.in-Ok-Some.ensures.acts).1)
      | in-Err-Memory w ↦ on_err _ _ _ w.result-is
    ]
