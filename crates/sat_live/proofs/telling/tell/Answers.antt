use Rattle.std.proofs.Common.{rules, ◌≡◌, List, Some, None, subst, ◌∙◌}
use Rattle.std.specs.Prelude.{IfOk}
use Rattle.sat_act.specs.declared.act.Act.{Act}
use Rattle.sat_script.specs.Spelled.{AreActsOf}
use Rattle.sat_undone.specs.Undone.{undone}
use Rattle.sat_live.specs.Telling.{IsRunTold}
use Rattle.sat_live.proofs.Outcomes.{told_run, told_undone}
use Rattle.sat_live.proofs.telling.tell.Goals as goal

pub returns-in-Some : goal.returns-in-Some
returns-in-Some c =
    let first : undone c.args.journal.now c.args.acts.now ≡ Some c.in-Some.act.now = search rules in
    told_undone c.args.d.now c.args.acts.now c.args.journal.now c.in-Some.act.now c.tell_undone.result c.good_runs.ensures c.clients.ensures.limits (subst (AreActsOf c.args.d.now) c.in_ok-done.ensures.acts c.in_ok-done.ensures.each)
    c.requires.journal first c.tell_undone.ensures.text c.tell_undone.ensures.status

pub returns : goal.returns
returns c =
    let none : undone c.args.journal.now c.args.acts.now ≡ None = search rules in
    told_run c.args.d.now c.args.acts.now c.args.journal.now c.tell_run.result c.good_runs.ensures c.doing.ensures.done c.one_beginning.ensures c.clients.ensures.limits c.have_names.ensures (subst (AreActsOf c.args.d.now) c.in_ok-done.ensures.acts c.in_ok-done.ensures.each)
    c.requires.journal none
    (subst (λ (done : List Act). IfOk c.tell_run.result (λ told. IsRunTold c.args.d.now done told.text.items told.status)) (c.as_slice.ensures.value ∙ c.in_ok-done.ensures.acts) c.tell_run.ensures)
