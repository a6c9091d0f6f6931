use Rattle.sat_live.proofs.Outcomes.{told_apart, told_differ, told_status}
use Rattle.sat_live.proofs.launch.live_over.Goals as goal

pub returns-in-Differ-clause-told : goal.returns-in-Differ-clause-told
returns-in-Differ-clause-told g c =
    told_differ c.args.d c.args.acts.now c.in-Differ.node c.in-Differ.session c.tell_differ.result c.in-Differ.ensures c.tell_differ.ensures.text c.tell_differ.ensures.status c.tell_differ.ensures.notes

pub returns-in-Differ-clause-status : goal.returns-in-Differ-clause-status
returns-in-Differ-clause-status g c = told_status c.args.d c.args.acts.now c.tell_differ.result (returns-in-Differ-clause-told g c)

pub returns-in-Apart-clause-told : goal.returns-in-Apart-clause-told
returns-in-Apart-clause-told g c =
    told_apart c.args.d c.args.acts.now c.in-Apart.lamport c.in-Apart.home c.in-Apart.other c.tell_apart.result c.in-Apart.ensures c.tell_apart.ensures.text c.tell_apart.ensures.status c.tell_apart.ensures.parts

pub returns-in-Apart-clause-status : goal.returns-in-Apart-clause-status
returns-in-Apart-clause-status g c = told_status c.args.d c.args.acts.now c.tell_apart.result (returns-in-Apart-clause-told g c)
