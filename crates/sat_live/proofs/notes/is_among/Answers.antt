use Rattle.std.proofs.Common.{rules, ◌≡◌, ◌<◌, get_or, length, subst}
use Rattle.sat_label.specs.Members.{In}
use Rattle.sat_act.specs.declared.act.Act.{Act}
use Rattle.sat_live.proofs.Members.{member_at}
use Rattle.sat_live.proofs.notes.is_among.Goals as goal

pub returns-then-is_same : goal.returns-then-is_same
returns-then-is_same c = λ found.
    let inside : c.loop-other.other-index < length c.args.acts.now = search rules in
    let here : get_or c.args.acts.now c.loop-other.other-index c.other-item.result ≡ c.other-item.result = search rules in
    subst (λ (a : Act). In c.args.acts.now a) (c.is_same.ensures c.if-is_same.true) (member_at c.args.acts.now c.loop-other.other-index c.other-item.result inside here)
