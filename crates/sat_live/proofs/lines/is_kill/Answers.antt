use Rattle.std.proofs.Common.{rules, ◌≡◌, Some}
use Rattle.sat_act.specs.Parts.{tree_of}
use Rattle.sat_live.proofs.Journals.{kill_at}
use Rattle.sat_live.proofs.lines.is_kill.Goals as goal

pub returns-in-Some : goal.returns-in-Some
returns-in-Some c = λ less.
    let at : Some c.in-Some.tree.now ≡ tree_of c.args.d.now c.args.epoch = search rules in
    kill_at c.args.d.now c.args.epoch c.args.serializer c.serializers.result c.in-Some.tree.now at c.serializers.ensures.serializers less
