use Rattle.std.proofs.Common.{◌≡◌, ap, length, Some, rules}
use Rattle.std.specs.Option.{option_map}
use Rattle.sat_act.specs.Parts.{tree_of}
use Rattle.sat_script.specs.Table.{place}
use Rattle.sat_script.specs.Words.{number_to}
use Rattle.sat_script.proofs.Once.{epoch_read}
use Rattle.sat_script.proofs.act_lines.read_epoch.Goals as goal

pub returns-clause-read : goal.returns-clause-read
returns-clause-read c t =
    let number : number_to (length c.args.header.now.said.plans) c.args.word.now ≡ Some c.in_ok-epoch.epoch = search rules in
    let tree : tree_of c.args.header.now.said c.in_ok-epoch.epoch ≡ Some c.in_ok-tree.tree.now = search rules in
    epoch_read c.args.header.now.said t c.in_ok-tree.tree.now c.args.word.now c.in_ok-epoch.epoch (ap (option_map place) number) tree
