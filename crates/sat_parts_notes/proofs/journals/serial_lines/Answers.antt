use Rattle.std.proofs.Common.{◌≡◌, ◌++◌, ◌∙◌, ap, map}
use Rattle.sat_machines.specs.Serials.{epoch_in, serial_in}
use Rattle.sat_parts_notes.specs.Collecting.{Lines, home_line}
use Rattle.sat_parts_notes.proofs.Loops.{home-lines}
use Rattle.sat_parts_notes.proofs.journals.serial_lines.Goals as goal

pub returns : goal.returns
returns g c =
    c.in_ok-add_home.ensures
    ∙ (ap (λ (ls : Lines). ls ++ map home_line c.as_slice.result.now) c.new-list.ensures
    ∙ (ap (map home_line) (c.as_slice.ensures ∙ c.in_ok-entries.ensures) ∙ home-lines (epoch_in c.args.held.now.node.name) (serial_in c.args.held.now.node.name) c.args.held.now.node.entries))
