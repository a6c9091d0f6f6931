use Rattle.std.proofs.Common.{ap, ◌∙◌}
use Rattle.sat_host.specs.Cursors.{next_of}
use Rattle.sat_message.proofs.Numbering.{at_start}
use Rattle.sat_host.proofs.Cursors.{at_set, place_other, place_set}
use Rattle.sat_host.proofs.host.begin.Goals as goal

pub returns-clause-at : goal.returns-clause-at
returns-clause-at g c =
    at_set g.M.Machine.meaning c.args.node.now.name c.args.node.now.entries c.args.cursors.now.items c.args.link c.rewind.new.self c.requires.at
    (at_start (g.M.Machine.meaning.puts c.args.node.now.name c.args.link) c.args.node.now.entries c.rewind.new.self c.rewind.ensures)

pub returns-clause-begins : goal.returns-clause-begins
returns-clause-begins g c = place_set c.args.cursors.now.items c.args.link c.rewind.new.self c.requires.row ∙ ap next_of c.rewind.ensures

pub returns-clause-others : goal.returns-clause-others
returns-clause-others g c = λ k e. place_other c.args.cursors.now.items c.args.link k c.rewind.new.self e
