use Rattle.std.proofs.Common.{rules, true}
use Rattle.sat_top.proofs.Lived.{lived_met}
use Rattle.sat_top.proofs.living.lived.Goals as goal

pub returns-in-Ok-write_text : goal.returns-in-Ok-write_text
returns-in-Ok-write_text g c =
    lived_met c.in-Ok-tell.output.status (g.S.Source.left c.args.source.now) (g.S.Source.left c.read_script.new.source) (g.K.Sink.told c.args.sink.now) (g.K.Sink.told c.write_text.new.sink)
    (g.S.Source.faults c.args.source.now) (g.S.Source.faults c.read_script.new.source) (g.K.Sink.faults c.args.sink.now) (g.K.Sink.faults c.write_text.new.sink) (g.S.Source.ends c.args.source.now) (g.S.Source.ends c.read_script.new.source)
    c.in-Ok.reading c.in-Ok-tell.output.text.items (c.one_spelling.ensures.read true) c.in-Ok.ensures.script c.in-Ok.ensures.end c.read_script.ensures.bounded c.read_script.ensures.stops c.read_script.ensures.once c.read_script.ensures.later c.write_text.ensures.later c.in-Ok-tell.ensures
    (search rules)
