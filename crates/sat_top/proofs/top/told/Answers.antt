use Rattle.std.proofs.Common.{ℕ, List, map, subst}
use Rattle.std.specs.Prelude.{string_bytes}
use Rattle.sat_outside.specs.Streams.{Takes}
use Rattle.sat_top.specs.Words.{command_of}
use Rattle.sat_top.proofs.Meetings.{told_met}
use Rattle.sat_top.proofs.top.told.Goals as goal

pub returns-in-Ok-write_text-clause-meets : goal.returns-in-Ok-write_text-clause-meets
returns-in-Ok-write_text-clause-meets g c =
    told_met (command_of (map string_bytes c.args.words.now)) c.in-Ok.output.status (g.S.Source.left c.args.source.now) (g.S.Source.left c.make_output.new.source) (g.K.Sink.told c.args.sink.now) (g.K.Sink.told c.write_text.new.sink)
    (g.S.Source.faults c.args.source.now) (g.S.Source.faults c.make_output.new.source) (g.K.Sink.faults c.args.sink.now) (g.K.Sink.faults c.write_text.new.sink) (g.S.Source.ends c.args.source.now) (g.S.Source.ends c.make_output.new.source)
    c.in-Ok.output.text.items c.in-Ok.ensures.output (subst (λ (bytes : List ℕ). Takes (g.K.Sink.told c.args.sink.now) (g.K.Sink.told c.write_text.new.sink) bytes) c.as_slice.ensures.value c.in-Ok-write_text.ensures.ok)
    (λ is asks. c.in-Ok.ensures.end asks is) c.in-Ok.ensures.found_end c.make_output.ensures.bounded c.make_output.ensures.stops c.make_output.ensures.once c.make_output.ensures.later c.write_text.ensures.later
