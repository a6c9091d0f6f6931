use Rattle.std.proofs.Common.{ℕ, List, Some, subst}
use Rattle.sat_outside.specs.Streams.{Takes}
use Rattle.sat_top.specs.declared.words.Command.TheVariants.{Place}
use Rattle.sat_top.proofs.Meetings.{told_met}
use Rattle.sat_top.proofs.top.placed.Goals as goal

pub returns-in-Ok-write_text : goal.returns-in-Ok-write_text
returns-in-Ok-write_text g c = record {
  meets = rw c.requires (told_met (Some Place) c.in-Ok.output.status (g.S.Source.left c.args.source.now) (g.S.Source.left c.place_wide.new.source) (g.K.Sink.told c.args.sink.now) (g.K.Sink.told c.write_text.new.sink)
      (g.S.Source.faults c.args.source.now) (g.S.Source.faults c.place_wide.new.source) (g.K.Sink.faults c.args.sink.now) (g.K.Sink.faults c.write_text.new.sink) (g.S.Source.ends c.args.source.now) (g.S.Source.ends c.place_wide.new.source)
      c.in-Ok.output.text.items c.in-Ok.ensures.output (subst (λ (bytes : List ℕ). Takes (g.K.Sink.told c.args.sink.now) (g.K.Sink.told c.write_text.new.sink) bytes) c.as_slice.ensures.value c.in-Ok-write_text.ensures.ok)
      (λ is asks. c.in-Ok.ensures.end is) (λ e. absurd (cc)) c.place_wide.ensures.bounded tt c.place_wide.ensures.once c.place_wide.ensures.later c.write_text.ensures.later);
}
