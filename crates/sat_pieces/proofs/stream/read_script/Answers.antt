use Rattle.sat_pieces.proofs.Faults.{has_fault}
use Rattle.std.proofs.Common.{rules, arith, take, [], ◌≡◌, ◌+◌, refl}
use Rattle.sat_stream.specs.Stream.{will_be}
use Rattle.sat_pieces.proofs.Progress.{keeps, lacks_start, read_bounded, read_enough, read_lines, read_more, read_start, read_stops, zero_bytes, ends_once, ends_same}
use Rattle.sat_stream.specs.declared.limits.TheConstants.{MOST_BYTES}
use Rattle.sat_pieces.proofs.stream.read_script.Goals as goal

pub loop-taken-init : goal.loop-taken-init
loop-taken-init g c =
    (c.new-reader.ensures.fresh, omega arith, read_start (g.S.Source.left c.args.source.now) (will_be c.new-reader.result) c.new-reader.ensures.script, omega arith, omega (arith, c.new-reader.ensures.counted), lacks_start c.args.live (will_be c.new-reader.result) c.new-reader.ensures.script, refl)

pub loop-taken-preserved : goal.loop-taken-preserved
loop-taken-preserved g c =
    let had = c.loop-taken.invariant in
    let counted = c.in_default.ensures.counted in (
      c.in_default.ensures.fault,
      omega (arith, c.in-Ok.ensures.cause.later),
      read_more (g.S.Source.left c.args.source.now) (g.S.Source.left c.loop-taken.source) (g.S.Source.left c.read.new.self) (will_be c.loop-taken.reader) (will_be c.feed.new.self) (take c.in-Ok.count c.read.new.into) c.loop-taken.taken c.in-Ok.count had.2 c.in-Ok.ensures.bytes.0 c.in_default.ensures.script c.in-Ok.ensures.count.1,
      omega (arith, counted, c.in-Ok.ensures.count.1),
      c.in_default.ensures.few,
      c.feed.ensures.lacks c.in_default.ensures.fault,
      ends_same (g.S.Source.ends c.args.source.now) (g.S.Source.ends c.loop-taken.source) (g.S.Source.ends c.read.new.self) c.in-Ok.count c.in-Ok.count-test.1 had.6 c.in-Ok.ensures.ends,
    )

pub returns-in-Err-clause-stops : goal.returns-in-Err-clause-stops
returns-in-Err-clause-stops g c = let had = c.loop-taken.invariant in read_stops (g.S.Source.left c.args.source.now) (g.S.Source.left c.loop-taken.source) (g.S.Source.left c.read.new.self) (will_be c.loop-taken.reader) [] c.loop-taken.taken had.2 had.5 (keeps (g.S.Source.left c.loop-taken.source) (g.S.Source.left c.read.new.self) c.in-Err.ensures.bytes) (omega arith)

pub returns-in-Err-clause-lines : goal.returns-in-Err-clause-lines
returns-in-Err-clause-lines g c = λ _. let had = c.loop-taken.invariant in read_lines (g.S.Source.left c.args.source.now) (g.S.Source.left c.loop-taken.source) (g.S.Source.left c.read.new.self) (will_be c.loop-taken.reader) c.loop-taken.taken had.2 had.5 (keeps (g.S.Source.left c.loop-taken.source) (g.S.Source.left c.read.new.self) c.in-Err.ensures.bytes)

pub returns-in-Ok-eq0-clause-stops : goal.returns-in-Ok-eq0-clause-stops
returns-in-Ok-eq0-clause-stops g c = let had = c.loop-taken.invariant in read_stops (g.S.Source.left c.args.source.now) (g.S.Source.left c.loop-taken.source) (g.S.Source.left c.read.new.self) (will_be c.loop-taken.reader) [] c.loop-taken.taken had.2 had.5 (zero_bytes (g.S.Source.left c.loop-taken.source) (g.S.Source.left c.read.new.self) c.in-Ok-eq0.field-0 c.read.new.into (let none : c.in-Ok-eq0.field-0 ≡ 0 = search rules in none) c.in-Ok-eq0.ensures.bytes.0) (omega arith)

pub returns-then-eq-clause-stops : goal.returns-then-eq-clause-stops
returns-then-eq-clause-stops g c = let had = c.loop-taken.invariant in read_stops (g.S.Source.left c.args.source.now) (g.S.Source.left c.loop-taken.source) (g.S.Source.left c.read.new.self) (will_be c.loop-taken.reader) (take c.in-Ok.count c.read.new.into) c.loop-taken.taken had.2 had.5 c.in-Ok.ensures.bytes.0 (omega (arith, c.in-Ok.ensures.count.1, c.in-Ok.ensures.count.0))

pub returns-then-eq-clause-bounded : goal.returns-then-eq-clause-bounded
returns-then-eq-clause-bounded g c =
    let had = c.loop-taken.invariant in
    read_bounded (g.S.Source.left c.args.source.now) (g.S.Source.left c.loop-taken.source) (g.S.Source.left c.read.new.self) (will_be c.loop-taken.reader) (take c.in-Ok.count c.read.new.into) c.loop-taken.taken (MOST_BYTES + 16384) had.2 c.in-Ok.ensures.bytes.0 (omega (arith, c.in-Ok.ensures.count.1, c.in-Ok.ensures.count.0))

pub returns-in-Err-feed-clause-stops : goal.returns-in-Err-feed-clause-stops
returns-in-Err-feed-clause-stops g c = let had = c.loop-taken.invariant in read_stops (g.S.Source.left c.args.source.now) (g.S.Source.left c.loop-taken.source) (g.S.Source.left c.read.new.self) (will_be c.loop-taken.reader) (take c.in-Ok.count c.read.new.into) c.loop-taken.taken had.2 had.5 c.in-Ok.ensures.bytes.0 (omega (arith, c.in-Ok.ensures.count.1, c.in-Ok.ensures.count.0))

pub returns-in-Err-feed-clause-bounded : goal.returns-in-Err-feed-clause-bounded
returns-in-Err-feed-clause-bounded g c =
    let had = c.loop-taken.invariant in
    read_bounded (g.S.Source.left c.args.source.now) (g.S.Source.left c.loop-taken.source) (g.S.Source.left c.read.new.self) (will_be c.loop-taken.reader) (take c.in-Ok.count c.read.new.into) c.loop-taken.taken (MOST_BYTES + 16384) had.2 c.in-Ok.ensures.bytes.0 (omega (arith, c.in-Ok.ensures.count.1, c.in-Ok.ensures.count.0))

pub returns-in-Err-feed-clause-end : goal.returns-in-Err-feed-clause-end
returns-in-Err-feed-clause-end g c = has_fault c.feed.new.self c.in-Err-feed.fault c.finish-in-Err-feed.result _ (c.in-Err-feed.ensures.fault) c.finish-in-Err-feed.ensures.script

pub returns-in-Err-feed-clause-script : goal.returns-in-Err-feed-clause-script
returns-in-Err-feed-clause-script g c =
    let had = c.loop-taken.invariant in
    let script = c.in-Err-feed.ensures.script (search rules) in
    read_enough (g.S.Source.left c.args.source.now) (g.S.Source.left c.read.new.self) (will_be c.feed.new.self) c.finish-in-Err-feed.result (c.loop-taken.taken + c.in-Ok.count)
    (read_more (g.S.Source.left c.args.source.now) (g.S.Source.left c.loop-taken.source) (g.S.Source.left c.read.new.self) (will_be c.loop-taken.reader) (will_be c.feed.new.self) (take c.in-Ok.count c.read.new.into) c.loop-taken.taken c.in-Ok.count had.2 c.in-Ok.ensures.bytes.0 script c.in-Ok.ensures.count.1)
    c.in-Err-feed.ensures.settled c.finish-in-Err-feed.ensures.script

pub returns-in-Err-clause-once : goal.returns-in-Err-clause-once
returns-in-Err-clause-once g c = omega (arith, c.loop-taken.invariant.6, c.in-Err.ensures.ends)

pub returns-in-Ok-eq0-clause-once : goal.returns-in-Ok-eq0-clause-once
returns-in-Ok-eq0-clause-once g c = ends_once (g.S.Source.ends c.args.source.now) (g.S.Source.ends c.loop-taken.source) (g.S.Source.ends c.read.new.self) c.in-Ok-eq0.field-0 c.loop-taken.invariant.6 c.in-Ok-eq0.ensures.ends

pub returns-then-eq-clause-once : goal.returns-then-eq-clause-once
returns-then-eq-clause-once g c = ends_once (g.S.Source.ends c.args.source.now) (g.S.Source.ends c.loop-taken.source) (g.S.Source.ends c.read.new.self) c.in-Ok.count c.loop-taken.invariant.6 c.in-Ok.ensures.ends

pub returns-in-Err-feed-clause-once : goal.returns-in-Err-feed-clause-once
returns-in-Err-feed-clause-once g c = ends_once (g.S.Source.ends c.args.source.now) (g.S.Source.ends c.loop-taken.source) (g.S.Source.ends c.read.new.self) c.in-Ok.count c.loop-taken.invariant.6 c.in-Ok.ensures.ends
