use Rattle.std.proofs.Common.{false, ◌≡◌, ℕ, List, subst, rules, arith, take, ◌+◌, ◌++◌, [], refl}
use Rattle.sat_stream.specs.Stream.{will_be, behind}
use Rattle.sat_stream.specs.declared.limits.TheConstants.{MOST_BYTES}
use Rattle.sat_pieces.proofs.Progress.{ends_once, ends_same, keeps, read_bounded, zero_bytes}
use Rattle.sat_pieces.proofs.Streamed.{under_start, drained_start, fed, known_fed, few_under, answered, takes_on, front_of, front_on, front_whole, has_answered, still_under, known_at_end, few_at_end, ends_whole, ends_early, ok_ended, err_front, err_stopped, not_done, stopped_before, stopped_in, stops_reading, drained_after, fresh_after, bytes_after}
use Rattle.sat_outside.specs.Streams.{Takes}
use Rattle.sat_follow.specs.Following.{TakesFront}
use Rattle.sat_pieces.proofs.stream.run_script.Goals as goal

pub pieces-init : goal.pieces-init
pieces-init g c = record {
  fresh = c.new-reader.ensures.fresh;
  later = omega arith;
  kept = omega arith;
  ends = refl;
  under = ([], under_start (g.S.Source.left c.args.source.now) c.new-reader.result c.new-reader.ensures.script, λ more. refl);
  drained = drained_start c.new-reader.result c.new-reader.ensures.script;
  counted = omega arith;
  few = omega (arith, c.new-reader.ensures.counted);
}

pub returns-in-Err-clause-bounded : goal.returns-in-Err-clause-bounded
returns-in-Err-clause-bounded g c = read_bounded (g.S.Source.left c.args.source.now) (g.S.Source.left c.pieces.source) (g.S.Source.left c.read.new.self) (λ more. behind c.pieces.invariant.under.1.done (will_be c.pieces.reader more)) [] c.pieces.taken (MOST_BYTES + 16384) c.pieces.invariant.under.1.read (keeps (g.S.Source.left c.pieces.source) (g.S.Source.left c.read.new.self) c.in-Err.ensures.bytes) (omega (arith, c.pieces.invariant.counted, c.pieces.invariant.few))

pub returns-in-Err-clause-answered : goal.returns-in-Err-clause-answered
returns-in-Err-clause-answered g c = λ _. has_answered (g.S.Source.left c.args.source.now) (g.S.Source.left c.read.new.self) (c.pieces.taken + 0) c.pieces.reader c.pieces.world c.pieces.done c.pieces.invariant.under.0 (g.K.Sink.told c.args.sink.now) (g.K.Sink.told c.pieces.sink) (λ text. c.sound_readings.ensures false text) (record { good = c.headline.ensures; settles = c.settles_all.ensures.settles; rests = c.settles_all.ensures.rests }) (still_under (g.S.Source.left c.args.source.now) (g.S.Source.left c.pieces.source) (g.S.Source.left c.read.new.self) c.pieces.taken c.pieces.reader c.pieces.world c.pieces.done c.pieces.invariant.under.0 c.pieces.invariant.under.1 (keeps (g.S.Source.left c.pieces.source) (g.S.Source.left c.read.new.self) c.in-Err.ensures.bytes)) c.pieces.invariant.drained c.pieces.invariant.under.2

pub returns-in-Err-clause-front : goal.returns-in-Err-clause-front
returns-in-Err-clause-front g c = front_of (g.S.Source.left c.args.source.now) (g.S.Source.left c.pieces.source) c.pieces.taken c.pieces.reader c.pieces.world c.pieces.done c.pieces.invariant.under.0 (g.K.Sink.told c.args.sink.now) (g.K.Sink.told c.pieces.sink) (λ text. c.sound_readings.ensures false text) c.pieces.invariant.under.1 c.pieces.invariant.drained (front_whole (g.K.Sink.told c.args.sink.now) (g.K.Sink.told c.pieces.sink) c.pieces.invariant.under.0 c.pieces.invariant.under.2)

pub returns-in-Err-clause-once : goal.returns-in-Err-clause-once
returns-in-Err-clause-once g c = omega (arith, c.pieces.invariant.ends, c.in-Err.ensures.ends)

pub returns-in-Err-clause-stops : goal.returns-in-Err-clause-stops
returns-in-Err-clause-stops g c = stops_reading (g.S.Source.left c.args.source.now) (g.S.Source.left c.pieces.source) (g.S.Source.left c.read.new.self) c.pieces.taken c.pieces.reader c.pieces.world c.pieces.done c.pieces.invariant.under.0 [] c.pieces.invariant.under.1 c.pieces.invariant.drained (keeps (g.S.Source.left c.pieces.source) (g.S.Source.left c.read.new.self) c.in-Err.ensures.bytes) (omega arith)

pub returns-in-Err-clause-stopped : goal.returns-in-Err-clause-stopped
returns-in-Err-clause-stopped g c = stopped_before (g.S.Source.left c.args.source.now) (g.S.Source.left c.pieces.source) (g.S.Source.left c.read.new.self) c.pieces.taken c.pieces.reader c.pieces.world c.pieces.done c.pieces.invariant.under.0 [] (g.K.Sink.told c.args.sink.now) (g.K.Sink.told c.pieces.sink) c.pieces.invariant.under.1 c.pieces.invariant.drained (keeps (g.S.Source.left c.pieces.source) (g.S.Source.left c.read.new.self) c.in-Err.ensures.bytes) (omega arith) c.pieces.invariant.under.2

pub end_script-requires-clause-known : goal.end_script-requires-clause-known
end_script-requires-clause-known g c = known_at_end c.pieces.reader c.pieces.world c.finish.result (known_fed c.pieces.reader c.pieces.reader c.pieces.world [] c.pieces.invariant.drained (λ more. refl)) c.finish.ensures.script

pub end_script-requires-clause-few : goal.end_script-requires-clause-few
end_script-requires-clause-few g c = few_at_end c.pieces.reader c.pieces.done c.finish.result (few_under (g.S.Source.left c.args.source.now) (g.S.Source.left c.pieces.source) c.pieces.taken c.pieces.reader c.pieces.world c.pieces.done c.pieces.invariant.under.0 (λ text. c.sound_readings.ensures false text) c.pieces.invariant.under.1) c.finish.ensures.script

pub returns-in-Ok-eq0-clause-whole : goal.returns-in-Ok-eq0-clause-whole
returns-in-Ok-eq0-clause-whole g c = ok_ended (g.S.Source.left c.args.source.now) c.finish.result c.pieces.world c.pieces.done c.pieces.invariant.under.0 c.end_script.result (g.K.Sink.told c.args.sink.now) (g.K.Sink.told c.pieces.sink) (g.K.Sink.told c.end_script.new.sink) c.good_scripts.ensures (λ text. c.sound_readings.ensures false text) (record { good = c.headline.ensures; settles = c.settles_all.ensures.settles; rests = c.settles_all.ensures.rests }) (ends_whole (g.S.Source.left c.args.source.now) (g.S.Source.left c.read.new.self) (c.pieces.taken + 0) c.pieces.reader c.pieces.world c.pieces.done c.pieces.invariant.under.0 c.finish.result (still_under (g.S.Source.left c.args.source.now) (g.S.Source.left c.pieces.source) (g.S.Source.left c.read.new.self) c.pieces.taken c.pieces.reader c.pieces.world c.pieces.done c.pieces.invariant.under.0 c.pieces.invariant.under.1 (zero_bytes (g.S.Source.left c.pieces.source) (g.S.Source.left c.read.new.self) c.in-Ok-eq0.field-0 c.read.new.into (let none : c.in-Ok-eq0.field-0 ≡ 0 = search rules in none) c.in-Ok-eq0.ensures.bytes.0)) (c.in-Ok-eq0.ensures.bytes.1 (let none : c.in-Ok-eq0.field-0 ≡ 0 = search rules in none) (omega arith)) c.finish.ensures.script) c.pieces.invariant.under.2 c.end_script.ensures.status c.end_script.ensures.whole

pub returns-in-Ok-eq0-clause-bounded : goal.returns-in-Ok-eq0-clause-bounded
returns-in-Ok-eq0-clause-bounded g c = read_bounded (g.S.Source.left c.args.source.now) (g.S.Source.left c.pieces.source) (g.S.Source.left c.read.new.self) (λ more. behind c.pieces.invariant.under.1.done (will_be c.pieces.reader more)) [] c.pieces.taken (MOST_BYTES + 16384) c.pieces.invariant.under.1.read (zero_bytes (g.S.Source.left c.pieces.source) (g.S.Source.left c.read.new.self) c.in-Ok-eq0.field-0 c.read.new.into (let none : c.in-Ok-eq0.field-0 ≡ 0 = search rules in none) c.in-Ok-eq0.ensures.bytes.0) (omega (arith, c.pieces.invariant.counted, c.pieces.invariant.few))

pub returns-in-Ok-eq0-clause-front : goal.returns-in-Ok-eq0-clause-front
returns-in-Ok-eq0-clause-front g c = err_front (g.S.Source.left c.args.source.now) (g.S.Source.left c.pieces.source) c.pieces.taken c.pieces.reader c.finish.result c.pieces.world c.pieces.done c.pieces.invariant.under.0 c.end_script.result (g.K.Sink.told c.args.sink.now) (g.K.Sink.told c.pieces.sink) (g.K.Sink.told c.end_script.new.sink) (λ text. c.sound_readings.ensures false text) c.pieces.invariant.under.1 c.pieces.invariant.drained (ends_whole (g.S.Source.left c.args.source.now) (g.S.Source.left c.read.new.self) (c.pieces.taken + 0) c.pieces.reader c.pieces.world c.pieces.done c.pieces.invariant.under.0 c.finish.result (still_under (g.S.Source.left c.args.source.now) (g.S.Source.left c.pieces.source) (g.S.Source.left c.read.new.self) c.pieces.taken c.pieces.reader c.pieces.world c.pieces.done c.pieces.invariant.under.0 c.pieces.invariant.under.1 (zero_bytes (g.S.Source.left c.pieces.source) (g.S.Source.left c.read.new.self) c.in-Ok-eq0.field-0 c.read.new.into (let none : c.in-Ok-eq0.field-0 ≡ 0 = search rules in none) c.in-Ok-eq0.ensures.bytes.0)) (c.in-Ok-eq0.ensures.bytes.1 (let none : c.in-Ok-eq0.field-0 ≡ 0 = search rules in none) (omega arith)) c.finish.ensures.script) c.pieces.invariant.under.2 c.end_script.ensures.front c.end_script.ensures.nothing c.end_script.ensures.causes

pub returns-in-Ok-eq0-clause-once : goal.returns-in-Ok-eq0-clause-once
returns-in-Ok-eq0-clause-once g c = ends_once (g.S.Source.ends c.args.source.now) (g.S.Source.ends c.pieces.source) (g.S.Source.ends c.read.new.self) c.in-Ok-eq0.field-0 c.pieces.invariant.ends c.in-Ok-eq0.ensures.ends

pub returns-in-Ok-eq0-clause-stops : goal.returns-in-Ok-eq0-clause-stops
returns-in-Ok-eq0-clause-stops g c = stops_reading (g.S.Source.left c.args.source.now) (g.S.Source.left c.pieces.source) (g.S.Source.left c.read.new.self) c.pieces.taken c.pieces.reader c.pieces.world c.pieces.done c.pieces.invariant.under.0 [] c.pieces.invariant.under.1 c.pieces.invariant.drained (zero_bytes (g.S.Source.left c.pieces.source) (g.S.Source.left c.read.new.self) c.in-Ok-eq0.field-0 c.read.new.into (let none : c.in-Ok-eq0.field-0 ≡ 0 = search rules in none) c.in-Ok-eq0.ensures.bytes.0) (omega arith)

pub returns-in-Ok-eq0-clause-stopped : goal.returns-in-Ok-eq0-clause-stopped
returns-in-Ok-eq0-clause-stopped g c = err_stopped (g.S.Source.left c.args.source.now) (g.S.Source.left c.pieces.source) (g.S.Source.left c.read.new.self) c.pieces.taken c.pieces.reader c.finish.result c.pieces.world c.pieces.done c.pieces.invariant.under.0 [] c.end_script.result (g.K.Sink.told c.args.sink.now) (g.K.Sink.told c.pieces.sink) (g.K.Sink.told c.end_script.new.sink) c.pieces.invariant.under.1 c.pieces.invariant.drained (zero_bytes (g.S.Source.left c.pieces.source) (g.S.Source.left c.read.new.self) c.in-Ok-eq0.field-0 c.read.new.into (let none : c.in-Ok-eq0.field-0 ≡ 0 = search rules in none) c.in-Ok-eq0.ensures.bytes.0) (omega arith) c.pieces.invariant.under.2 c.end_script.ensures.front c.end_script.ensures.nothing c.end_script.ensures.causes

pub returns-then-eq-clause-bounded : goal.returns-then-eq-clause-bounded
returns-then-eq-clause-bounded g c = read_bounded (g.S.Source.left c.args.source.now) (g.S.Source.left c.pieces.source) (g.S.Source.left c.read.new.self) (λ more. behind c.pieces.invariant.under.1.done (will_be c.pieces.reader more)) (take c.in-Ok.count c.read.new.into) c.pieces.taken (MOST_BYTES + 16384) c.pieces.invariant.under.1.read c.in-Ok.ensures.bytes.0 (omega (arith, c.pieces.invariant.counted, c.pieces.invariant.few, c.in-Ok.ensures.count.1, c.in-Ok.ensures.count.0))

pub returns-then-eq-clause-front : goal.returns-then-eq-clause-front
returns-then-eq-clause-front g c = front_of (g.S.Source.left c.args.source.now) (g.S.Source.left c.pieces.source) c.pieces.taken c.pieces.reader c.pieces.world c.pieces.done c.pieces.invariant.under.0 (g.K.Sink.told c.args.sink.now) (g.K.Sink.told c.pieces.sink) (λ text. c.sound_readings.ensures false text) c.pieces.invariant.under.1 c.pieces.invariant.drained (front_whole (g.K.Sink.told c.args.sink.now) (g.K.Sink.told c.pieces.sink) c.pieces.invariant.under.0 c.pieces.invariant.under.2)

pub returns-then-eq-clause-once : goal.returns-then-eq-clause-once
returns-then-eq-clause-once g c = ends_once (g.S.Source.ends c.args.source.now) (g.S.Source.ends c.pieces.source) (g.S.Source.ends c.read.new.self) c.in-Ok.count c.pieces.invariant.ends c.in-Ok.ensures.ends

pub returns-then-eq-clause-stops : goal.returns-then-eq-clause-stops
returns-then-eq-clause-stops g c = stops_reading (g.S.Source.left c.args.source.now) (g.S.Source.left c.pieces.source) (g.S.Source.left c.read.new.self) c.pieces.taken c.pieces.reader c.pieces.world c.pieces.done c.pieces.invariant.under.0 (take c.in-Ok.count c.read.new.into) c.pieces.invariant.under.1 c.pieces.invariant.drained c.in-Ok.ensures.bytes.0 (omega (arith, c.in-Ok.ensures.count.1, c.in-Ok.ensures.count.0))

pub returns-then-eq-clause-stopped : goal.returns-then-eq-clause-stopped
returns-then-eq-clause-stopped g c = stopped_before (g.S.Source.left c.args.source.now) (g.S.Source.left c.pieces.source) (g.S.Source.left c.read.new.self) c.pieces.taken c.pieces.reader c.pieces.world c.pieces.done c.pieces.invariant.under.0 (take c.in-Ok.count c.read.new.into) (g.K.Sink.told c.args.sink.now) (g.K.Sink.told c.pieces.sink) c.pieces.invariant.under.1 c.pieces.invariant.drained c.in-Ok.ensures.bytes.0 (omega (arith, c.in-Ok.ensures.count.1, c.in-Ok.ensures.count.0)) c.pieces.invariant.under.2

pub end_script-requires-in-Err-feed-clause-known : goal.end_script-requires-in-Err-feed-clause-known
end_script-requires-in-Err-feed-clause-known g c = known_at_end c.feed.new.self c.pieces.world c.finish-in-Err-feed.result (known_fed c.pieces.reader c.feed.new.self c.pieces.world (take c.in-Ok.count c.read.new.into) c.pieces.invariant.drained (c.in-Err-feed.ensures.script (search rules))) c.finish-in-Err-feed.ensures.script

pub end_script-requires-in-Err-feed-clause-few : goal.end_script-requires-in-Err-feed-clause-few
end_script-requires-in-Err-feed-clause-few g c = few_at_end c.feed.new.self c.pieces.done c.finish-in-Err-feed.result (few_under (g.S.Source.left c.args.source.now) (g.S.Source.left c.read.new.self) (c.pieces.taken + c.in-Ok.count) c.feed.new.self c.pieces.world c.pieces.done c.pieces.invariant.under.0 (λ text. c.sound_readings.ensures false text) (fed (g.S.Source.left c.args.source.now) (g.S.Source.left c.pieces.source) (g.S.Source.left c.read.new.self) c.pieces.taken c.in-Ok.count c.pieces.reader c.feed.new.self c.pieces.world c.pieces.done c.pieces.invariant.under.0 (take c.in-Ok.count c.read.new.into) c.pieces.invariant.under.1 c.in-Ok.ensures.bytes.0 (c.in-Err-feed.ensures.script (search rules)) c.in-Ok.ensures.count.1)) c.finish-in-Err-feed.ensures.script

pub returns-in-Err-feed-clause-whole : goal.returns-in-Err-feed-clause-whole
returns-in-Err-feed-clause-whole g c = ok_ended (g.S.Source.left c.args.source.now) c.finish-in-Err-feed.result c.pieces.world c.pieces.done c.pieces.invariant.under.0 c.end_script-in-Err-feed.result (g.K.Sink.told c.args.sink.now) (g.K.Sink.told c.pieces.sink) (g.K.Sink.told c.end_script-in-Err-feed.new.sink) c.good_scripts.ensures (λ text. c.sound_readings.ensures false text) (record { good = c.headline.ensures; settles = c.settles_all.ensures.settles; rests = c.settles_all.ensures.rests }) (ends_early (g.S.Source.left c.args.source.now) (g.S.Source.left c.read.new.self) (c.pieces.taken + c.in-Ok.count) c.feed.new.self c.pieces.world c.pieces.done c.pieces.invariant.under.0 c.finish-in-Err-feed.result (fed (g.S.Source.left c.args.source.now) (g.S.Source.left c.pieces.source) (g.S.Source.left c.read.new.self) c.pieces.taken c.in-Ok.count c.pieces.reader c.feed.new.self c.pieces.world c.pieces.done c.pieces.invariant.under.0 (take c.in-Ok.count c.read.new.into) c.pieces.invariant.under.1 c.in-Ok.ensures.bytes.0 (c.in-Err-feed.ensures.script (search rules)) c.in-Ok.ensures.count.1) c.in-Err-feed.ensures.settled c.finish-in-Err-feed.ensures.script) c.pieces.invariant.under.2 c.end_script-in-Err-feed.ensures.status c.end_script-in-Err-feed.ensures.whole

pub returns-in-Err-feed-clause-end : goal.returns-in-Err-feed-clause-end
returns-in-Err-feed-clause-end g c = not_done c.feed.new.self c.in-Err-feed.fault c.finish-in-Err-feed.result c.end_script-in-Err-feed.result _ c.in-Err-feed.ensures.fault c.finish-in-Err-feed.ensures.script c.end_script-in-Err-feed.ensures.status

pub returns-in-Err-feed-clause-bounded : goal.returns-in-Err-feed-clause-bounded
returns-in-Err-feed-clause-bounded g c = read_bounded (g.S.Source.left c.args.source.now) (g.S.Source.left c.pieces.source) (g.S.Source.left c.read.new.self) (λ more. behind c.pieces.invariant.under.1.done (will_be c.pieces.reader more)) (take c.in-Ok.count c.read.new.into) c.pieces.taken (MOST_BYTES + 16384) c.pieces.invariant.under.1.read c.in-Ok.ensures.bytes.0 (omega (arith, c.pieces.invariant.counted, c.pieces.invariant.few, c.in-Ok.ensures.count.1, c.in-Ok.ensures.count.0))

pub returns-in-Err-feed-clause-front : goal.returns-in-Err-feed-clause-front
returns-in-Err-feed-clause-front g c = err_front (g.S.Source.left c.args.source.now) (g.S.Source.left c.pieces.source) c.pieces.taken c.pieces.reader c.finish-in-Err-feed.result c.pieces.world c.pieces.done c.pieces.invariant.under.0 c.end_script-in-Err-feed.result (g.K.Sink.told c.args.sink.now) (g.K.Sink.told c.pieces.sink) (g.K.Sink.told c.end_script-in-Err-feed.new.sink) (λ text. c.sound_readings.ensures false text) c.pieces.invariant.under.1 c.pieces.invariant.drained (ends_early (g.S.Source.left c.args.source.now) (g.S.Source.left c.read.new.self) (c.pieces.taken + c.in-Ok.count) c.feed.new.self c.pieces.world c.pieces.done c.pieces.invariant.under.0 c.finish-in-Err-feed.result (fed (g.S.Source.left c.args.source.now) (g.S.Source.left c.pieces.source) (g.S.Source.left c.read.new.self) c.pieces.taken c.in-Ok.count c.pieces.reader c.feed.new.self c.pieces.world c.pieces.done c.pieces.invariant.under.0 (take c.in-Ok.count c.read.new.into) c.pieces.invariant.under.1 c.in-Ok.ensures.bytes.0 (c.in-Err-feed.ensures.script (search rules)) c.in-Ok.ensures.count.1) c.in-Err-feed.ensures.settled c.finish-in-Err-feed.ensures.script) c.pieces.invariant.under.2 c.end_script-in-Err-feed.ensures.front c.end_script-in-Err-feed.ensures.nothing c.end_script-in-Err-feed.ensures.causes

pub returns-in-Err-feed-clause-once : goal.returns-in-Err-feed-clause-once
returns-in-Err-feed-clause-once g c = ends_once (g.S.Source.ends c.args.source.now) (g.S.Source.ends c.pieces.source) (g.S.Source.ends c.read.new.self) c.in-Ok.count c.pieces.invariant.ends c.in-Ok.ensures.ends

pub returns-in-Err-feed-clause-stops : goal.returns-in-Err-feed-clause-stops
returns-in-Err-feed-clause-stops g c = stops_reading (g.S.Source.left c.args.source.now) (g.S.Source.left c.pieces.source) (g.S.Source.left c.read.new.self) c.pieces.taken c.pieces.reader c.pieces.world c.pieces.done c.pieces.invariant.under.0 (take c.in-Ok.count c.read.new.into) c.pieces.invariant.under.1 c.pieces.invariant.drained c.in-Ok.ensures.bytes.0 (omega (arith, c.in-Ok.ensures.count.1, c.in-Ok.ensures.count.0))

pub returns-in-Err-feed-clause-stopped : goal.returns-in-Err-feed-clause-stopped
returns-in-Err-feed-clause-stopped g c = err_stopped (g.S.Source.left c.args.source.now) (g.S.Source.left c.pieces.source) (g.S.Source.left c.read.new.self) c.pieces.taken c.pieces.reader c.finish-in-Err-feed.result c.pieces.world c.pieces.done c.pieces.invariant.under.0 (take c.in-Ok.count c.read.new.into) c.end_script-in-Err-feed.result (g.K.Sink.told c.args.sink.now) (g.K.Sink.told c.pieces.sink) (g.K.Sink.told c.end_script-in-Err-feed.new.sink) c.pieces.invariant.under.1 c.pieces.invariant.drained c.in-Ok.ensures.bytes.0 (omega (arith, c.in-Ok.ensures.count.1, c.in-Ok.ensures.count.0)) c.pieces.invariant.under.2 c.end_script-in-Err-feed.ensures.front c.end_script-in-Err-feed.ensures.nothing c.end_script-in-Err-feed.ensures.causes

pub answer_piece-requires-clause-known : goal.answer_piece-requires-clause-known
answer_piece-requires-clause-known g c = known_fed c.pieces.reader c.feed.new.self c.pieces.world (take c.in-Ok.count c.read.new.into) c.pieces.invariant.drained c.in_default.ensures.script

pub answer_piece-requires-clause-few : goal.answer_piece-requires-clause-few
answer_piece-requires-clause-few g c = few_under (g.S.Source.left c.args.source.now) (g.S.Source.left c.read.new.self) (c.pieces.taken + c.in-Ok.count) c.feed.new.self c.pieces.world c.pieces.done c.pieces.invariant.under.0 (λ text. c.sound_readings.ensures false text) (fed (g.S.Source.left c.args.source.now) (g.S.Source.left c.pieces.source) (g.S.Source.left c.read.new.self) c.pieces.taken c.in-Ok.count c.pieces.reader c.feed.new.self c.pieces.world c.pieces.done c.pieces.invariant.under.0 (take c.in-Ok.count c.read.new.into) c.pieces.invariant.under.1 c.in-Ok.ensures.bytes.0 c.in_default.ensures.script c.in-Ok.ensures.count.1)

pub returns-in-Err-answer_piece-clause-bounded : goal.returns-in-Err-answer_piece-clause-bounded
returns-in-Err-answer_piece-clause-bounded g c = read_bounded (g.S.Source.left c.args.source.now) (g.S.Source.left c.pieces.source) (g.S.Source.left c.read.new.self) (λ more. behind c.pieces.invariant.under.1.done (will_be c.pieces.reader more)) (take c.in-Ok.count c.read.new.into) c.pieces.taken (MOST_BYTES + 16384) c.pieces.invariant.under.1.read c.in-Ok.ensures.bytes.0 (omega (arith, c.pieces.invariant.counted, c.pieces.invariant.few, c.in-Ok.ensures.count.1, c.in-Ok.ensures.count.0))

pub returns-in-Err-answer_piece-clause-front : goal.returns-in-Err-answer_piece-clause-front
returns-in-Err-answer_piece-clause-front g c = front_of (g.S.Source.left c.args.source.now) (g.S.Source.left c.pieces.source) c.pieces.taken c.pieces.reader c.pieces.world c.pieces.done c.pieces.invariant.under.0 (g.K.Sink.told c.args.sink.now) (g.K.Sink.told c.pieces.sink) (λ text. c.sound_readings.ensures false text) c.pieces.invariant.under.1 c.pieces.invariant.drained (front_whole (g.K.Sink.told c.args.sink.now) (g.K.Sink.told c.pieces.sink) c.pieces.invariant.under.0 c.pieces.invariant.under.2)

pub returns-in-Err-answer_piece-clause-once : goal.returns-in-Err-answer_piece-clause-once
returns-in-Err-answer_piece-clause-once g c = ends_once (g.S.Source.ends c.args.source.now) (g.S.Source.ends c.pieces.source) (g.S.Source.ends c.read.new.self) c.in-Ok.count c.pieces.invariant.ends c.in-Ok.ensures.ends

pub returns-in-Err-answer_piece-clause-stops : goal.returns-in-Err-answer_piece-clause-stops
returns-in-Err-answer_piece-clause-stops g c = stops_reading (g.S.Source.left c.args.source.now) (g.S.Source.left c.pieces.source) (g.S.Source.left c.read.new.self) c.pieces.taken c.pieces.reader c.pieces.world c.pieces.done c.pieces.invariant.under.0 (take c.in-Ok.count c.read.new.into) c.pieces.invariant.under.1 c.pieces.invariant.drained c.in-Ok.ensures.bytes.0 (omega (arith, c.in-Ok.ensures.count.1, c.in-Ok.ensures.count.0))

pub returns-in-Err-answer_piece-clause-stopped : goal.returns-in-Err-answer_piece-clause-stopped
returns-in-Err-answer_piece-clause-stopped g c = stopped_before (g.S.Source.left c.args.source.now) (g.S.Source.left c.pieces.source) (g.S.Source.left c.read.new.self) c.pieces.taken c.pieces.reader c.pieces.world c.pieces.done c.pieces.invariant.under.0 (take c.in-Ok.count c.read.new.into) (g.K.Sink.told c.args.sink.now) (g.K.Sink.told c.pieces.sink) c.pieces.invariant.under.1 c.pieces.invariant.drained c.in-Ok.ensures.bytes.0 (omega (arith, c.in-Ok.ensures.count.1, c.in-Ok.ensures.count.0)) c.pieces.invariant.under.2

pub returns-in-Err-write_text-clause-bounded : goal.returns-in-Err-write_text-clause-bounded
returns-in-Err-write_text-clause-bounded g c = read_bounded (g.S.Source.left c.args.source.now) (g.S.Source.left c.pieces.source) (g.S.Source.left c.read.new.self) (λ more. behind c.pieces.invariant.under.1.done (will_be c.pieces.reader more)) (take c.in-Ok.count c.read.new.into) c.pieces.taken (MOST_BYTES + 16384) c.pieces.invariant.under.1.read c.in-Ok.ensures.bytes.0 (omega (arith, c.pieces.invariant.counted, c.pieces.invariant.few, c.in-Ok.ensures.count.1, c.in-Ok.ensures.count.0))

pub returns-in-Err-write_text-clause-front : goal.returns-in-Err-write_text-clause-front
returns-in-Err-write_text-clause-front g c = front_of (g.S.Source.left c.args.source.now) (g.S.Source.left c.read.new.self) (c.pieces.taken + c.in-Ok.count) c.answer_piece.new.reader c.answer_piece.new.world c.answer_piece.new.done (c.pieces.invariant.under.0 ++ c.answer_piece.new.text.items) (g.K.Sink.told c.args.sink.now) (g.K.Sink.told c.write_text.new.sink) (λ text. c.sound_readings.ensures false text) (answered (g.S.Source.left c.args.source.now) (g.S.Source.left c.read.new.self) (c.pieces.taken + c.in-Ok.count) c.feed.new.self c.answer_piece.new.reader c.pieces.world c.answer_piece.new.world c.pieces.done c.answer_piece.new.done c.pieces.invariant.under.0 c.answer_piece.new.text.items c.feed.new.self.lines.acts (fed (g.S.Source.left c.args.source.now) (g.S.Source.left c.pieces.source) (g.S.Source.left c.read.new.self) c.pieces.taken c.in-Ok.count c.pieces.reader c.feed.new.self c.pieces.world c.pieces.done c.pieces.invariant.under.0 (take c.in-Ok.count c.read.new.into) c.pieces.invariant.under.1 c.in-Ok.ensures.bytes.0 c.in_default.ensures.script c.in-Ok.ensures.count.1) c.in_default-answer_piece.ensures.script c.in_default-answer_piece.ensures.count c.in_default-answer_piece.ensures.more) (drained_after c.feed.new.self c.answer_piece.new.reader c.answer_piece.new.world c.in_default-answer_piece.ensures.reader c.in_default-answer_piece.ensures.known c.in_default-answer_piece.ensures.stays c.in_default-answer_piece.ensures.lacks c.in_default.ensures.fault) (front_on (g.K.Sink.told c.args.sink.now) (g.K.Sink.told c.pieces.sink) (g.K.Sink.told c.write_text.new.sink) c.pieces.invariant.under.0 c.answer_piece.new.text.items c.pieces.invariant.under.2 (subst (λ (bytes : List ℕ). TakesFront (g.K.Sink.told c.pieces.sink) (g.K.Sink.told c.write_text.new.sink) bytes) c.as_slice.ensures.value c.in-Err-write_text.ensures.err))

pub returns-in-Err-write_text-clause-once : goal.returns-in-Err-write_text-clause-once
returns-in-Err-write_text-clause-once g c = ends_once (g.S.Source.ends c.args.source.now) (g.S.Source.ends c.pieces.source) (g.S.Source.ends c.read.new.self) c.in-Ok.count c.pieces.invariant.ends c.in-Ok.ensures.ends

pub returns-in-Err-write_text-clause-stops : goal.returns-in-Err-write_text-clause-stops
returns-in-Err-write_text-clause-stops g c = stops_reading (g.S.Source.left c.args.source.now) (g.S.Source.left c.pieces.source) (g.S.Source.left c.read.new.self) c.pieces.taken c.pieces.reader c.pieces.world c.pieces.done c.pieces.invariant.under.0 (take c.in-Ok.count c.read.new.into) c.pieces.invariant.under.1 c.pieces.invariant.drained c.in-Ok.ensures.bytes.0 (omega (arith, c.in-Ok.ensures.count.1, c.in-Ok.ensures.count.0))

pub returns-in-Err-write_text-clause-stopped : goal.returns-in-Err-write_text-clause-stopped
returns-in-Err-write_text-clause-stopped g c = stopped_in (g.S.Source.left c.args.source.now) (g.S.Source.left c.pieces.source) (g.S.Source.left c.read.new.self) c.pieces.taken c.pieces.reader c.pieces.world c.pieces.done c.pieces.invariant.under.0 (take c.in-Ok.count c.read.new.into) c.answer_piece.new.text.items (g.K.Sink.told c.args.sink.now) (g.K.Sink.told c.pieces.sink) (g.K.Sink.told c.write_text.new.sink) c.pieces.invariant.under.1 c.pieces.invariant.drained c.in-Ok.ensures.bytes.0 (omega (arith, c.in-Ok.ensures.count.1, c.in-Ok.ensures.count.0)) c.pieces.invariant.under.2 (subst (λ (bytes : List ℕ). TakesFront (g.K.Sink.told c.pieces.sink) (g.K.Sink.told c.write_text.new.sink) bytes) c.as_slice.ensures.value c.in-Err-write_text.ensures.err)

pub pieces-preserved : goal.pieces-preserved
pieces-preserved g c = record {
  fresh = fresh_after c.feed.new.self c.answer_piece.new.reader c.in_default-answer_piece.ensures.reader c.in_default.ensures.fault;
  later = omega (arith, c.pieces.invariant.later, c.in-Ok.ensures.cause.later);
  kept = omega (arith, c.pieces.invariant.kept, c.in_default-write_text.ensures.later);
  ends = ends_same (g.S.Source.ends c.args.source.now) (g.S.Source.ends c.pieces.source) (g.S.Source.ends c.read.new.self) c.in-Ok.count c.in-Ok.count-test.1 c.pieces.invariant.ends c.in-Ok.ensures.ends;
  under = (c.pieces.invariant.under.0 ++ c.answer_piece.new.text.items, (answered (g.S.Source.left c.args.source.now) (g.S.Source.left c.read.new.self) (c.pieces.taken + c.in-Ok.count) c.feed.new.self c.answer_piece.new.reader c.pieces.world c.answer_piece.new.world c.pieces.done c.answer_piece.new.done c.pieces.invariant.under.0 c.answer_piece.new.text.items c.feed.new.self.lines.acts (fed (g.S.Source.left c.args.source.now) (g.S.Source.left c.pieces.source) (g.S.Source.left c.read.new.self) c.pieces.taken c.in-Ok.count c.pieces.reader c.feed.new.self c.pieces.world c.pieces.done c.pieces.invariant.under.0 (take c.in-Ok.count c.read.new.into) c.pieces.invariant.under.1 c.in-Ok.ensures.bytes.0 c.in_default.ensures.script c.in-Ok.ensures.count.1) c.in_default-answer_piece.ensures.script c.in_default-answer_piece.ensures.count c.in_default-answer_piece.ensures.more), takes_on (g.K.Sink.told c.args.sink.now) (g.K.Sink.told c.pieces.sink) (g.K.Sink.told c.write_text.new.sink) c.pieces.invariant.under.0 c.answer_piece.new.text.items c.pieces.invariant.under.2 (subst (λ (bytes : List ℕ). Takes (g.K.Sink.told c.pieces.sink) (g.K.Sink.told c.write_text.new.sink) bytes) c.as_slice.ensures.value c.in_default-write_text.ensures.ok));
  drained = (drained_after c.feed.new.self c.answer_piece.new.reader c.answer_piece.new.world c.in_default-answer_piece.ensures.reader c.in_default-answer_piece.ensures.known c.in_default-answer_piece.ensures.stays c.in_default-answer_piece.ensures.lacks c.in_default.ensures.fault);
  counted = omega (arith, bytes_after c.feed.new.self c.answer_piece.new.reader c.in_default-answer_piece.ensures.reader, c.in_default.ensures.counted, c.in-Ok.ensures.count.1, c.pieces.invariant.counted);
  few = omega (arith, bytes_after c.feed.new.self c.answer_piece.new.reader c.in_default-answer_piece.ensures.reader, c.in_default.ensures.few);
}
