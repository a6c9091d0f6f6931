use Rattle.std.proofs.Common.{rules, arith, take, ◌≡◌, ◌∙◌, refl}
use Rattle.sat_follow.proofs.Followed.{zero_bytes, ends_same, front_of, bounded, reads_on, goes_on_as, ok_ended_as, err_front_as, err_stopped_as, stopped_as, piece_front_as, piece_stopped_as}
use Rattle.sat_follow.proofs.pieces.follow.Goals as goal

pub returns-in-Err-clause-front : goal.returns-in-Err-clause-front
returns-in-Err-clause-front g c = front_of (g.F.Follower.meaning c.args.follower.now) (g.F.Follower.follows c.pieces.follower) (g.S.Source.left c.args.source.now) (g.S.Source.left c.pieces.source) (g.K.Sink.told c.args.sink.now) (g.K.Sink.told c.pieces.sink) (g.K.Sink.told c.pieces.sink) c.pieces.taken c.pieces.invariant.had (λ more. refl)

pub returns-in-Ok-eq0-clause-whole : goal.returns-in-Ok-eq0-clause-whole
returns-in-Ok-eq0-clause-whole g c = ok_ended_as (g.F.Follower.meaning c.args.follower.now) (g.F.Follower.meaning c.pieces.follower) (g.F.Follower.follows c.pieces.follower) (g.S.Source.left c.args.source.now) (g.S.Source.left c.pieces.source) (g.S.Source.left c.read.new.self) (g.K.Sink.told c.args.sink.now) (g.K.Sink.told c.pieces.sink) (g.K.Sink.told c.end_text.new.sink) c.pieces.taken c.end_text.result c.pieces.invariant.same c.pieces.invariant.had (zero_bytes (g.S.Source.left c.pieces.source) (g.S.Source.left c.read.new.self) c.in-Ok-eq0.field-0 c.read.new.into (let none : c.in-Ok-eq0.field-0 ≡ 0 = search rules in none) c.in-Ok-eq0.ensures.bytes.0) (c.in-Ok-eq0.ensures.bytes.1 (let none : c.in-Ok-eq0.field-0 ≡ 0 = search rules in none) (omega arith)) c.end_text.ensures.whole

pub returns-in-Ok-eq0-clause-front : goal.returns-in-Ok-eq0-clause-front
returns-in-Ok-eq0-clause-front g c = err_front_as (g.F.Follower.meaning c.args.follower.now) (g.F.Follower.meaning c.pieces.follower) (g.F.Follower.follows c.pieces.follower) (g.S.Source.left c.args.source.now) (g.S.Source.left c.pieces.source) (g.S.Source.left c.read.new.self) (g.K.Sink.told c.args.sink.now) (g.K.Sink.told c.pieces.sink) (g.K.Sink.told c.end_text.new.sink) c.pieces.taken c.end_text.result c.pieces.invariant.same c.pieces.invariant.had (zero_bytes (g.S.Source.left c.pieces.source) (g.S.Source.left c.read.new.self) c.in-Ok-eq0.field-0 c.read.new.into (let none : c.in-Ok-eq0.field-0 ≡ 0 = search rules in none) c.in-Ok-eq0.ensures.bytes.0) (c.in-Ok-eq0.ensures.bytes.1 (let none : c.in-Ok-eq0.field-0 ≡ 0 = search rules in none) (omega arith)) c.end_text.ensures.broke c.end_text.ensures.nothing c.end_text.ensures.causes

pub returns-in-Ok-eq0-clause-stopped : goal.returns-in-Ok-eq0-clause-stopped
returns-in-Ok-eq0-clause-stopped g c = err_stopped_as (g.F.Follower.meaning c.args.follower.now) (g.F.Follower.meaning c.pieces.follower) (g.F.Follower.follows c.pieces.follower) (g.S.Source.left c.args.source.now) (g.S.Source.left c.pieces.source) (g.S.Source.left c.read.new.self) (g.K.Sink.told c.args.sink.now) (g.K.Sink.told c.pieces.sink) (g.K.Sink.told c.end_text.new.sink) c.pieces.taken c.end_text.result c.pieces.invariant.same c.pieces.invariant.had (zero_bytes (g.S.Source.left c.pieces.source) (g.S.Source.left c.read.new.self) c.in-Ok-eq0.field-0 c.read.new.into (let none : c.in-Ok-eq0.field-0 ≡ 0 = search rules in none) c.in-Ok-eq0.ensures.bytes.0) c.end_text.ensures.broke c.end_text.ensures.nothing c.end_text.ensures.causes

pub returns-in-Err-answer_piece-clause-bounded : goal.returns-in-Err-answer_piece-clause-bounded
returns-in-Err-answer_piece-clause-bounded g c = bounded (g.F.Follower.meaning c.args.follower.now) (g.F.Follower.follows c.pieces.follower) (g.S.Source.left c.args.source.now) (g.S.Source.left c.pieces.source) (g.S.Source.left c.read.new.self) (g.K.Sink.told c.args.sink.now) (g.K.Sink.told c.pieces.sink) c.pieces.taken (take c.in-Ok.count c.read.new.into) c.pieces.invariant.had c.in-Ok.ensures.bytes.0 (omega (arith, c.in-Ok.ensures.count.1, c.in-Ok.ensures.count.0))

pub returns-in-Err-answer_piece-clause-stops : goal.returns-in-Err-answer_piece-clause-stops
returns-in-Err-answer_piece-clause-stops g c = reads_on (g.F.Follower.meaning c.args.follower.now) (g.F.Follower.follows c.pieces.follower) (g.S.Source.left c.args.source.now) (g.S.Source.left c.pieces.source) (g.S.Source.left c.read.new.self) (g.K.Sink.told c.args.sink.now) (g.K.Sink.told c.pieces.sink) c.pieces.taken (take c.in-Ok.count c.read.new.into) c.pieces.invariant.had c.in-Ok.ensures.bytes.0 (omega (arith, c.in-Ok.ensures.count.1, c.in-Ok.ensures.count.0))

pub returns-in-Err-answer_piece-clause-front : goal.returns-in-Err-answer_piece-clause-front
returns-in-Err-answer_piece-clause-front g c = piece_front_as (g.F.Follower.meaning c.args.follower.now) (g.F.Follower.meaning c.pieces.follower) (g.F.Follower.follows c.pieces.follower) (g.S.Source.left c.args.source.now) (g.S.Source.left c.pieces.source) (g.S.Source.left c.read.new.self) (g.K.Sink.told c.args.sink.now) (g.K.Sink.told c.pieces.sink) (g.K.Sink.told c.answer_piece.new.sink) c.pieces.taken (take c.in-Ok.count c.read.new.into) c.answer_piece.result c.in-Err-answer_piece.halt c.pieces.invariant.same c.pieces.invariant.had c.in-Ok.ensures.bytes.0 c.in-Err-answer_piece.is c.answer_piece.ensures.broke c.answer_piece.ensures.nothing c.answer_piece.ensures.causes

pub returns-in-Err-answer_piece-clause-stopped : goal.returns-in-Err-answer_piece-clause-stopped
returns-in-Err-answer_piece-clause-stopped g c = piece_stopped_as (g.F.Follower.meaning c.args.follower.now) (g.F.Follower.meaning c.pieces.follower) (g.F.Follower.follows c.pieces.follower) (g.S.Source.left c.args.source.now) (g.S.Source.left c.pieces.source) (g.S.Source.left c.read.new.self) (g.K.Sink.told c.args.sink.now) (g.K.Sink.told c.pieces.sink) (g.K.Sink.told c.answer_piece.new.sink) c.pieces.taken (take c.in-Ok.count c.read.new.into) c.answer_piece.result c.in-Err-answer_piece.halt c.pieces.invariant.same c.pieces.invariant.had c.in-Ok.ensures.bytes.0 (omega (arith, c.in-Ok.ensures.count.1, c.in-Ok.ensures.count.0)) c.in-Err-answer_piece.is c.answer_piece.ensures.broke c.answer_piece.ensures.nothing c.answer_piece.ensures.causes

pub returns-then-not-good-clause-whole : goal.returns-then-not-good-clause-whole
returns-then-not-good-clause-whole g c = stopped_as (g.F.Follower.meaning c.args.follower.now) (g.F.Follower.meaning c.pieces.follower) (g.F.Follower.follows c.pieces.follower) (g.S.Source.left c.args.source.now) (g.S.Source.left c.pieces.source) (g.S.Source.left c.read.new.self) (g.K.Sink.told c.args.sink.now) (g.K.Sink.told c.pieces.sink) (g.K.Sink.told c.answer_piece.new.sink) c.pieces.taken (take c.in-Ok.count c.read.new.into) c.pieces.invariant.same c.pieces.invariant.had c.in-Ok.ensures.bytes.0 (c.in-Ok-answer_piece.ensures.bad c.if-not-good.true)

pub returns-then-not-good-clause-bounded : goal.returns-then-not-good-clause-bounded
returns-then-not-good-clause-bounded g c = bounded (g.F.Follower.meaning c.args.follower.now) (g.F.Follower.follows c.pieces.follower) (g.S.Source.left c.args.source.now) (g.S.Source.left c.pieces.source) (g.S.Source.left c.read.new.self) (g.K.Sink.told c.args.sink.now) (g.K.Sink.told c.pieces.sink) c.pieces.taken (take c.in-Ok.count c.read.new.into) c.pieces.invariant.had c.in-Ok.ensures.bytes.0 (omega (arith, c.in-Ok.ensures.count.1, c.in-Ok.ensures.count.0))

pub returns-then-not-good-clause-stops : goal.returns-then-not-good-clause-stops
returns-then-not-good-clause-stops g c = reads_on (g.F.Follower.meaning c.args.follower.now) (g.F.Follower.follows c.pieces.follower) (g.S.Source.left c.args.source.now) (g.S.Source.left c.pieces.source) (g.S.Source.left c.read.new.self) (g.K.Sink.told c.args.sink.now) (g.K.Sink.told c.pieces.sink) c.pieces.taken (take c.in-Ok.count c.read.new.into) c.pieces.invariant.had c.in-Ok.ensures.bytes.0 (omega (arith, c.in-Ok.ensures.count.1, c.in-Ok.ensures.count.0))

pub pieces-preserved : goal.pieces-preserved
pieces-preserved g c = record {
  same = c.in-Ok-answer_piece.ensures.same ∙ c.pieces.invariant.same;
  later = omega (arith, c.pieces.invariant.later, c.in-Ok.ensures.cause.later);
  kept = omega (arith, c.pieces.invariant.kept, c.in-Ok-answer_piece.ensures.later);
  ends = ends_same (g.S.Source.ends c.args.source.now) (g.S.Source.ends c.pieces.source) (g.S.Source.ends c.read.new.self) c.in-Ok.count c.in-Ok.count-test.1 c.pieces.invariant.ends c.in-Ok.ensures.ends;
  had = goes_on_as (g.F.Follower.meaning c.args.follower.now) (g.F.Follower.meaning c.pieces.follower) (g.F.Follower.meaning c.answer_piece.new.follower) (g.F.Follower.follows c.pieces.follower) (g.F.Follower.follows c.answer_piece.new.follower) (g.S.Source.left c.args.source.now) (g.S.Source.left c.pieces.source) (g.S.Source.left c.read.new.self) (g.K.Sink.told c.args.sink.now) (g.K.Sink.told c.pieces.sink) (g.K.Sink.told c.answer_piece.new.sink) c.pieces.taken c.in-Ok.count (take c.in-Ok.count c.read.new.into) c.pieces.invariant.same c.in-Ok-answer_piece.ensures.same c.pieces.invariant.had (λ front. g.met.F.Follower.answered c.answer_piece.new.follower front) (c.in-Ok-answer_piece.ensures.good c.if-not-good.false) c.in-Ok.ensures.bytes.0 c.in-Ok.ensures.count.1;
}
