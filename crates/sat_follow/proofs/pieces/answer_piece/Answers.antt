use Rattle.std.proofs.Common.{subst}
use Rattle.sat_follow.specs.Following.{TakesFront}
use Rattle.sat_follow.proofs.Followed.{broke_of}
use Rattle.sat_follow.proofs.pieces.answer_piece.Goals as goal

pub returns-in-Err-clause-broke : goal.returns-in-Err-clause-broke
returns-in-Err-clause-broke g c = λ _. broke_of (g.F.Follower.meaning c.args.follower.now) (g.F.Follower.meaning c.feed.new.self) (g.F.Follower.follows c.args.follower.now) (g.F.Follower.follows c.feed.new.self) c.args.piece.now c.feed.new.text.items c.in-Ok.good (g.K.Sink.told c.args.sink.now) (g.K.Sink.told c.write_text.new.sink) c.in-Ok.ensures.same (λ front. g.met.F.Follower.answered c.feed.new.self front) c.in-Ok.ensures.good c.in-Ok.ensures.bad (subst (TakesFront (g.K.Sink.told c.args.sink.now) (g.K.Sink.told c.write_text.new.sink)) c.as_slice.ensures.value c.in-Err.ensures.err)
