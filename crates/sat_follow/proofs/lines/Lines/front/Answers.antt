use Rattle.std.proofs.Common.{rules, ◌≡◌, ◌++◌, ◌∙◌, length}
use Rattle.sat_follow.proofs.LineByLine.{adds_part, breaks_part, stuck_at, open_at}
use Rattle.sat_follow.proofs.lines.Lines.front.Goals as goal

pub returns-then-is_stuck-clause-bad : goal.returns-then-is_stuck-clause-bad
returns-then-is_stuck-clause-bad g c = λ r same _.
    let longer : c.extend_from_slice.new.self.items ≡ c.args.self.now.begun.items ++ c.args.part.now = search rules in
    breaks_part r (g.L.LineFollower.rules c.args.self.now.each) (g.L.LineFollower.stands_for c.args.self.now.each) (g.L.LineFollower.stands_for c.line.new.self) c.args.self.now.begun.items c.as_slice.result.now c.args.part.now c.args.text.now.items c.line.new.text.items c.len.result c.in_ok-_good._good same c.requires (c.as_slice.ensures.value ∙ longer) (let size : c.len.result ≡ length c.as_slice.result.now = search rules in size)
    (λ s had. stuck_at (g.L.LineFollower.rules c.args.self.now.each) s c.len.result c.is_stuck.result c.if-is_stuck.true (c.is_stuck.ensures s had)) c.in_ok-_good.ensures.good c.in_ok-_good.ensures.bad

pub returns-clause-good : goal.returns-clause-good
returns-clause-good g c = λ r same _.
    let longer : c.extend_from_slice.new.self.items ≡ c.args.self.now.begun.items ++ c.args.part.now = search rules in
    adds_part r (g.L.LineFollower.rules c.args.self.now.each) (g.L.LineFollower.stands_for c.args.self.now.each) c.args.self.now.begun.items c.extend_from_slice.new.self.items c.args.part.now c.args.text.now.items c.len.result same c.requires longer (let size : c.len.result ≡ length c.extend_from_slice.new.self.items = search rules in size)
    (λ s had. open_at (g.L.LineFollower.rules c.args.self.now.each) s c.len.result c.is_stuck.result c.if-is_stuck.false (c.is_stuck.ensures s had))
