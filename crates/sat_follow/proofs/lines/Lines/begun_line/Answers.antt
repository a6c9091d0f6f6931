use Rattle.std.proofs.Common.{rules, ◌≡◌, ◌++◌, ◌∙◌}
use Rattle.sat_follow.proofs.LineByLine.{adds_line_then, breaks_line}
use Rattle.sat_follow.proofs.lines.Lines.begun_line.Goals as goal

pub returns-clause-good : goal.returns-clause-good
returns-clause-good g c = λ r same good.
    let longer : c.extend_from_slice.new.self.items ≡ c.args.self.now.begun.items ++ c.args.part.now = search rules in
    adds_line_then r (g.L.LineFollower.rules c.args.self.now.each) (g.L.LineFollower.stands_for c.args.self.now.each) (g.L.LineFollower.stands_for c.line.new.self) c.args.self.now.begun.items c.as_slice.result.now c.clear.new.self.items c.args.part.now c.args.text.now.items c.line.new.text.items same c.requires (c.as_slice.ensures.value ∙ longer) c.clear.ensures.items (c.in_ok-good.ensures.good good)

pub returns-clause-bad : goal.returns-clause-bad
returns-clause-bad g c = λ r same bad.
    let longer : c.extend_from_slice.new.self.items ≡ c.args.self.now.begun.items ++ c.args.part.now = search rules in
    breaks_line r (g.L.LineFollower.rules c.args.self.now.each) (g.L.LineFollower.stands_for c.args.self.now.each) c.args.self.now.begun.items c.as_slice.result.now c.args.part.now c.args.text.now.items c.line.new.text.items same c.requires (c.as_slice.ensures.value ∙ longer) (c.in_ok-good.ensures.bad bad)
