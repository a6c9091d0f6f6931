use Rattle.std.proofs.Common.{◌≡◌, []}
use Rattle.sat_follow.proofs.LineByLine.{adds_whole, breaks_whole, empty_is}
use Rattle.sat_follow.proofs.lines.Lines.end_of_line.Goals as goal

pub returns-then-is_empty-clause-good : goal.returns-then-is_empty-clause-good
returns-then-is_empty-clause-good g c = λ r same.
    let empty : c.args.self.now.begun.items ≡ [] = empty_is c.args.self.now.begun.items (rw c.as_slice.ensures.value at c.if-is_empty.ensures) in
    adds_whole r (g.L.LineFollower.rules c.args.self.now.each) (g.L.LineFollower.stands_for c.args.self.now.each) (g.L.LineFollower.stands_for c.line.new.self) c.args.self.now.begun.items c.args.part.now c.args.text.now.items c.line.new.text.items c.line.result same c.requires empty c.line.ensures.good

pub returns-then-is_empty-clause-bad : goal.returns-then-is_empty-clause-bad
returns-then-is_empty-clause-bad g c = λ r same.
    let empty : c.args.self.now.begun.items ≡ [] = empty_is c.args.self.now.begun.items (rw c.as_slice.ensures.value at c.if-is_empty.ensures) in
    breaks_whole r (g.L.LineFollower.rules c.args.self.now.each) (g.L.LineFollower.stands_for c.args.self.now.each) c.args.self.now.begun.items c.args.part.now c.args.text.now.items c.line.new.text.items c.line.result same c.requires empty c.line.ensures.bad
