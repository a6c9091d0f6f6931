use Rattle.std.proofs.Common.{◌+◌, ap, ◌∙◌}
use Rattle.sat_bulk.specs.Windows.{Numbers, settled}
use Rattle.sat_bulk.proofs.Marks.{advanced_to, passed_far}
use Rattle.sat_bulk.proofs.window.Window.advance.Goals as goal

pub pass-self-inside-requires : goal.pass-self-inside-requires
pass-self-inside-requires c =
    passed_far (c.self.inside.front + 1) c.self.inside.marks.items c.self.inside.far.keys _ _ c.pass_marks-front.ensures c.self.invariant.behind

pub invariant_of-self : goal.invariant_of-self
invariant_of-self c =
    (advanced_to c.self.inside.front c.self.inside.marks.items c.self.inside.far.keys _ _ _ _ c.self.invariant c.pass_marks-front.ensures c.pass-self-inside.ensures).1

pub returns : goal.returns
returns c =
    (advanced_to c.self.inside.front c.self.inside.marks.items c.self.inside.far.keys _ _ _ _ c.self.invariant c.pass_marks-front.ensures c.pass-self-inside.ensures).0
    ∙ ap (λ (w : Numbers). settled (w.front + 1) w.above) c.self.view_is
