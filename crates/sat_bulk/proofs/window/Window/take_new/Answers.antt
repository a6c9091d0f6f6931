use Rattle.std.proofs.Common.{◌≡◌, ◌==◌, ℕ, Bool, false, arith, ap, sym, ◌∙◌}
use Rattle.std.proofs.lemmas.Bool.{ne_eqb}
use Rattle.std.proofs.lemmas.Result.{on_ok_weaker}
use Rattle.sat_bulk.specs.Windows.{Numbers}
use Rattle.sat_bulk.proofs.Marks.{then_has}
use Rattle.sat_bulk.proofs.window.Window.take_new.Goals as goal

pub returns-clause-numbers : goal.returns-clause-numbers
returns-clause-numbers c =
    let front : c.self.inside.front ≡ c.args.self.now.front = ap (λ (w : Numbers). w.front) c.self.view_is in
    let away = ne_eqb c.args.number c.args.self.now.front (λ e. c.if-number-self.false (e ∙ sym front)) in
    on_ok_weaker c.mark.result (λ is. (then_has _ _ c.args.number c.requires.new away is).1) c.mark.ensures.ok
