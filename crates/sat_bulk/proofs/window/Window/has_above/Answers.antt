use Rattle.std.proofs.Common.{◌≡◌, ◌<◌, ℕ, ◌-◌, ap, arith, refl, ◌∙◌}
use Rattle.sat_bulk.specs.Windows.{Numbers, has_number}
use Rattle.std.proofs.lemmas.Option.{slice_get_read}
use Rattle.sat_bulk.proofs.Marks.{has_mark}
use Rattle.sat_bulk.proofs.window.Window.has_above.Goals as goal

above : (a b n : ℕ) → a ≡ b → b < n → a < n
above a b n e f = omega (arith, e, f)

less : (i n k : ℕ) → i < n → n ≡ k → i < k
less i n k e f = omega (arith, e, f)

-- the mark that was read is the number's own
pub returns-then-offset-len : goal.returns-then-offset-len
returns-then-offset-len c =
    let w = c.self.inside in
    let i = c.args.number - w.front - 1 in
    let at = slice_get_read w.marks.items w.marks.len i c.index.result.now w.marks.ok.0 (less i c.len.result w.marks.len c.if-offset-len.true c.len.ensures) c.index.ensures in
    has_mark w.front c.args.number i w.marks.items w.far.keys c.index.result.now c.self.invariant (above w.front c.args.self.now.front c.args.number (ap (λ (v : Numbers). v.front) c.self.view_is) c.requires) refl at
    ∙ ap (λ (v : Numbers). has_number v c.args.number) c.self.view_is
