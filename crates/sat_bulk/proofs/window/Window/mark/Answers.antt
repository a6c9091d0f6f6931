use Rattle.std.proofs.Common.{◌≡◌, ◌<◌, ◌≤◌, ◌-◌, ◌+◌, ◌==◌, ℕ, Bool, false, List, length, arith, refl, sym, ap, subst, ◌∙◌}
use Rattle.std.proofs.lemmas.Option.{slice_get_read}
use Rattle.std.proofs.lemmas.Result.{on_err_weaker}
use Rattle.sat_label.specs.Words.{has}
use Rattle.sat_bulk.specs.Windows.{Numbers, placed, told_by, AreApart}
use Rattle.sat_bulk.proofs.Marks.{either, far_placed, laid_placed, mark_new, mark_placed, pad_placed}
use Rattle.sat_bulk.proofs.window.Window.mark.Goals as goal

below : (w v : Numbers) (n : ℕ) → w ≡ v → v.front < n → w.front < n
below w v n is e = subst (λ (u : Numbers). u.front < n) (sym is) e

lacks : (w v : Numbers) (n : ℕ) → w ≡ v → has ◌==◌ v.above n ≡ false → has ◌==◌ w.above n ≡ false
lacks w v n is e = subst (λ (u : Numbers). has ◌==◌ u.above n ≡ false) (sym is) e

within : (i n k : ℕ) → n ≡ k → n ≤ i → k ≤ i
within i n k e f = omega (arith, e, f)

less : (i n k : ℕ) → i < n → n ≡ k → i < k
less i n k e f = omega (arith, e, f)

-- ---- its mark is there

pub invariant_of-self : goal.invariant_of-self
invariant_of-self c =
    let w = c.self.inside in
    let i = c.args.number - w.front - 1 in
    let above = below _ _ c.args.number c.self.view_is c.requires.above in
    let at = slice_get_read w.marks.items w.marks.len i c.index_mut.result.now w.marks.ok.0 (less i c.len.result w.marks.len c.if-offset-len.true c.len.ensures) c.index_mut.ensures.value in
    let new = mark_new w.front c.args.number i w.marks.items w.far.keys _ c.self.invariant above refl at (lacks _ _ c.args.number c.self.view_is c.requires.new) in
    (mark_placed w.front c.args.number i w.marks.items w.far.keys c.self.invariant above c.requires.small refl new).1

pub returns-then-offset-len-clause-ok : goal.returns-then-offset-len-clause-ok
returns-then-offset-len-clause-ok c =
    let w = c.self.inside in
    let i = c.args.number - w.front - 1 in
    let above = below _ _ c.args.number c.self.view_is c.requires.above in
    let at = slice_get_read w.marks.items w.marks.len i c.index_mut.result.now w.marks.ok.0 (less i c.len.result w.marks.len c.if-offset-len.true c.len.ensures) c.index_mut.ensures.value in
    let new = mark_new w.front c.args.number i w.marks.items w.far.keys _ c.self.invariant above refl at (lacks _ _ c.args.number c.self.view_is c.requires.new) in
    (mark_placed w.front c.args.number i w.marks.items w.far.keys c.self.invariant above c.requires.small refl new).0
    ∙ ap (λ (v : Numbers). record { front = v.front; above = placed v.above c.args.number }) c.self.view_is

-- ---- marks are laid

pub invariant_of-self-then-is_before : goal.invariant_of-self-then-is_before
invariant_of-self-then-is_before c =
    let w = c.self.inside in
    let i = c.args.number - w.front - 1 in
    let above = below _ _ c.args.number c.self.view_is c.requires.above in
    let after = within i c.len.result (length w.marks.items) (c.len.ensures ∙ w.marks.ok.0) c.if-offset-len.false in
    let before = c.is_before.ensures c.if-is_before.true in
    either c.lay.result c.lay.ensures.ok c.lay.ensures.err
    (λ how. (laid_placed w.front c.args.number i w.marks.items _ w.far.keys c.self.invariant above c.requires.small refl after before how).1)
    (λ how. (pad_placed w.front c.args.number i w.marks.items _ w.far.keys c.self.invariant above refl after before how).1)

pub returns-then-is_before-clause-err : goal.returns-then-is_before-clause-err
returns-then-is_before-clause-err c =
    let w = c.self.inside in
    let i = c.args.number - w.front - 1 in
    let above = below _ _ c.args.number c.self.view_is c.requires.above in
    let after = within i c.len.result (length w.marks.items) (c.len.ensures ∙ w.marks.ok.0) c.if-offset-len.false in
    on_err_weaker c.lay.result (λ how. (pad_placed w.front c.args.number i w.marks.items _ w.far.keys c.self.invariant above refl after (c.is_before.ensures c.if-is_before.true) how).0 ∙ c.self.view_is) c.lay.ensures.err

-- ---- a far number

pub invariant_of-self-2 : goal.invariant_of-self-2
invariant_of-self-2 c =
    let w = c.self.inside in
    let i = c.args.number - w.front - 1 in
    let above = below _ _ c.args.number c.self.view_is c.requires.above in
    let after = within i c.len.result (length w.marks.items) (c.len.ensures ∙ w.marks.ok.0) c.if-offset-len.false in
    either c.insert.result c.insert.ensures.keys c.insert.ensures.err
    (λ is. subst (AreApart w.front w.marks.items) (sym is) (far_placed w.front c.args.number i w.marks.items w.far.keys c.self.invariant above c.requires.small refl after).1)
    (λ is. subst (AreApart w.front w.marks.items) (sym is) c.self.invariant)
