use Rattle.std.proofs.Common.{ap, sym, subst, ◌∙◌, ◌<◌, Bool, length}
use Rattle.std.specs.Prelude.{not}
use Rattle.sat_pool.specs.Pool.{Waiting}
use Rattle.sat_pool.proofs.Pools.{added_kept, again_kept}
use Rattle.sat_pool.proofs.pool.Pool.add.Goals as goal

pub invariant_of-self-then-is_none : goal.invariant_of-self-then-is_none
invariant_of-self-then-is_none c =
    let within : c.args.payload.label.point.site < length c.self.inside.rows.items = subst (λ (w : Waiting). c.args.payload.label.point.site < length w.rows) (sym c.self.view_is) c.requires.site in
    rw c.label.ensures (added_kept c.self.inside.rows.items c.self.inside.count c.args.payload c.index_mut-row.result.now c.insert.new.self c.in_ok-before.before c.self.invariant within (rw c.label.ensures at c.index_mut-row.ensures.value) c.in_ok-before.ensures.ok c.in_ok-before.ensures.before (c.is_none.ensures ∙ ap (λ (b : Bool). not b) c.if-is_none.true))

pub invariant_of-self-else-is_none : goal.invariant_of-self-else-is_none
invariant_of-self-else-is_none c =
    let within : c.args.payload.label.point.site < length c.self.inside.rows.items = subst (λ (w : Waiting). c.args.payload.label.point.site < length w.rows) (sym c.self.view_is) c.requires.site in
    rw c.label.ensures (again_kept c.self.inside.rows.items c.self.inside.count c.args.payload c.index_mut-row.result.now c.insert.new.self c.in_ok-before.before c.self.invariant within (rw c.label.ensures at c.index_mut-row.ensures.value) c.in_ok-before.ensures.ok c.in_ok-before.ensures.before (c.is_none.ensures ∙ ap (λ (b : Bool). not b) c.if-is_none.false))
