use Rattle.std.proofs.Common.{◌≡◌, ◌+◌, ◌<◌, ◌≤◌, length, Some, slice_get, refl, sym, subst}
use Rattle.std.proofs.lemmas.Option.{slice_get_read}
use Rattle.std.specs.Sync.Mutex.{mutex_guard_value}
use Rattle.sat_node.specs.Together.{IsSure, KeepsSome}
use Rattle.sat_node.proofs.Lent.{lent_at, set_at}
use Rattle.sat_parts_passes.proofs.taking.take_one.Goals as goal

pub take_sure-requires-clause-room : goal.take_sure-requires-clause-room
take_sure-requires-clause-room g c =
    let gs = c.args.nodes.now.items in
    let was = c.index_mut.result.now in
    let at : slice_get gs c.args.k ≡ Some was = slice_get_read gs (length gs) c.args.k was refl c.requires.inside c.index_mut.ensures.value in
    subst (λ x. 0 < x.node.room) (sym c.deref_mut-node.ensures.value) (c.requires.room c.args.k (mutex_guard_value was) (lent_at gs c.args.k was at) refl)

pub take_sure-requires-clause-number : goal.take_sure-requires-clause-number
take_sure-requires-clause-number g c =
    let gs = c.args.nodes.now.items in
    let was = c.index_mut.result.now in
    let at : slice_get gs c.args.k ≡ Some was = slice_get_read gs (length gs) c.args.k was refl c.requires.inside c.index_mut.ensures.value in
    subst (λ x. x.node.number ≤ c.args.last) (sym c.deref_mut-node.ensures.value) (c.requires.number c.args.k (mutex_guard_value was) (lent_at gs c.args.k was at) refl)

pub take_sure-requires-clause-part : goal.take_sure-requires-clause-part
take_sure-requires-clause-part g c =
    let gs = c.args.nodes.now.items in
    let was = c.index_mut.result.now in
    let at : slice_get gs c.args.k ≡ Some was = slice_get_read gs (length gs) c.args.k was refl c.requires.inside c.index_mut.ensures.value in
    subst (λ x. IsSure g.M.Machine.meaning g.M.Machine.takes_in g.M.Machine.may_fail x c.args.part) (sym c.deref_mut-node.ensures.value) (c.requires.part c.args.k (mutex_guard_value was) (lent_at gs c.args.k was at) refl)

pub returns : goal.returns
returns g c =
    let gs = c.args.nodes.now.items in
    let was = c.index_mut.result.now in
    let at : slice_get gs c.args.k ≡ Some was = slice_get_read gs (length gs) c.args.k was refl c.requires.inside c.index_mut.ensures.value in
    set_at (KeepsSome g.M.Machine.meaning (c.args.last + 1) c.args.part.input) gs c.args.k was c.take_sure.new.node at
    (subst (λ x. KeepsSome g.M.Machine.meaning (c.args.last + 1) c.args.part.input x c.take_sure.new.node) c.deref_mut-node.ensures.value c.take_sure.ensures)
