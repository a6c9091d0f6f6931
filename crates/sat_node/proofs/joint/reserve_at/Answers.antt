use Rattle.std.proofs.Common.{◌≡◌, ◌<◌, ◌≤◌, length, Some, slice_get, refl, sym, subst}
use Rattle.std.proofs.lemmas.Option.{slice_get_read}
use Rattle.std.specs.Sync.Mutex.{mutex_guard_value}
use Rattle.sat_node.specs.Together.{SameHeld}
use Rattle.sat_node.proofs.Lent.{lent_at, set_at}
use Rattle.sat_node.proofs.Together.{on_then}
use Rattle.sat_node.proofs.joint.reserve_at.Goals as goal

pub reserve_one-requires-clause-number : goal.reserve_one-requires-clause-number
reserve_one-requires-clause-number g c =
    let gs = c.args.nodes.now.items in
    let was = c.index_mut.result.now in
    let at : slice_get gs c.args.k ≡ Some was = slice_get_read gs (length gs) c.args.k was refl c.requires.inside c.index_mut.ensures.value in
    subst (λ x. x.node.number ≤ c.args.last) (sym c.deref_mut-node.ensures.value) (c.requires.number c.args.k (mutex_guard_value was) (lent_at gs c.args.k was at))

pub returns-clause-same : goal.returns-clause-same
returns-clause-same g c =
    let gs = c.args.nodes.now.items in
    let was = c.index_mut.result.now in
    let at : slice_get gs c.args.k ≡ Some was = slice_get_read gs (length gs) c.args.k was refl c.requires.inside c.index_mut.ensures.value in
    set_at SameHeld gs c.args.k was c.reserve_one.new.node at (subst (λ x. SameHeld x c.reserve_one.new.node) c.deref_mut-node.ensures.value c.reserve_one.ensures.same)

pub returns-clause-room : goal.returns-clause-room
returns-clause-room g c =
    let gs = c.args.nodes.now.items in
    let was = c.index_mut.result.now in
    let at : slice_get gs c.args.k ≡ Some was = slice_get_read gs (length gs) c.args.k was refl c.requires.inside c.index_mut.ensures.value in
    on_then c.reserve_one.result (λ (p : 0 < c.reserve_one.new.node.node.room). set_at (λ _ h. 0 < h.node.room) gs c.args.k was c.reserve_one.new.node at p) c.reserve_one.ensures.room
