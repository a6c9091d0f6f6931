use Rattle.std.proofs.Common.{◌≡◌, length, arith, refl}
use Rattle.std.proofs.lemmas.List.{length-map}
use Rattle.std.specs.Sync.Mutex.{mutex_guard_value}
use Rattle.sat_node.specs.Together.{lent}
use Rattle.sat_node.proofs.Lent.{all_number, all_only, all_same, room_all, room_more, room_none}
use Rattle.sat_node.proofs.joint.reserve_rest.Goals as goal

pub loop-k-init : goal.loop-k-init
loop-k-init g c = (all_same (lent c.args.nodes.now.items), room_none 0 (lent c.args.nodes.now.items) refl)

pub reserve_at-requires-clause-inside : goal.reserve_at-requires-clause-inside
reserve_at-requires-clause-inside g c =
    let same = c.loop-k.invariant.0.0 in
    let a = length-map c.loop-k.nodes.items mutex_guard_value in
    let b = length-map c.args.nodes.now.items mutex_guard_value in
    omega arith

pub reserve_at-requires-clause-number : goal.reserve_at-requires-clause-number
reserve_at-requires-clause-number g c = all_number c.args.last (lent c.args.nodes.now.items) (lent c.loop-k.nodes.items) c.loop-k.invariant.0 c.requires.number

pub returns-in-Err-clause-same : goal.returns-in-Err-clause-same
returns-in-Err-clause-same g c =
    all_only c.loop-k.k (lent c.args.nodes.now.items) (lent c.loop-k.nodes.items) (lent c.reserve_at.new.nodes.items) c.loop-k.invariant.0 c.reserve_at.ensures.same

pub loop-k-preserved : goal.loop-k-preserved
loop-k-preserved g c = (
  all_only c.loop-k.k (lent c.args.nodes.now.items) (lent c.loop-k.nodes.items) (lent c.reserve_at.new.nodes.items) c.loop-k.invariant.0 c.reserve_at.ensures.same,
  room_more c.loop-k.k (lent c.loop-k.nodes.items) (lent c.reserve_at.new.nodes.items) c.loop-k.invariant.1 c.in_default.ensures.room,
)

pub returns-clause-room : goal.returns-clause-room
returns-clause-room g c =
    let past = c.loop-k-test.false in
    let most = c.loop-k.auto.k-end in
    let same = c.loop-k.invariant.0.0 in
    let b = length-map c.args.nodes.now.items mutex_guard_value in
    let whole : length (lent c.loop-k.nodes.items) ≡ c.loop-k.k = omega arith in
    room_all c.loop-k.k (lent c.loop-k.nodes.items) whole c.loop-k.invariant.1
