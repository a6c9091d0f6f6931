use Rattle.std.proofs.Common.{arith, ℕ, ◌<◌, ◌∙◌, ap, sym, subst, length, slice_index, ◌-◌}
use Rattle.sat_plan.proofs.Grown.{placed_more}
use Rattle.sat_place.specs.Search.{tried}
use Rattle.sat_place.specs.Ways.{known, added}
use Rattle.sat_place.proofs.Costs.{known_step, known_front, known_few}
use Rattle.sat_place.proofs.Found.{cut_off, whole_list, tried_start, tried_more, tried_all}
use Rattle.sat_place.proofs.search.+search.Goals as goal

pub returns-then-cost-found : goal.returns-then-cost-found
returns-then-cost-found t c =
    cut_off (known c.args.d.now c.args.ways.now) c.args.d.now.places c.args.left c.args.cost c.args.front.now c.args.found
    c.requires.ways.limits.some_place (known_front c.args.d.now c.args.ways.now c.args.front.now c.args.cost c.requires.ways c.requires.cost) c.if-cost-found.true

pub returns-then-left-eq0 : goal.returns-then-left-eq0
returns-then-left-eq0 t c =
    ap (λ places. record { places = places; mismatch = c.args.cost }) c.in_ok-places.ensures
    ∙ whole_list (known c.args.d.now c.args.ways.now) c.args.d.now.places c.args.left c.args.cost c.args.front.now c.args.found
    c.if-left-eq0.true c.requires.cost c.if-cost-found.false

pub loop-place-init : goal.loop-place-init
loop-place-init t c = sym (tried_start (known c.args.d.now c.args.ways.now) c.args.d.now.places (c.args.left - 1) c.args.front.now c.args.found)

pub overflow_add-sum : goal.overflow_add-sum
overflow_add-sum t c =
    let most = known_few c.args.d.now c.args.ways.now c.args.front.now c.requires.ways in
    let own = c.requires.cost in
    let few = c.added.ensures.few in
    omega arith

pub search-requires : goal.search-requires
search-requires t c = (
  let some = c.if-left-eq0.false in omega arith,
  (
    c.requires.ways,
    (
      subst (λ xs. (z : ℕ) → z < length xs → slice_index xs z < c.args.d.now.places) (sym c.in_ok-next.ensures)
          (placed_more c.args.front.now c.loop-place.place c.args.d.now.places (let end = c.places-place-end.ensures.places in let test = c.loop-place-test.true in omega arith) c.requires.within),
      known_step c.args.d.now c.args.ways.now c.args.front.now c.in_ok-next.next c.loop-place.place c.args.cost c.added.result c.requires.ways c.in_ok-next.ensures c.requires.cost (c.added.ensures.added ∙ ap (added c.args.d.now c.args.ways.now) c.as_slice.ensures),
    ),
  ),
)

pub loop-place-preserved : goal.loop-place-preserved
loop-place-preserved t c =
    tried_more (known c.args.d.now c.args.ways.now) c.args.d.now.places (c.args.left - 1) c.loop-place.place c.args.front.now c.in_ok-next.next c.args.found c.loop-place.best c.in_ok-best.best
    c.in_ok-next.ensures c.loop-place.invariant c.in_ok-best.ensures

pub returns : goal.returns
returns t c =
    tried_all (known c.args.d.now c.args.ways.now) c.args.d.now.places (c.args.left - 1) c.args.left c.args.front.now c.args.found c.loop-place.best
    c.requires.ways.limits.some_place (let some = c.if-left-eq0.false in omega arith)
    (c.loop-place.invariant ∙ ap (tried (known c.args.d.now c.args.ways.now) c.args.d.now.places (c.args.left - 1) c.args.front.now c.args.found)
    (let end = c.places-place-end.ensures.places in let test = c.loop-place-test.false in let most = c.loop-place.auto.place-end in omega arith))
