use Rattle.std.proofs.Common.{◌≡◌, ◌+◌, ℕ, length, take, sum_by, refl, subst, arith}
use Rattle.std.proofs.lemmas.Option.{slice_get-get_or}
use Rattle.sat_label.proofs.Members.{In-get}
use Rattle.sat_chain.specs.Chained.{ways_on}
use Rattle.sat_chain.proofs.Sums.{at-place, at-end, leaves, one-more}
use Rattle.sat_chain.proofs.tail.applied_by_links.Goals as goal

pub returns-then-left-eq0 : goal.returns-then-left-eq0
returns-then-left-eq0 c = record {
  tells = λ n le e. at-place (ways_on c.args.interest.now c.args.tree.now c.args.z) c.args.list.now c.requires.each c.loop-place.left c.args.put c.loop-place.place n c.loop-place.invariant c.if-left-eq0.true (omega (arith, c.loop-place-test.true)) le e;
}

pub ways-left-requires-clause-label : goal.ways-left-requires-clause-label
ways-left-requires-clause-label c = c.requires.labels _ (In-get c.args.list.now c.loop-place.place _ (slice_get-get_or c.args.list.now c.loop-place.place _ c.loop-place-test.true))

pub overflow_sub-left : goal.overflow_sub-left
overflow_sub-left c = leaves (ways_on c.args.interest.now c.args.tree.now c.args.z) c.args.list.now c.requires.each c.loop-place.left c.args.put c.loop-place.place c.requires.some.0 c.ways-left.result _
    c.ways-left.ensures c.loop-place.invariant c.if-left-eq0.false c.loop-place-test.true c.requires.some.1 c.requires.some.2

pub loop-place-preserved : goal.loop-place-preserved
loop-place-preserved c = one-more (ways_on c.args.interest.now c.args.tree.now c.args.z) c.args.list.now c.requires.each c.loop-place.left c.args.put c.loop-place.place c.ways-left.result _
    c.ways-left.ensures c.loop-place.invariant c.loop-place-test.true
    (leaves (ways_on c.args.interest.now c.args.tree.now c.args.z) c.args.list.now c.requires.each c.loop-place.left c.args.put c.loop-place.place c.requires.some.0 c.ways-left.result _
    c.ways-left.ensures c.loop-place.invariant c.if-left-eq0.false c.loop-place-test.true c.requires.some.1 c.requires.some.2)

pub returns : goal.returns
returns c = record {
  tells = λ n le e. at-end (ways_on c.args.interest.now c.args.tree.now c.args.z) c.args.list.now c.requires.each c.loop-place.left c.args.put (length c.args.list.now) n (ended c) refl le e;
}
  where
    ended : (c : goal.After-loop-place) → c.loop-place.left + sum_by (ways_on c.args.interest.now c.args.tree.now c.args.z) (take (length c.args.list.now) c.args.list.now) ≡ c.args.put
    ended c = subst (λ (i : ℕ). c.loop-place.left + sum_by (ways_on c.args.interest.now c.args.tree.now c.args.z) (take i c.args.list.now) ≡ c.args.put) (omega (arith, c.loop-place-test.false, c.loop-place.auto.place-end)) c.loop-place.invariant
