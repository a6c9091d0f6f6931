use Rattle.std.proofs.Common.{◌≡◌, ◌≤◌, true, false, List, [], take, drop, length, ap, sym, subst, ◌∙◌, arith}
use Rattle.std.proofs.Math.ListN.{drop_of_length-le}
use Rattle.std.specs.List.{AllByRecursion}
use Rattle.sat_act.specs.declared.act.Act.{Act}
use Rattle.sat_undone.specs.Counted.{AreCounts, IsKnown}
use Rattle.sat_undone.specs.Undone.{undone_behind, undone}
use Rattle.sat_undone.proofs.Tables.{at-act, front-next, rest-next}
use Rattle.sat_undone.proofs.lacking.undone.Goals as goal

pub returns-then-lacks : goal.returns-then-lacks
unfolding undone
returns-then-lacks c =
    let lacking = sym (c.lacks.ensures.lacks c.args.entries.now (take c.loop-place.place c.args.acts.now) c.in_ok-tallies.ensures c.loop-place.invariant.counts) ∙ c.if-lacks.true in
    sym c.loop-place.invariant.first ∙ at-act c.args.entries.now c.args.acts.now c.loop-place.place c.index-acts-place.result true c.loop-place-test.true c.index-acts-place.is lacking

pub loop-place-preserved : goal.loop-place-preserved
loop-place-preserved c =
    let lacking = sym (c.lacks.ensures.lacks c.args.entries.now (take c.loop-place.place c.args.acts.now) c.in_ok-tallies.ensures c.loop-place.invariant.counts) ∙ c.if-lacks.false in
    let known = subst (AllByRecursion (IsKnown c.from-clients.result)) (rest-next c.args.acts.now c.loop-place.place c.index-acts-place.result c.loop-place-test.true c.index-acts-place.is) c.loop-place.invariant.known in
    record {
      counts =
          subst (λ (acts : List Act). AreCounts c.from-clients.result acts c.lacks.new.counts.items)
          (sym (front-next c.args.acts.now c.loop-place.place c.index-acts-place.result c.loop-place-test.true c.index-acts-place.is))
          (c.lacks.ensures.counts (take c.loop-place.place c.args.acts.now) c.loop-place.invariant.counts);
      known = known.1;
      first = sym (at-act c.args.entries.now c.args.acts.now c.loop-place.place c.index-acts-place.result false c.loop-place-test.true c.index-acts-place.is lacking) ∙ c.loop-place.invariant.first;
    }

pub returns : goal.returns
unfolding undone
returns c =
    let over : length c.args.acts.now ≤ c.loop-place.place = omega (arith, c.loop-place.auto.place-end, c.loop-place-test.false) in
    let none : drop c.loop-place.place c.args.acts.now ≡ [] = drop_of_length-le c.args.acts.now over in
    sym c.loop-place.invariant.first ∙ ap (undone_behind c.args.entries.now (take c.loop-place.place c.args.acts.now)) none
