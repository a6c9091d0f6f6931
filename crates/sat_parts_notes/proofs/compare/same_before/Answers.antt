use Rattle.std.proofs.Common.{◌≡◌, ◌-◌, suc, arith, sym, ◌∙◌}
use Rattle.sat_parts_notes.proofs.Keys.{under-same}
use Rattle.sat_parts_notes.proofs.Walks.{last-in, last-all, front-before}
use Rattle.sat_parts_notes.proofs.compare.same_before.Goals as goal

pub returns-then-is_before : goal.returns-then-is_before
returns-then-is_before c =
    let up : suc (c.args.place - 1) ≡ c.args.place = omega arith in
    last-all c.args.list.now (c.args.place - 1) c.args.place c.in-Some.last.now c.args.filed.now c.requires.order c.in-Some.ensures up (sym c.is_before.ensures ∙ c.if-is_before.true)

pub returns : goal.returns
returns c =
    let up : suc (c.args.place - 1) ≡ c.args.place = omega arith in
    let there = last-in c.args.list.now (c.args.place - 1) c.args.place c.in-Some.last.now c.in-Some.ensures up in
    (there, under-same c.args.filed.now c.in-Some.last.now (front-before c.args.list.now c.args.place c.args.filed.now c.requires.order c.requires.here c.in-Some.last.now there) (sym c.is_before.ensures ∙ c.if-is_before.false))
