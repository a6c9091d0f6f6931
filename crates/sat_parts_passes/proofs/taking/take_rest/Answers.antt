use Rattle.std.proofs.Common.{◌≡◌, ◌+◌, ◌<◌, ◌≤◌, ◌++◌, ℕ, length, ap, arith, refl, sym, ◌∙◌, subst}
use Rattle.std.specs.Option.{option_to_list}
use Rattle.std.proofs.lemmas.List.{length-map}
use Rattle.std.proofs.lemmas.Option.{slice_get_within}
use Rattle.std.specs.Sync.Mutex.{mutex_guard_value}
use Rattle.sat_node.specs.Together.{lent}
use Rattle.sat_node.proofs.Members.{From, from_all, from_at, from_none}
use Rattle.sat_node.proofs.Lent.{first_here, first_less, one_longer}
use Rattle.sat_parts_passes.specs.Partly.{SureIf}
use Rattle.sat_parts_passes.proofs.Parting.{IsPart, partly_at, partly_more}
use Rattle.sat_parts_passes.proofs.taking.take_rest.Goals as goal

pub loop-part-init : goal.loop-part-init
loop-part-init g c = (
  (λ j x at. at),
  from_none (IsPart g.M.Machine.meaning (c.args.last + 1) c.args.parts.items) (length c.args.parts.items) (lent c.args.nodes.now.items) (sym c.requires.parts.0),
)

pub take_at-requires-clause-inside : goal.take_at-requires-clause-inside
take_at-requires-clause-inside g c =
    let is = c.pop.ensures.items ∙ ap (λ o. c.pop.new.self.items ++ option_to_list o) c.in-Some.is in
    let here = first_here c.pop.new.self.items c.loop-part.parts.items c.args.parts.items c.in-Some.part c.len-k.result (omega arith) is c.loop-part.invariant.0 in
    let less = slice_get_within c.args.parts.items c.len-k.result c.in-Some.part here in
    let same = c.loop-part.invariant.1.0 in
    let size = c.requires.parts.0 in
    let a = length-map c.loop-part.nodes.items mutex_guard_value in
    omega arith

pub take_at-requires-clause-room : goal.take_at-requires-clause-room
take_at-requires-clause-room g c =
    let next = one_longer c.pop.new.self.items c.loop-part.parts.items c.in-Some.part (c.pop.ensures.items ∙ ap (λ o. c.pop.new.self.items ++ option_to_list o) c.in-Some.is) in
    from_at (IsPart g.M.Machine.meaning (c.args.last + 1) c.args.parts.items) (λ _ h. 0 < h.node.room) c.len-k.result (length c.loop-part.parts.items) (lent c.args.nodes.now.items) (lent c.loop-part.nodes.items) (omega arith)
    c.loop-part.invariant.1 c.requires.room

pub take_at-requires-clause-number : goal.take_at-requires-clause-number
take_at-requires-clause-number g c =
    let next = one_longer c.pop.new.self.items c.loop-part.parts.items c.in-Some.part (c.pop.ensures.items ∙ ap (λ o. c.pop.new.self.items ++ option_to_list o) c.in-Some.is) in
    from_at (IsPart g.M.Machine.meaning (c.args.last + 1) c.args.parts.items) (λ _ h. h.node.number ≤ c.args.last) c.len-k.result (length c.loop-part.parts.items) (lent c.args.nodes.now.items) (lent c.loop-part.nodes.items) (omega arith)
    c.loop-part.invariant.1 c.requires.number

pub take_at-requires-clause-part : goal.take_at-requires-clause-part
take_at-requires-clause-part g c =
    let is = c.pop.ensures.items ∙ ap (λ o. c.pop.new.self.items ++ option_to_list o) c.in-Some.is in
    let next = one_longer c.pop.new.self.items c.loop-part.parts.items c.in-Some.part is in
    let here = first_here c.pop.new.self.items c.loop-part.parts.items c.args.parts.items c.in-Some.part c.len-k.result (omega arith) is c.loop-part.invariant.0 in
    λ i x at same.
    from_at (IsPart g.M.Machine.meaning (c.args.last + 1) c.args.parts.items) (λ j h. j ≡ c.len-k.result → SureIf g.M.Machine.meaning g.M.Machine.takes_in g.M.Machine.may_fail h c.in-Some.part) c.len-k.result (length c.loop-part.parts.items)
    (lent c.args.nodes.now.items) (lent c.loop-part.nodes.items) (omega arith) c.loop-part.invariant.1
    (partly_at g.M.Machine.meaning g.M.Machine.takes_in g.M.Machine.may_fail c.len-k.result c.args.parts.items c.in-Some.part (lent c.args.nodes.now.items) here c.requires.parts)
    i x at same refl

pub loop-part-preserved : goal.loop-part-preserved
loop-part-preserved g c =
    let is = c.pop.ensures.items ∙ ap (λ o. c.pop.new.self.items ++ option_to_list o) c.in-Some.is in
    let next = one_longer c.pop.new.self.items c.loop-part.parts.items c.in-Some.part is in
    let here = first_here c.pop.new.self.items c.loop-part.parts.items c.args.parts.items c.in-Some.part c.len-k.result (omega arith) is c.loop-part.invariant.0 in
    let size : c.len-k.result ≡ length c.pop.new.self.items = omega arith in (
      first_less c.pop.new.self.items c.loop-part.parts.items c.args.parts.items c.in-Some.part is c.loop-part.invariant.0,
      subst (λ (n : ℕ). From n (IsPart g.M.Machine.meaning (c.args.last + 1) c.args.parts.items) (lent c.args.nodes.now.items) (lent c.take_at.new.nodes.items)) size
          (partly_more g.M.Machine.meaning (c.args.last + 1) c.len-k.result (length c.loop-part.parts.items) c.args.parts.items c.in-Some.part (lent c.args.nodes.now.items) (lent c.loop-part.nodes.items) (lent c.take_at.new.nodes.items)
          (omega arith) here c.loop-part.invariant.1 c.take_at.ensures),
    )

pub returns : goal.returns
returns g c =
    let none = c.in_default.ensures.cases.0 in
    from_all (IsPart g.M.Machine.meaning (c.args.last + 1) c.args.parts.items) (length c.loop-part.parts.items) (lent c.args.nodes.now.items) (lent c.loop-part.nodes.items) (omega arith) c.loop-part.invariant.1
