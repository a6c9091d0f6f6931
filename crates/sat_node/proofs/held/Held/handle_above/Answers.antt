use Rattle.std.proofs.Common.{◌≡◌, ◌≤◌, length, Some, slice_get, ap, refl, sym, ◌∙◌, subst, arith}
use Rattle.std.proofs.lemmas.Option.{slice_get_read}
use Rattle.sat_node.specs.Links.{IsOf, Cleared, front_at, number_of}
use Rattle.sat_node.proofs.Members.{replaced}
use Rattle.sat_node.proofs.Ties.{front_is, front_there, tied_failed, tied_handle, on_ok}
use Rattle.sat_node.proofs.held.Held.handle_above.Goals as goal

pub invariant_of-self : goal.invariant_of-self
invariant_of-self g c =
    let inside = c.self.inside in
    tied_failed g.M.Machine.meaning c.take-result.result c.args.heard c.args.input (g.M.Machine.may_fail inside.node.machine c.args.input)
    (record { node = inside.node; outs = inside.outs.items; ins = inside.ins.items }) (record { node = c.take-result.new.self; outs = inside.outs.items; ins = inside.ins.items })
    (sym c.if-is_err.ensures.value) c.self.invariant c.take-result.ensures.takes refl refl

pub index_mut-end-requires : goal.index_mut-end-requires
index_mut-end-requires g c =
    let less = front_there c.self.inside.ins.items c.args.link c.requires.front.0 (ap (λ h. front_at h.ins c.args.link) c.self.view_is ∙ c.requires.front.1) in
    let same = c.self.inside.ins.ok in
    omega arith

pub invariant_of-self-2 : goal.invariant_of-self-2
invariant_of-self-2 g c =
    let m = g.M.Machine.meaning in
    let inside = c.self.inside in
    let ends = inside.ins.items in
    let e = c.requires.front.0 in
    let may = g.M.Machine.may_fail inside.node.machine c.args.input in
    let front : front_at ends c.args.link ≡ Some e = ap (λ h. front_at h.ins c.args.link) c.self.view_is ∙ c.requires.front.1 in
    let was = c.index_mut-end.result.now in
    let at : slice_get ends c.args.link ≡ Some was = slice_get_read ends (length ends) c.args.link was refl (front_there ends c.args.link e front) c.index_mut-end.ensures.value in
    let is : was.front ≡ Some e = front_is ends c.args.link was e at front in
    let heard : e.lamport ≤ c.args.heard = subst (λ f. number_of f ≤ c.args.heard) c.requires.front.1 c.requires.heard in
    tied_handle m c.take-result.result c.args.heard c.args.input may
    (record { node = inside.node; outs = inside.outs.items; ins = ends }) (record { node = c.take-result.new.self; outs = inside.outs.items; ins = _ })
    c.args.link was c.clear.new.self e (sym c.if-is_err.ensures.value) heard c.self.invariant is
    (subst (λ node. IsOf m node c.args.link e.body c.args.input) (sym (ap (λ h. h.node) c.self.view_is)) c.requires.front.2)
    c.take-result.ensures.takes c.take-result.ensures.answer refl at c.clear.ensures.cleared refl

pub returns-clause-ins : goal.returns-clause-ins
returns-clause-ins g c =
    let ends = c.self.inside.ins.items in
    let e = c.requires.front.0 in
    let front : front_at ends c.args.link ≡ Some e = ap (λ h. front_at h.ins c.args.link) c.self.view_is ∙ c.requires.front.1 in
    let was = c.index_mut-end.result.now in
    let at : slice_get ends c.args.link ≡ Some was = slice_get_read ends (length ends) c.args.link was refl (front_there ends c.args.link e front) c.index_mut-end.ensures.value in
    on_ok c.take-result.result (rw (← c.self.view_is) (replaced Cleared ends c.args.link was c.clear.new.self at c.clear.ensures.cleared))
