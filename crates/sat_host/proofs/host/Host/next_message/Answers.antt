use Rattle.std.proofs.Common.{◌≡◌, ℕ, map, get_or, IfOk, OnErr, ap, ◌∙◌, subst}
use Rattle.sat_message.specs.Numbering.{Gives, put_before}
use Rattle.sat_host.specs.Cursors.{next_of, place_of}
use Rattle.sat_host.proofs.Cursors.{at_grown, gives_sent, slipped_cursors}
use Rattle.sat_host.proofs.host.Host.next_message.Goals as goal

pub give-requires-clause-at : goal.give-requires-clause-at
give-requires-clause-at g c =
    let inside = c.self.inside in
    at_grown g.M.Machine.meaning inside.node.name inside.node.entries inside.cursors.items c.make_cursors.new.cursors.items c.make_cursors.ensures.more c.self.invariant.1

pub invariant_of-self : goal.invariant_of-self
invariant_of-self g c =
    let m = g.M.Machine.meaning in
    let inside = c.self.inside in (
      slipped_cursors m (record { node = inside.node; slips = inside.slips.items; wanted = inside.wanted.items; cursors = map next_of inside.cursors.items }) (map next_of c.make_cursors.new.cursors.items) c.self.invariant.0,
      at_grown m inside.node.name inside.node.entries inside.cursors.items c.make_cursors.new.cursors.items c.make_cursors.ensures.more c.self.invariant.1,
    )

pub invariant_of-self-2 : goal.invariant_of-self-2
invariant_of-self-2 g c =
    let m = g.M.Machine.meaning in
    let inside = c.self.inside in (
      slipped_cursors m (record { node = inside.node; slips = inside.slips.items; wanted = inside.wanted.items; cursors = map next_of inside.cursors.items }) (map next_of c.give.new.cursors.items) c.self.invariant.0,
      c.give.ensures.at,
    )

pub returns-clause-gives : goal.returns-clause-gives
returns-clause-gives g c =
    let inside = c.self.inside in
    let link = c.args.link in
    let of = g.M.Machine.meaning.puts in
    let old = c.args.self.now in
    let new = place_of c.give.new.cursors.items link in
    let was = c.make_cursors.ensures.same link ∙ ap (λ h. get_or h.cursors link 0) c.self.view_is in
    subst (λ n. IfOk c.give.result (Gives (of n.name link) n.entries (get_or old.cursors link 0) new)) (ap (λ h. h.node) c.self.view_is)
    (subst (λ (a : ℕ). IfOk c.give.result (Gives (of inside.node.name link) inside.node.entries a new)) was c.give.ensures.gives)

pub returns-clause-sent : goal.returns-clause-sent
returns-clause-sent g c =
    let link = c.args.link in
    let old = c.args.self.now in
    gives_sent (g.M.Machine.meaning.puts old.node.name link) old.node.entries c.give.result (get_or old.cursors link 0) (place_of c.give.new.cursors.items link) (returns-clause-gives g c)

pub returns-clause-others : goal.returns-clause-others
returns-clause-others g c = λ k e. c.give.ensures.others k e ∙ (c.make_cursors.ensures.same k ∙ ap (λ h. get_or h.cursors k 0) c.self.view_is)

pub returns-clause-err : goal.returns-clause-err
returns-clause-err g c =
    let inside = c.self.inside in
    let link = c.args.link in
    let of = g.M.Machine.meaning.puts in
    let old = c.args.self.now in
    let new = place_of c.give.new.cursors.items link in
    let was = c.make_cursors.ensures.same link ∙ ap (λ h. get_or h.cursors link 0) c.self.view_is in
    subst (λ n. OnErr c.give.result (put_before (of n.name link) n.entries new ≡ put_before (of n.name link) n.entries (get_or old.cursors link 0))) (ap (λ h. h.node) c.self.view_is)
    (subst (λ (a : ℕ). OnErr c.give.result (put_before (of inside.node.name link) inside.node.entries new ≡ put_before (of inside.node.name link) inside.node.entries a)) was c.give.ensures.err)
