use Rattle.std.proofs.Common.{◌<◌, ◌∙◌, [], sym, subst, ap, ℕ, length}
use Rattle.sat_label.specs.declared.node.NodeId.TheVariants.{Serializer}
use Rattle.sat_tree.specs.Shape.{TreeShape}
use Rattle.sat_tree.specs.Cut.{IsTree}
use Rattle.sat_net.specs.Nets.{NetSeen, HopsOut, is_dead}
use Rattle.sat_net.proofs.Edges.{edge-within}
use Rattle.sat_net.proofs.Lent.{tree-link, dead-link}
use Rattle.sat_net.proofs.Handed.{hops-made, hops-ended, hops-dead, all-arrive}
use Rattle.sat_net.proofs.net.Net.hop_all.Goals as goal

pub is_dead-requires : goal.is_dead-requires
is_dead-requires c = edge-within _ _ _ (subst (λ (n : NetSeen). IsTree n.tree) c.self.view_is c.self.invariant.tree) c.requires.edge

pub returns-then-is_dead-clause-ok : goal.returns-then-is_dead-clause-ok
returns-then-is_dead-clause-ok c = hops-dead _ _ _ _ (sym c.is_dead.ensures.dead ∙ c.if-is_dead.true)

pub lend-labels-requires-clause-to : goal.lend-labels-requires-clause-to
lend-labels-requires-clause-to c = edge-within _ _ _ c.is_dead.ensures.limits.tree c.requires.edge

pub hand_all-done-requires-clause-within : goal.hand_all-done-requires-clause-within
hand_all-done-requires-clause-within c =
    subst (λ (t : TreeShape). c.args.to < length t.parents) (sym (ap (λ (n : NetSeen). n.tree) c.lend-labels.ensures.rest ∙ tree-link c.args.self.now c.args.from (Serializer c.args.to) []))
    (edge-within _ _ _ c.is_dead.ensures.limits.tree c.requires.edge)

pub hand_all-done-requires-clause-arrives : goal.hand_all-done-requires-clause-arrives
hand_all-done-requires-clause-arrives c =
    all-arrive c.args.self.now c.lend-labels.new.self c.args.interest.now c.args.from c.args.to c.lend-labels.result.members c.requires (sym c.is_dead.ensures.dead ∙ c.if-is_dead.false) c.lend-labels.ensures.labels c.lend-labels.ensures.rest

pub hand_all-done-requires-clause-alive : goal.hand_all-done-requires-clause-alive
hand_all-done-requires-clause-alive c =
    ap (λ (n : NetSeen). is_dead n c.args.to) c.lend-labels.ensures.rest ∙ (dead-link c.args.self.now c.args.from (Serializer c.args.to) [] c.args.to ∙ (sym c.is_dead.ensures.dead ∙ c.if-is_dead.false))

pub restore-requires-clause-to : goal.restore-requires-clause-to
restore-requires-clause-to c =
    subst (λ (t : TreeShape). c.args.to < length t.parents) (sym (c.hand_all-done.ensures.tree ∙ (ap (λ (n : NetSeen). n.tree) c.lend-labels.ensures.rest ∙ tree-link c.args.self.now c.args.from (Serializer c.args.to) [])))
    (edge-within _ _ _ c.is_dead.ensures.limits.tree c.requires.edge)

pub returns-in-Err-clause-err : goal.returns-in-Err-clause-err
returns-in-Err-clause-err c = (
  c.in-Err.ensures.err.0,
  hops-made c.args.self.now c.lend-labels.new.self c.hand_all-done.new.self c.restore.new.self c.args.interest.now c.args.from c.args.to c.lend-labels.result.members c.hand_all-done.new.labels.members c.in-Err.ensures.err.0
      c.is_dead.ensures.limits c.requires (sym c.is_dead.ensures.dead ∙ c.if-is_dead.false) c.lend-labels.ensures.labels c.lend-labels.ensures.rest c.in-Err.ensures.err.1 c.restore.ensures,
)

pub returns-clause-ok : goal.returns-clause-ok
returns-clause-ok c =
    subst (λ (k : ℕ). HopsOut c.args.interest.now c.args.from c.args.to c.args.self.now k c.restore.new.self) (sym c.len-count.ensures)
    (hops-ended c.args.self.now c.lend-labels.new.self c.hand_all-done.new.self c.restore.new.self c.args.interest.now c.args.from c.args.to c.lend-labels.result.members c.hand_all-done.new.labels.members
    c.is_dead.ensures.limits c.requires (sym c.is_dead.ensures.dead ∙ c.if-is_dead.false) c.lend-labels.ensures.labels c.lend-labels.ensures.rest c.in_default.ensures.ok c.restore.ensures)
