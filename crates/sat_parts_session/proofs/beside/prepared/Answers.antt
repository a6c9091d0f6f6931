use Rattle.std.proofs.Common.{length}
use Rattle.sat_node.specs.Together.{lent}
use Rattle.sat_parts_session.proofs.Together.{all_shown, lent_length, sure_parts}
use Rattle.sat_parts_session.proofs.beside.prepared.Goals as goal

pub returns-clause-sure : goal.returns-clause-sure
returns-clause-sure g c =
    sure_parts g.N.Laid.deployment (lent c.args.others.now) c.args.shown.now c.in_ok-parts.parts.items (length c.args.others.now) c.requires.shown.0 c.requires.shown.1 c.requires.shown.2 c.requires.shown.3 (lent_length c.args.others.now) (c.all_take.ensures c.if-not-all_take.false) c.in_ok-parts.ensures

pub returns-clause-same : goal.returns-clause-same
returns-clause-same g c = all_shown c.args.shown.now c.in_ok-parts.parts.items (length c.args.others.now) c.in_ok-parts.ensures
