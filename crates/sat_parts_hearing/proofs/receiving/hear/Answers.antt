use Rattle.std.proofs.Common.{[], ◌∷◌, ◌++◌, refl}
use Rattle.sat_node.proofs.Sending.{if_false, if_true}
use Rattle.sat_parts_hearing.proofs.Hearing.{dealt_none, dealt_then, heard_same, heard_then, link_ended}
use Rattle.sat_parts_hearing.proofs.receiving.hear.Goals as goal

pub hearing-init : goal.hearing-init
hearing-init g c = (heard_same _ _ refl, ([], dealt_none g.N.Laid.deployment c.args.source c.args.link c.args.held.now))

pub hearing-preserved : goal.hearing-preserved
hearing-preserved g c =
    let before = c.hearing.invariant in
    let h = if_true _ _ c.in-Ok-true.field-0 c.in-Ok-true.field-0-test c.in-Ok-true.ensures.dealt in (
      heard_then _ _ _ before.0 c.hear_front.ensures.heard,
      (before.1.0 ++ h.0 ∷ [], dealt_then g.N.Laid.deployment c.args.source c.args.link before.1.0 (h.0 ∷ []) _ _ _ before.1.1 h.1),
    )

pub returns-in-Ok-false-clause-all : goal.returns-in-Ok-false-clause-all
returns-in-Ok-false-clause-all g c =
    let before = c.hearing.invariant in
    link_ended g.N.Laid.deployment c.args.source c.args.link before.1.0 _ _ _ c.requires.link before.1.1
    (if_false _ _ c.in-Ok-false.field-0 c.in-Ok-false.field-0-test c.in-Ok-false.ensures.dealt)

pub returns-in-Err-clause-heard : goal.returns-in-Err-clause-heard
returns-in-Err-clause-heard g c = heard_then _ _ _ c.hearing.invariant.0 c.hear_front.ensures.heard
