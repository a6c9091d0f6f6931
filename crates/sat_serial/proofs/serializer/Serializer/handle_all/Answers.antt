use Rattle.std.proofs.Common.{◌∙◌, ap, take, drop, List, sym}
use Rattle.sat_label.specs.declared.label.Label.{Label}
use Rattle.sat_serial.proofs.Lent.{front-next, drop-next, handles-next, next-arrives}
use Rattle.sat_serial.proofs.serializer.Serializer.handle_all.Goals as goal

pub hand_copies-requires : goal.hand_copies-requires
hand_copies-requires c =
    next-arrives c.args.self.now c.loop.self c.args.interest.now c.args.from (take c.loop.counter c.args.labels.now.members) c.args.labels.now.members c.loop.counter c.in-Some.label c.requires.arrives c.loop.invariant.after
    (front-next c.args.labels.now.members c.loop.labels.members c.loop.counter c.in-Some.label c.loop.invariant.left (sym c.front.ensures ∙ c.in-Some.is))

pub loop-preserved : goal.loop-preserved
loop-preserved c = record {
  after =
      handles-next c.args.self.now c.loop.self c.hand_copies.new.self c.args.interest.now c.args.from c.args.labels.now.members c.loop.counter c.in-Some.label c.loop.invariant.after
      (front-next c.args.labels.now.members c.loop.labels.members c.loop.counter c.in-Some.label c.loop.invariant.left (sym c.front.ensures ∙ c.in-Some.is))
      c.in_default-hand_copies.ensures.ok;
  left = c.take.ensures.rest ∙ (ap (λ (ls : List Label). drop 1 ls) c.loop.invariant.left ∙ drop-next c.args.labels.now.members c.loop.counter);
}
