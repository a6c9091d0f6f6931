use Rattle.std.proofs.Common.{◌∙◌, List, [], length, ap, arith, refl, subst, sym}
use Rattle.sat_act.specs.declared.entry.Entry.{Entry}
use Rattle.sat_draw.specs.declared.moved.Moved.{Moved}
use Rattle.sat_top.proofs.Counting.{rest-more}
use Rattle.sat_top.proofs.Entering.{enter-next, enters-none}
use Rattle.sat_top.proofs.drawing.enter_acts.Goals as goal
use Rattle.sat_top.specs.UnderWay.{IsEntering}

pub loop-place-init : goal.loop-place-init
loop-place-init c = record {
  deployment = refl;
  entering =
      subst (λ (moved : List Moved). IsEntering c.args.world.now.deployment c.args.world.now c.new-entries.result.items moved []) (sym c.requires.none)
      (subst (λ (entries : List Entry). IsEntering c.args.world.now.deployment c.args.world.now entries [] []) (sym c.new-entries.ensures.items)
      (enters-none c.args.world.now.deployment c.args.world.now c.requires.fresh));
  size = ap length c.new-entries.ensures.items;
  rest = c.requires.acts;
}

pub loop-place-preserved : goal.loop-place-preserved
loop-place-preserved c = record {
  deployment = c.enter_act.ensures.deployment ∙ c.loop-place.invariant.deployment;
  entering =
      enter-next c.loop-place.world c.enter_act.new.world c.args.world.now.deployment c.args.acts.now c.loop-place.place _ c.loop-place.entries.items c.enter_act.new.entries.items c.loop-place.moved.items c.enter_act.new.moved.items
      c.index-acts-place.result (omega arith) refl c.index-acts-place.is c.loop-place.invariant.deployment c.loop-place.invariant.entering c.in_ok-enter_act.ensures.entering;
  size = omega (arith, c.loop-place.invariant.size, c.in_ok-enter_act.ensures.one);
  rest = rest-more c.args.world.now.deployment c.args.acts.now c.loop-place.place c.index-acts-place.result (omega arith) c.loop-place.invariant.rest;
}
