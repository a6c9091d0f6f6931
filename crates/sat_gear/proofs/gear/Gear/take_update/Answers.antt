use Rattle.std.proofs.Common.{◌∙◌, ◌++◌, ◌∷◌, [], List, ap, refl, sym}
use Rattle.sat_label.specs.Words.{bit}
use Rattle.sat_label.specs.declared.label.Label.{Label}
use Rattle.sat_bulk.specs.Payloads.{Payload}
use Rattle.sat_gear.specs.Gear.{after_write, payload_with}
use Rattle.sat_gear.specs.Lanes.{lanes_where}
use Rattle.sat_gear.proofs.Gears.{kept-by, kept-lanes, written-by}
use Rattle.sat_gear.proofs.gear.Gear.take_update.Goals as goal

pub invariant_of-self : goal.invariant_of-self
invariant_of-self c = kept-by _ c.reserve.new.self.items c.self.invariant c.reserve.ensures.items

pub invariant_of-self-in_err-add : goal.invariant_of-self-in_err-add
invariant_of-self-in_err-add c = kept-lanes _ c.reserve.new.self.items c.add.new.self c.self.invariant c.reserve.ensures.items c.in_err-add.ensures.err

pub invariant_of-self-2 : goal.invariant_of-self-2
invariant_of-self-2 c =
    (written-by _ c.args.self.now c.args.items (payload_with c.args.label c.args.values.now) (bit c.targets-targets.result.bits) c.push_reserved.new.self.items c.add.new.self
    c.self.view_is c.self.invariant
    (record { next = c.requires.next; kind = c.requires.kind; here = c.requires.items; values = (c.args.values.now, refl, c.requires.values) })
    c.targets-targets.ensures.targets
    (c.push_reserved.ensures.items ∙ ap (λ (ls : List Label). ls ++ c.args.label ∷ []) c.reserve.ensures.items)
    (c.in_ok-add.ensures.ok ∙ ap (λ (p : Payload). lanes_where (bit c.targets-targets.result.bits) p 0 c.self.inside.lanes) c.in_ok-payload.ensures)).gear

pub returns-clause-new : goal.returns-clause-new
returns-clause-new c =
    (written-by _ c.args.self.now c.args.items (payload_with c.args.label c.args.values.now) (bit c.targets-targets.result.bits) c.push_reserved.new.self.items c.add.new.self
    c.self.view_is c.self.invariant
    (record { next = c.requires.next; kind = c.requires.kind; here = c.requires.items; values = (c.args.values.now, refl, c.requires.values) })
    c.targets-targets.ensures.targets
    (c.push_reserved.ensures.items ∙ ap (λ (ls : List Label). ls ++ c.args.label ∷ []) c.reserve.ensures.items)
    (c.in_ok-add.ensures.ok ∙ ap (λ (p : Payload). lanes_where (bit c.targets-targets.result.bits) p 0 c.self.inside.lanes) c.in_ok-payload.ensures)).is
    ∙ ap (λ (p : Payload). after_write c.args.self.now p) (sym c.in_ok-payload.ensures)
