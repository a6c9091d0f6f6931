use Rattle.std.proofs.Common.{rules, ◌≡◌, Some, true, sym, ◌∙◌}
use Rattle.sat_epoch.specs.Epochs.{in_stamp}
use Rattle.sat_proxy.specs.Steps.{stamp_label}
use Rattle.sat_proxy.proofs.Stamps.{stamp-done, stamp-there}
use Rattle.sat_proxy.proofs.proxy.Proxy.give_next.Goals as goal

pub invariant_of-self : goal.invariant_of-self
invariant_of-self c =
    let next : Some c.in-Some.label ≡ stamp_label c.args.views.now c.args.self.now = search rules in
    absurd (stamp-there c.args.views.now _ c.args.self.now c.in-Some.label c.self.invariant.1.pool c.self.view_is next (sym c.in_default-take.is ∙ c.take.ensures.found))

pub returns-in_default-take-clause-fault : goal.returns-in_default-take-clause-fault
returns-in_default-take-clause-fault c =
    let next : Some c.in-Some.label ≡ stamp_label c.args.views.now c.args.self.now = search rules in
    absurd (stamp-there c.args.views.now _ c.args.self.now c.in-Some.label c.self.invariant.1.pool c.self.view_is next (sym c.in_default-take.is ∙ c.take.ensures.found))

pub returns-in_default-take-clause-err : goal.returns-in_default-take-clause-err
returns-in_default-take-clause-err c =
    let next : Some c.in-Some.label ≡ stamp_label c.args.views.now c.args.self.now = search rules in
    absurd (stamp-there c.args.views.now _ c.args.self.now c.in-Some.label c.self.invariant.1.pool c.self.view_is next (sym c.in_default-take.is ∙ c.take.ensures.found))

pub returns-clause-new : goal.returns-clause-new
returns-clause-new c =
    let stamp : in_stamp c.args.views.now ≡ true = c.requires.stamp in
    let next : Some c.in-Some.label ≡ stamp_label c.args.views.now c.args.self.now = search rules in
    stamp-done c.args.views.now _ c.args.self.now c.in-Some.label c.in-Some-take.payload c.take.new.self c.self.view_is stamp next c.in-Some-take.ensures.found c.take.ensures.new
