use Rattle.std.proofs.Common.{Ok, refl, subst, sym, ap, ◌∙◌}
use Rattle.sat_site.specs.Inputs.{IsFront}
use Rattle.sat_site.specs.Seen.{SiteSeen}
use Rattle.sat_site.proofs.Hubs.{fault-after, made-site, turn-after, turn-guest, turn-told}
use Rattle.sat_site.proofs.site.Site.turn.Goals as goal

pub turn-turned-requires : goal.turn-turned-requires
turn-turned-requires c = λ l e. subst (λ (x : SiteSeen). IsFront x l) (sym c.self.view_is) (c.requires l e)

pub show_guest-requires : goal.show_guest-requires
show_guest-requires c = turn-guest c.self.inside.hub _ c.args.front c.turn-turned.result c.in-Ok-Show.field-0 c.in-Ok-Show.payload c.turn-turned.ensures.guest c.turn-turned.ensures.after c.in-Ok-Show.is c.in-Ok-Show.field-0-is

pub invariant_of-self : goal.invariant_of-self
invariant_of-self c = made-site _ _ _ _ c.self.invariant c.limits_of.ensures c.turn-turned.ensures.after refl refl

pub invariant_of-self-in-Ok-Took : goal.invariant_of-self-in-Ok-Took
invariant_of-self-in-Ok-Took c = made-site _ _ _ _ c.self.invariant c.limits_of.ensures c.turn-turned.ensures.after refl refl

pub returns-in-Ok-Show-clause-answer : goal.returns-in-Ok-Show-clause-answer
returns-in-Ok-Show-clause-answer c = turn-told _ _ _ c.args.front c.turn-turned.result _ _ c.self.view_is c.turn-turned.ensures.answer (c.in-Ok-Show.is ∙ ap Ok c.in-Ok-Show.field-0-is) c.show_guest.ensures.answer

pub returns-in-Ok-Show-clause-after : goal.returns-in-Ok-Show-clause-after
returns-in-Ok-Show-clause-after c = turn-after _ _ _ _ _ c.args.front c.turn-turned.result _ c.self.view_is c.turn-turned.ensures.after c.turn-turned.ensures.shows (c.in-Ok-Show.is ∙ ap Ok c.in-Ok-Show.field-0-is) c.show_guest.ensures.after

pub returns-in-Ok-Took-clause-answer : goal.returns-in-Ok-Took-clause-answer
returns-in-Ok-Took-clause-answer c = turn-told _ _ _ c.args.front c.turn-turned.result _ _ c.self.view_is c.turn-turned.ensures.answer (c.in-Ok-Took.is ∙ ap Ok c.in-Ok-Took.field-0-is) refl

pub returns-in-Ok-Took-clause-after : goal.returns-in-Ok-Took-clause-after
returns-in-Ok-Took-clause-after c = turn-after _ _ _ _ _ c.args.front c.turn-turned.result _ c.self.view_is c.turn-turned.ensures.after c.turn-turned.ensures.shows (c.in-Ok-Took.is ∙ ap Ok c.in-Ok-Took.field-0-is) refl

pub returns-in-Err-StampOrder-clause-after : goal.returns-in-Err-StampOrder-clause-after
returns-in-Err-StampOrder-clause-after c = fault-after c.self.inside.hub c.turn-turned.new.self _ _ c.args.front c.turn-turned.result c.in-Err-StampOrder.field-0 c.self.view_is c.turn-turned.ensures.after c.turn-turned.ensures.shows c.in-Err-StampOrder.is

pub returns-in-Err-Empty-clause-after : goal.returns-in-Err-Empty-clause-after
returns-in-Err-Empty-clause-after c = fault-after c.self.inside.hub c.turn-turned.new.self _ _ c.args.front c.turn-turned.result c.in-Err-Empty.field-0 c.self.view_is c.turn-turned.ensures.after c.turn-turned.ensures.shows c.in-Err-Empty.is

pub returns-in-Err-NoPayload-clause-after : goal.returns-in-Err-NoPayload-clause-after
returns-in-Err-NoPayload-clause-after c = fault-after c.self.inside.hub c.turn-turned.new.self _ _ c.args.front c.turn-turned.result c.in-Err-NoPayload.field-0 c.self.view_is c.turn-turned.ensures.after c.turn-turned.ensures.shows c.in-Err-NoPayload.is
