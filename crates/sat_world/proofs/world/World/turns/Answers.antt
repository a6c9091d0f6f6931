use Rattle.std.proofs.Common.{◌<◌, ◌-◌, ◌≤◌, ◌^◌, List, Option, length, ap, arith, subst, sym}
use Rattle.sat_net.specs.Nets.{NetSeen}
use Rattle.sat_site.specs.declared.output.SiteView.{SiteView}
use Rattle.sat_world.proofs.Deeds.{view-placed, net-seat}
use Rattle.sat_world.proofs.Hands.{site-at}
use Rattle.sat_world.proofs.Turning.{did-no-turn, did-turns, fronts-fit, lent-seat, lent-there, lent-within, none-at}
use Rattle.sat_world.proofs.world.World.turns.Goals as goal

pub is_there-requires : goal.is_there-requires
is_there-requires c =
    subst (λ (ns : List (Option NetSeen)). c.view.result.view - 1 < length ns) (sym c.deref.ensures.value)
    (view-placed _ _ _ _ c.self.invariant (site-at _ _ _ _ c.self.view_is c.self.invariant c.requires c.index-known.ensures) c.view.ensures.sound (ap (λ (v : SiteView). v.view) c.view.ensures.seen)).within

pub returns-then-not-is_there-clause-spends : goal.returns-then-not-is_there-clause-spends
returns-then-not-is_there-clause-spends c =
    did-no-turn _ _ _ _ _ c.self.view_is c.self.invariant c.requires (site-at _ _ _ _ c.self.view_is c.self.invariant c.requires c.index-known.ensures) c.view.ensures.sound (ap (λ (v : SiteView). v.view) c.view.ensures.seen) (view-placed _ _ _ _ c.self.invariant (site-at _ _ _ _ c.self.view_is c.self.invariant c.requires c.index-known.ensures) c.view.ensures.sound (ap (λ (v : SiteView). v.view) c.view.ensures.seen)).above
    (none-at _ _ _ _ c.deref.ensures.value (view-placed _ _ _ _ c.self.invariant (site-at _ _ _ _ c.self.view_is c.self.invariant c.requires c.index-known.ensures) c.view.ensures.sound (ap (λ (v : SiteView). v.view) c.view.ensures.seen)).within c.is_there.ensures c.if-not-is_there.true)

pub lend_at-labels-requires-clause-within : goal.lend_at-labels-requires-clause-within
lend_at-labels-requires-clause-within c = (view-placed _ _ _ _ c.self.invariant (site-at _ _ _ _ c.self.view_is c.self.invariant c.requires c.index-known.ensures) c.view.ensures.sound (ap (λ (v : SiteView). v.view) c.view.ensures.seen)).within

pub lend_at-labels-requires-clause-seat : goal.lend_at-labels-requires-clause-seat
lend_at-labels-requires-clause-seat c = λ n at. net-seat _ _ _ _ n c.self.view_is c.self.invariant c.requires at

pub turn_all_at-done-requires-clause-fronts : goal.turn_all_at-done-requires-clause-fronts
turn_all_at-done-requires-clause-fronts c =
    fronts-fit _ _ _ _ _ _ _ c.self.view_is c.self.invariant c.requires c.view.ensures.sound (ap (λ (v : SiteView). v.view) c.view.ensures.seen) (view-placed _ _ _ _ c.self.invariant (site-at _ _ _ _ c.self.view_is c.self.invariant c.requires c.index-known.ensures) c.view.ensures.sound (ap (λ (v : SiteView). v.view) c.view.ensures.seen)).above (site-at _ _ _ _ c.self.view_is c.self.invariant c.requires c.index-known.ensures) c.lend_at-labels.ensures

pub restore_at-requires-clause-within : goal.restore_at-requires-clause-within
restore_at-requires-clause-within c = lent-within _ _ _ _ _ c.lend_at-labels.ensures

pub restore_at-requires-clause-there : goal.restore_at-requires-clause-there
restore_at-requires-clause-there c = lent-there _ _ _ _ _ c.lend_at-labels.ensures

pub restore_at-requires-clause-seat : goal.restore_at-requires-clause-seat
restore_at-requires-clause-seat c = lent-seat _ _ _ _ _ _ c.self.view_is c.self.invariant c.requires c.lend_at-labels.ensures

pub invariant_of-self : goal.invariant_of-self
invariant_of-self c =
    let small : c.self.inside.shown ≤ 2 ^ 64 - 1 = omega arith in
    (did-turns _ _ _ _ _ _ _ _ _ _ _ _ _ c.self.view_is c.self.invariant c.requires (site-at _ _ _ _ c.self.view_is c.self.invariant c.requires c.index-known.ensures) (ap (λ (v : SiteView). v.view) c.view.ensures.seen) (view-placed _ _ _ _ c.self.invariant (site-at _ _ _ _ c.self.view_is c.self.invariant c.requires c.index-known.ensures) c.view.ensures.sound (ap (λ (v : SiteView). v.view) c.view.ensures.seen)).above small
    c.lend_at-labels.ensures c.turn_all_at-done.ensures.turns c.turn_all_at-done.ensures.left c.restore_at.ensures c.saturating_add-self-inside.ensures).world

pub returns-clause-spends : goal.returns-clause-spends
returns-clause-spends c =
    let small : c.self.inside.shown ≤ 2 ^ 64 - 1 = omega arith in
    (did-turns _ _ _ _ _ _ _ _ _ _ _ _ _ c.self.view_is c.self.invariant c.requires (site-at _ _ _ _ c.self.view_is c.self.invariant c.requires c.index-known.ensures) (ap (λ (v : SiteView). v.view) c.view.ensures.seen) (view-placed _ _ _ _ c.self.invariant (site-at _ _ _ _ c.self.view_is c.self.invariant c.requires c.index-known.ensures) c.view.ensures.sound (ap (λ (v : SiteView). v.view) c.view.ensures.seen)).above small
    c.lend_at-labels.ensures c.turn_all_at-done.ensures.turns c.turn_all_at-done.ensures.left c.restore_at.ensures c.saturating_add-self-inside.ensures).spends
