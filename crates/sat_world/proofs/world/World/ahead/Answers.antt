use Rattle.sat_world.proofs.Ahead.{ahead-edge, ahead-is, ahead-within}
use Rattle.sat_world.proofs.world.World.ahead.Goals as goal

pub ahead_at-requires-clause-within : goal.ahead_at-requires-clause-within
ahead_at-requires-clause-within c = ahead-within _ _ _ _ _ _ c.deref.ensures.value c.self.view_is c.self.invariant c.requires

pub ahead_at-requires-clause-node : goal.ahead_at-requires-clause-node
ahead_at-requires-clause-node c = λ n at. (ahead-edge _ _ _ _ _ _ n c.deref.ensures.value c.self.view_is c.self.invariant c.requires at).node

pub ahead_at-requires-clause-end : goal.ahead_at-requires-clause-end
ahead_at-requires-clause-end c = λ n at. (ahead-edge _ _ _ _ _ _ n c.deref.ensures.value c.self.view_is c.self.invariant c.requires at).end

pub ahead_at-requires-clause-edge : goal.ahead_at-requires-clause-edge
ahead_at-requires-clause-edge c = λ n at. (ahead-edge _ _ _ _ _ _ n c.deref.ensures.value c.self.view_is c.self.invariant c.requires at).edge

pub returns : goal.returns
returns c = λ h run st t planned. ahead-is _ _ _ _ _ _ _ _ h t c.deref.ensures.value c.self.view_is c.self.invariant c.requires c.ahead_at.ensures st planned
