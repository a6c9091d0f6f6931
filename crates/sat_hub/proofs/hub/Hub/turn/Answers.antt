use Rattle.std.proofs.Common.{sym, ◌∙◌}
use Rattle.sat_hub.proofs.Given.{shows-guest, turn-after, turn-close, turn-from, turn-gives, turn-other, turn-told}
use Rattle.sat_hub.proofs.Peers.{turn-hub}
use Rattle.sat_hub.proofs.hub.Hub.turn.Goals as goal

pub turn-turned-requires-clause-from : goal.turn-turned-requires-clause-from
turn-turned-requires-clause-from c = turn-from _ _ c.args.front c.self.view_is c.self.invariant c.requires

pub turn-turned-requires-clause-other : goal.turn-turned-requires-clause-other
turn-turned-requires-clause-other c = turn-other _ _ c.args.front c.self.view_is c.self.invariant c.requires

pub turn-turned-requires-clause-close : goal.turn-turned-requires-clause-close
turn-turned-requires-clause-close c = turn-close _ _ c.args.front c.self.view_is c.requires

pub invariant_of-self : goal.invariant_of-self
invariant_of-self c = turn-hub _ c.turn-turned.result c.turn-turned.new.views c.turn-turned.new.self c.args.front c.self.invariant c.sound.ensures.views c.sound.ensures.proxy c.turn-turned.ensures.new c.turn-turned.ensures.heard c.turn-turned.ensures.err c.turn-turned.ensures.unheard

pub returns-clause-answer : goal.returns-clause-answer
returns-clause-answer c = turn-told _ _ c.args.front c.turn-turned.result c.self.view_is c.turn-turned.ensures.fault c.turn-turned.ensures.gives

pub returns-clause-shows : goal.returns-clause-shows
returns-clause-shows c = turn-gives _ _ c.args.front c.turn-turned.result c.self.view_is c.turn-turned.ensures.fault c.turn-turned.ensures.gives

pub returns-clause-guest : goal.returns-clause-guest
returns-clause-guest c = λ p e. shows-guest _ _ c.args.front p c.self.view_is c.self.invariant (sym (turn-gives _ _ c.args.front c.turn-turned.result c.self.view_is c.turn-turned.ensures.fault c.turn-turned.ensures.gives) ∙ e)

pub returns-clause-after : goal.returns-clause-after
returns-clause-after c =
    turn-after _ _ c.args.front c.turn-turned.result c.turn-turned.new.views c.turn-turned.new.self c.self.view_is c.turn-turned.ensures.fault c.turn-turned.ensures.new c.turn-turned.ensures.heard c.turn-turned.ensures.err c.turn-turned.ensures.unheard
