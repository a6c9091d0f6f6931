-- What a hub's passes have looked at stays as it is where a session asks the hub.
use Rattle.std.proofs.Common.{ℕ, ◌∙◌, sym, [], Result, Ok, Err}
use Rattle.std.proofs.lemmas.List.{append-nil}
use Rattle.sat_act.specs.declared.act.Act.{Act}
use Rattle.sat_act.specs.declared.answer.Answer.{Answer}
use Rattle.sat_node.specs.declared.kept.CallFault.{CallFault}
use Rattle.sat_parts.specs.declared.hub_answer.HubAnswer.{HubAnswer}
use Rattle.sat_parts.specs.Acts.{HubActSeen}
use Rattle.sat_parts_passes.specs.Sendings.{HubHeld}
use Rattle.sat_parts_pump.specs.Watched.{IsWatched}
use Rattle.sat_parts_pump.proofs.Watching.{watched_more}
use Rattle.sat_session.specs.Notes.{SessionSeen}
use Rattle.sat_session.specs.Calls.{AtNode}

pub asked_watched : (a : Act) (asked : HubActSeen) (answer_of : HubAnswer → Answer) (result : Result Answer CallFault) (old new : HubHeld) (before after : SessionSeen) (upto ts : ℕ) → AtNode a asked answer_of result old.node new.node before after
    → IsWatched old upto ts → IsWatched new upto ts
asked_watched a asked answer_of (Ok r) old new before after upto ts at w = watched_more old new upto ts _ w at.entered.2
asked_watched a asked answer_of (Err f) old new before after upto ts at w = watched_more old new upto ts [] w (at.unchanged.2 ∙ sym (append-nil old.node.entries))
