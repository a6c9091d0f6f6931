-- What a call of a session at a cluster does.
use Rattle.std.specs.Prelude.{◌≡◌, ℕ, ◌<◌, Bool, true, false, ◌++◌, ◌∷◌, [], ◌↔◌, Option, Some, None, Result, IfOk}
use Rattle.std.specs.Prelude.{IfErr, OnOk, OnErr, IsErrOf}
use Rattle.sat_label.specs.declared.node.NodeName.{NodeName}
use Rattle.sat_label.specs.declared.node.NodeName.TheVariants as named
use Rattle.sat_act.specs.declared.act.Act.{Act}
use Rattle.sat_act.specs.declared.act.Act.TheVariants as act
use Rattle.sat_act.specs.declared.answer.Answer.{Answer}
use Rattle.sat_act.specs.declared.answer.Answer.TheVariants as ans
use Rattle.sat_act.specs.declared.answer.Refusal.TheVariants as why
use Rattle.sat_act.specs.Answers.{gear_of}
use Rattle.sat_act.specs.Deployed.{Deployed}
use Rattle.sat_model.specs.Reply.{gear_for}
use Rattle.sat_node.specs.declared.kept.CallFault.{CallFault}
use Rattle.sat_node.specs.declared.kept.CallFault.TheVariants as fault
use Rattle.sat_node.specs.Seen.{last_number}
use Rattle.sat_stitch.specs.Kept.{OfClient}
use Rattle.sat_stitch.specs.Nodes.{IsSessionAnswer}
use Rattle.sat_session.specs.Notes.{SessionSeen}
use Rattle.sat_session.specs.Calls.{note, told, IsFault}

-- the name of a gear of a site, if there is one
abbrev pub gear_named : ℕ → Option ℕ → Option NodeName
gear_named g None = None
gear_named g (Some i) = Some (named.Gear i g)

-- the hub that is asked for a seat; with a seat none is
abbrev pub attach_node : ℕ → Option ℕ → Option NodeName
attach_node j None = Some (named.Site j)
attach_node j (Some i) = None

-- the node of an act of a client with this seat, or of the operator: for a write or a read the item's gear, for a write
-- of several items the gear of the least of them, for a move gear 0, else a hub or a serializer; none where the act
-- touches no node
abbrev pub node_of : Deployed → Act → Option ℕ → Option NodeName
node_of d (act.Write c n value) seat = gear_named (gear_of d n) seat
node_of d (act.Writes c items values) seat = gear_named (gear_for d items) seat
node_of d (act.Read c n) seat = gear_named (gear_of d n) seat
node_of d (act.Move c j) seat = gear_named 0 seat
node_of d (act.Attach c j) seat = attach_node j seat
node_of d (act.Close i) seat = Some (named.Site i)
node_of d (act.Fall i) seat = Some (named.Site i)
node_of d (act.Kill e z) seat = Some (named.Serializer e z)
node_of d _ seat = None

-- a refusal for which no node is asked
abbrev pub is_of_seat : Answer → Bool
is_of_seat (ans.Refused why.NoSession) = true
is_of_seat (ans.Refused why.Joined) = true
is_of_seat _ = false

-- A call of a session. After Ok it noted this one thing more: the act with the answer, at its node, with what its
-- client carried before, under a greater number. After an error it is as before. An act that touches no node has the
-- session's own answer, and Worn comes of it exactly where the session's number is the greatest; an act at a node is
-- never refused for the seat
pub record Did (d : Deployed) (a : Act) (result : Result Answer CallFault) (old new : SessionSeen) : Type 0 where
  pub noted : IfOk result (λ r. new.noted ≡ old.noted
      ++ note new.lamport (node_of d a old.client.seat) old.client.carried a r ∷ [])
  pub rises : OnOk result (old.lamport < new.lamport)
  pub client : IfOk result (λ r. new.client ≡ told a r old.client)
  pub same : new.number ≡ old.number
  pub err : OnErr result (new ≡ old)
  pub only : IfErr result IsFault
  pub alone : node_of d a old.client.seat ≡ None
      → IfOk result (λ r. IsSessionAnswer a (OfClient old.client.carried old.client.seat) r)
  pub worn : node_of d a old.client.seat ≡ None
      → (IsErrOf result (fault.Worn last_number) ↔ (old.lamport ≡ last_number))
  pub asked : IfOk result (λ r. is_of_seat r ≡ true → node_of d a old.client.seat ≡ None)
