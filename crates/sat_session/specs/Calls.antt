-- What the calls of a session do: what they note, and what they make of its client.
use Rattle.std.specs.Prelude.{◌≡◌, ◌≤◌, ℕ, ◌+◌, max, true, false, List, [], ◌∷◌, ◌++◌, length, ◌⊎◌, ◌↔◌, Option, Some}
use Rattle.std.specs.Prelude.{None, Result, IfOk, IfErr, OnOk, OnErr, IsErrOf}
use Rattle.sat_label.specs.declared.carried.Carried.{Carried}
use Rattle.sat_label.specs.declared.items.Items.{Items}
use Rattle.sat_label.specs.Formats.{limits_of}
use Rattle.sat_label.specs.Grouped.{are_items, list_of}
use Rattle.sat_label.specs.declared.node.NodeName.{NodeName}
use Rattle.sat_act.specs.declared.act.Act.{Act}
use Rattle.sat_act.specs.declared.act.Act.TheVariants as act
use Rattle.sat_act.specs.declared.answer.Answer.{Answer}
use Rattle.sat_act.specs.declared.answer.Answer.TheVariants as ans
use Rattle.sat_act.specs.Deployed.{Deployed}
use Rattle.sat_client.specs.declared.client.Client.{Client}
use Rattle.sat_client.specs.Clients.{after_observe, after_move, after_leave, after_join}
use Rattle.sat_model.specs.Fits.{are_known}
use Rattle.sat_node.specs.declared.kept.CallFault.{CallFault}
use Rattle.sat_node.specs.declared.kept.CallFault.TheVariants as fault
use Rattle.sat_node.specs.Seen.{NodeSeen, SameNode, last_number, entry}
use Rattle.sat_site.specs.declared.input.SiteInput.{SiteInput}
use Rattle.sat_machines.specs.Acts.{ActSeen}
use Rattle.sat_machines.specs.declared.site_answer.SiteAnswer.{SiteAnswer}
use Rattle.sat_machines.specs.declared.serial_act.SerialAnswer.{SerialAnswer}
use Rattle.sat_session.specs.declared.noted.Noted.{Noted}
use Rattle.sat_session.specs.Notes.{SessionSeen}

-- what a write of several items asks for: two items at least and as many as the format allows, which in format 1 are
-- none, strictly ascending, each one of the deployment's, and a value for each
pub record IsGroup (d : Deployed) (items : Items) (values : List (List ℕ)) : Type 0 where
  pub some : 2 ≤ length (list_of items)
  pub few : length (list_of items) ≤ (limits_of d.format).written
  pub order : are_items (list_of items) ≡ true
  pub known : are_known d (list_of items) ≡ true
  pub each : length values ≡ length (list_of items)

-- a note of an act and its answer under this number, at this node, by a client that carried this
abbrev pub note : ℕ → Option NodeName → Carried → Act → Answer → Noted
note number at seen a r =
    record { lamport = number; at = at; carried = seen; entry = record { act = a; answer = r; inner = false } }

-- what an act and its answer make of the client
abbrev pub told : Act → Answer → Client → Client
told a (ans.Wrote l) x = after_observe x l.point
told a (ans.ReadSome l value) x = after_observe x l.point
told a (ans.Moved l) x = after_move x l
told a (ans.Left p) x = after_leave x
told (act.Attach c j) ans.Attached x = after_join x j
told a r x = x

-- the session noted this one thing more, under this number. After an error it is as before
pub record Notes (number : ℕ) (place : Option NodeName) (a : Act) (result : Result Answer CallFault)
    (old new : SessionSeen) : Type 0 where
  pub noted : IfOk result (λ r. new.noted ≡ old.noted ++ note number place old.client.carried a r ∷ [])
  pub client : IfOk result (λ r. new.client ≡ told a r old.client)
  pub lamport : OnOk result (new.lamport ≡ number)
  pub same : new.number ≡ old.number
  pub err : OnErr result (new ≡ old)

-- the only errors that a call has
abbrev pub IsFault : CallFault → Type 0
IsFault f = (f ≡ fault.Worn last_number) ⊎ (f ≡ fault.Memory)

-- a call that touches no node
pub record AtNone (a : Act) (result : Result Answer CallFault) (old new : SessionSeen) : Type 0 where
  pub notes : Notes (old.lamport + 1) None a result old new
  pub worn : IsErrOf result (fault.Worn last_number) ↔ (old.lamport ≡ last_number)
  pub only : IfErr result IsFault

-- a call at a node: the node has one entry more, the input with the answer that comes back, under one above this
-- number, and the session notes it under the number of that entry. Worn comes only where this number is the greatest,
-- and there no call is done. After an error both are as before
pub record AtNodeAbove {M I A : Type 0} (last : ℕ) (a : Act) (input : I) (answer_of : A → Answer)
    (result : Result Answer CallFault) (old new : NodeSeen M I A) (before after : SessionSeen) : Type 0 where
  pub entered : IfOk result (λ r. (given : A) × (answer_of given ≡ r)
      × (new.entries ≡ old.entries ++ entry (last + 1) input given ∷ []))
  pub number : OnOk result (new.number ≡ last + 1)
  pub name : new.name ≡ old.name
  pub unchanged : OnErr result (SameNode old new)
  pub notes : Notes (last + 1) (Some old.name) a result before after
  pub worn : IsErrOf result (fault.Worn last_number) → last ≡ last_number
  pub spent : last ≡ last_number → IfOk result (λ r. ⊥)
  pub only : IfErr result IsFault

-- the same under one above the node's number and the session's
abbrev pub AtNode : {M I A : Type 0} → Act → I → (A → Answer) → Result Answer CallFault → NodeSeen M I A
    → NodeSeen M I A → SessionSeen → SessionSeen → Type 0
AtNode a input answer_of result old new before after =
    AtNodeAbove (max old.number before.lamport) a input answer_of result old new before after

-- the history's answer in a site's, and in a serializer's
abbrev pub of_site : SiteAnswer → Answer
of_site a = a.answer

abbrev pub of_serial : SerialAnswer → Answer
of_serial a = a.answer

-- an input of a site by this client, or by none
abbrev pub asked_by : Option ℕ → SiteInput → ActSeen
asked_by client given = record { by = client; input = given }
