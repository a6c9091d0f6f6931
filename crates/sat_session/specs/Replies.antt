-- What a session's act may be answered, and what a call asks of its parts. Of these only `Asks` stands in a public
-- contract, that of a call at a node of any machine.
use Rattle.std.specs.Prelude.{◌≡◌, ◌==◌, ℕ, Bool, true, false, List, [], ◌∷◌, Option, Some, None}
use Rattle.sat_label.specs.declared.carried.Carried.{Carried}
use Rattle.sat_label.specs.declared.label.Kind.TheVariants as kind
use Rattle.sat_label.specs.declared.label.Label.{Label}
use Rattle.sat_label.specs.declared.node.NodeName.{NodeName}
use Rattle.sat_label.specs.declared.node.NodeName.TheVariants as named
use Rattle.sat_label.specs.declared.point.Point.{Point}
use Rattle.sat_label.specs.Order.{point_lt}
use Rattle.sat_act.specs.declared.act.Act.{Act}
use Rattle.sat_act.specs.declared.act.Act.TheVariants as act
use Rattle.sat_act.specs.declared.answer.Answer.{Answer}
use Rattle.sat_act.specs.declared.answer.Answer.TheVariants as ans
use Rattle.sat_act.specs.declared.answer.Refusal.{Refusal}
use Rattle.sat_act.specs.declared.answer.Refusal.TheVariants as why
use Rattle.sat_act.specs.Deployed.{Deployed}
use Rattle.sat_act.specs.Done.{Written, write_in}
use Rattle.sat_act.specs.Parts.{replicates}
use Rattle.sat_client.specs.declared.client.Client.{Client}
use Rattle.sat_client.specs.Clients.{is_move}
use Rattle.sat_model.specs.Fits.{is_point, is_site}
use Rattle.sat_model.specs.Input as given
use Rattle.sat_model.specs.Reply.{site_answer}
use Rattle.sat_model.specs.State.{SiteState, Version}
use Rattle.sat_node.specs.Links.{IsLocal}
use Rattle.sat_node.specs.Meanings.{Meaning, replay}
use Rattle.sat_node.specs.Seen.{NodeSeen}
use Rattle.sat_machines.specs.Plain.{is_plain}
use Rattle.sat_machines.specs.Sites.{is_standing}
use Rattle.sat_stitch.specs.Kept.{Given, Nothing, OfClient}
use Rattle.sat_stitch.specs.Places.{places, Session, Client as Owner, Operator, session_of}
use Rattle.sat_opened.specs.Opened.{place_at}
use Rattle.sat_session.specs.Notes.{SessionSeen, session_at}

-- a refusal, or what the act does. A label's point is one of the deployment, and that of a move is above all that the
-- client saw
pub data IsReply (d : Deployed) (seen : Carried) : Act → Answer → Type 0 where
  refuses : (a : Act) (y : Refusal) → is_standing (ans.Refused y) ≡ true → IsReply d seen a (ans.Refused y)
  wrote : (a : Act) (w : Written) (l : Label) → write_in a ≡ Some w → is_point d l.point ≡ true
      → IsReply d seen a (ans.Wrote l)
  read_none : (c n : ℕ) → IsReply d seen (act.Read c n) ans.ReadNone
  read_some : (c n : ℕ) (l : Label) (value : List ℕ) → is_point d l.point ≡ true
      → IsReply d seen (act.Read c n) (ans.ReadSome l value)
  moved : (c j : ℕ) (l : Label) → is_point d l.point ≡ true → is_site d j ≡ true → l.kind ≡ kind.Move j
      → point_lt seen.point l.point ≡ true → IsReply d seen (act.Move c j) (ans.Moved l)
  left : (c : ℕ) (p : Point) → IsReply d seen (act.Leave c) (ans.Left p)
  attached : (c j : ℕ) → is_site d j ≡ true → IsReply d seen (act.Attach c j) ans.Attached
  closed : (i e : ℕ) (p : Point) → IsReply d seen (act.Close i) (ans.Closed e p)
  fallen : (j : ℕ) → IsReply d seen (act.Fall j) ans.Fallen
  killed : (e z : ℕ) → IsReply d seen (act.Kill e z) ans.Killed

-- the label of a move is one, and above all that the client saw
abbrev pub MayMove : Answer → Client → Type 0
MayMove r x = (l : Label) → r ≡ ans.Moved l → (is_move l.kind ≡ true) × (point_lt x.carried.point l.point ≡ true)

-- there is a copy of an answer that holds a list
abbrev pub HasSpare : Answer → Option Answer → Type 0
HasSpare r spare = is_plain r ≡ false → spare ≡ Some r

-- what a session hands with its acts
abbrev pub given_of : Session → Client → Given
given_of (Owner c) x = OfClient x.carried x.seat
given_of Operator x = Nothing

-- what a session answers alone
abbrev pub leave_answer : Point → Option ℕ → Answer
leave_answer p None = ans.Refused why.NoSession
leave_answer p (Some i) = ans.Left p

abbrev pub own_answer : Client → Act → Answer
own_answer x (act.Leave c) = leave_answer x.carried.point x.seat
own_answer x (act.Attach c j) = ans.Refused why.Joined
own_answer x _ = ans.Refused why.NoSession

-- what was looked up before a read: where the site keeps the item, its version is one of the deployment, and there is a
-- copy of the answer where that holds a list
pub record Looked (d : Deployed) (i : ℕ) (s : SiteState) (n : ℕ) (spare : Option Answer) : Type 0 where
  pub points : replicates d n i ≡ true → (v : Version) → s.store n ≡ Some v → is_point d v.label.point ≡ true
  pub spares : (seen : Carried) (r : Answer) → r ≡ site_answer d i s (given.Read seen n) → HasSpare r spare

-- what is asked of an act that a session takes to a node: it is the session's, it stands at the node, what the node's
-- machine answers to its input is a reply to it, with a spare where it holds a list, and the input takes nothing from a
-- link
pub record Asks {S M I A : Type 0} (d : Deployed) (m : Meaning S I A) (answer_of : A → Answer) (x : SessionSeen)
    (node : NodeSeen M I A) (input : I) (a : Act) (spare : Option Answer) : Type 0 where
  pub own : session_of a ≡ Some (session_at d x.number)
  pub placed : places a (given_of (session_at d x.number) x.client) ≡ place_at node.name ∷ []
  pub replies : (r : A) → m.answers node.name (replay m node.name node.entries) input r
      → IsReply d x.client.carried a (answer_of r)
  pub spares : (r : A) → m.answers node.name (replay m node.name node.entries) input r → HasSpare (answer_of r) spare
  pub stays : IsLocal m node input
