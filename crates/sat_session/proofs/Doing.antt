-- What each call of a session comes to.
use Rattle.std.proofs.Common.{◌≡◌, ◌<◌, ◌≤◌, ◌+◌, max, ℕ, false, List, [], ◌∷◌, ◌++◌, length, Option, Some, None, refl, sym, ap, ◌∙◌, subst, arith}
use Rattle.sat_label.specs.declared.carried.Carried.{Carried}
use Rattle.sat_label.specs.declared.node.NodeName.{NodeName}
use Rattle.sat_act.specs.declared.act.Act.{Act}
use Rattle.sat_act.specs.declared.act.Act.TheVariants as act
use Rattle.sat_act.specs.declared.answer.Answer.{Answer}
use Rattle.sat_act.specs.declared.answer.Answer.TheVariants as ans
use Rattle.sat_act.specs.declared.answer.Refusal.TheVariants as why
use Rattle.sat_act.specs.Answers.{InRange}
use Rattle.sat_act.specs.Deployed.{Deployed}
use Rattle.sat_client.specs.declared.client.Client.{Client}
use Rattle.sat_node.specs.declared.kept.CallFault.TheVariants as fault
use Rattle.sat_node.specs.Meanings.{Meaning, replay}
use Rattle.sat_node.specs.Seen.{NodeSeen}
use Rattle.sat_stitch.specs.Kept.{OfClient}
use Rattle.sat_stitch.specs.Places.{Place, AtSite, InSession, places, Session, Client as Owner, Operator, session_of}
use Rattle.sat_stitch.specs.Nodes.{IsSessionAnswer}
use Rattle.sat_session.specs.declared.noted.Noted.{Noted}
use Rattle.sat_session.specs.Notes.{SessionSeen, session_at}
use Rattle.sat_session.specs.Sessions.{note_places, IsSession}
use Rattle.sat_session.specs.Calls.{note, told, Notes, IsFault}
use Rattle.sat_session.specs.Replies.{IsReply, refuses, left, HasSpare, MayMove, given_of, own_answer, Asks}
use Rattle.sat_session.proofs.More.{session_then, session-more, may-move}
use Rattle.sat_session.proofs.Begins.{of-client}

-- ---- at a node

pub above : (a b n : ℕ) → n ≡ max a b + 1 → b < n
above a b n e = omega arith

pub above_said : (a b c n : ℕ) → n ≡ max a c + 1 → b ≤ c → b < n
above_said a b c n e le = omega arith

pub said_as : (x y : SessionSeen) (n : ℕ) → y ≡ x → x.lamport ≤ n → y.lamport ≤ n
said_as x y n same le = subst (λ (z : SessionSeen). z.lamport ≤ n) (sym same) le

pub node-session : {S M I A : Type 0} (d : Deployed) (m : Meaning S I A) (answer_of : A → Answer) (x : SessionSeen) (node : NodeSeen M I A) (input : I) (a : Act) (spare : Option Answer) (given : A) (n : ℕ) →
    IsSession d x → Asks d m answer_of x node input a spare → m.answers node.name (replay m node.name node.entries) input given → x.lamport < n → IsSession d (session_then n (Some node.name) a (answer_of given) x)
node-session d m answer_of x node input a spare given n is asks answers e =
    session-more d x n (Some node.name) a (answer_of given) is e asks.own asks.placed (λ w. absurd (cc)) (λ w. absurd (cc)) (asks.replies given answers)

-- the same of the code's values: what the session was, by its fields, and what became of them
module _ {S M I A : Type 0} (d : Deployed) (m : Meaning S I A) (answer_of : A → Answer) (x : SessionSeen) (node : NodeSeen M I A) (input : I) (a : Act) (spare : Option Answer) (given : A) (y : SessionSeen) (same : y ≡ x)
    (asks : Asks d m answer_of x node input a spare) (answers : m.answers node.name (replay m node.name node.entries) input given) where
  asked : Asks d m answer_of y node input a spare
  asked = subst (λ (z : SessionSeen). Asks d m answer_of z node input a spare) (sym same) asks

  pub node_moves : MayMove (answer_of given) y.client
  node_moves = may-move d y.client a (answer_of given) (asked.replies given answers)

  pub node_kept : (n : ℕ) (name : NodeName) (client : Client) (olds news : List Noted) → IsSession d y → y.lamport < n → name ≡ node.name → olds ≡ y.noted → news ≡ olds ++ note n (Some name) y.client.carried a (answer_of given) ∷ [] →
      client ≡ told a (answer_of given) y.client → IsSession d (record { number = y.number; client = client; lamport = n; noted = news })
  node_kept n name client olds news is number named kept noted tells =
      subst (λ (z : SessionSeen). IsSession d z)
      (λ i. record { number = y.number; client = sym tells i; lamport = n; noted = sym (noted ∙ (λ j. kept j ++ note n (Some (named j)) y.client.carried a (answer_of given) ∷ [])) i })
      (node-session d m answer_of y node input a spare given n is asked answers number)

  -- and of an answer that was taken out
  module _ (r : Answer) (is : r ≡ answer_of given) where
    pub moves_as : MayMove r y.client
    moves_as = subst (λ (z : Answer). MayMove z y.client) (sym is) node_moves

    pub spare_as : HasSpare r spare
    spare_as = subst (λ (z : Answer). HasSpare z spare) (sym is) (asks.spares given answers)

    pub kept_as : (n : ℕ) (name : NodeName) (client : Client) (olds news : List Noted) → IsSession d y → y.lamport < n → name ≡ node.name → olds ≡ y.noted → news ≡ olds ++ note n (Some name) y.client.carried a r ∷ [] → client ≡ told a r y.client →
        IsSession d (record { number = y.number; client = client; lamport = n; noted = news })
    kept_as n name client olds news sound number named kept noted tells =
        node_kept n name client olds news sound number named kept (noted ∙ ap (λ (z : Answer). olds ++ note n (Some name) y.client.carried a z ∷ []) is) (tells ∙ ap (λ (z : Answer). told a z y.client) is)

-- ---- at none

no-place : (c i : ℕ) → AtSite i ∷ [] ≡ InSession c ∷ [] → ⊥
no-place c i e = cc

own-is : (seen : Carried) (seat : Option ℕ) (a : Act) (c : ℕ) → session_of a ≡ Some (Owner c) → places a (OfClient seen seat) ≡ InSession c ∷ [] → IsSessionAnswer a (OfClient seen seat) (own_answer (record { carried = seen; seat = seat }) a)
own-is seen None (act.Write b n value) c e w = refl
own-is seen (Some i) (act.Write b n value) c e w = absurd (no-place c i w)
own-is seen None (act.Writes b items values) c e w = refl
own-is seen (Some i) (act.Writes b items values) c e w = absurd (no-place c i w)
own-is seen None (act.Read b n) c e w = refl
own-is seen (Some i) (act.Read b n) c e w = absurd (no-place c i w)
own-is seen None (act.Move b j) c e w = refl
own-is seen (Some i) (act.Move b j) c e w = absurd (no-place c i w)
own-is seen None (act.Leave b) c e w = refl
own-is seen (Some i) (act.Leave b) c e w = refl
own-is seen None (act.Attach b j) c e w = absurd (no-place c j w)
own-is seen (Some i) (act.Attach b j) c e w = refl
own-is seen o _ c e w = absurd (cc)

own-reply : (d : Deployed) (seen : Carried) (seat : Option ℕ) (a : Act) → IsReply d seen a (own_answer (record { carried = seen; seat = seat }) a)
own-reply d seen None (act.Leave c) = refuses (act.Leave c) why.NoSession refl
own-reply d seen (Some i) (act.Leave c) = left c seen.point
own-reply d seen o (act.Attach c j) = refuses (act.Attach c j) why.Joined refl
own-reply d seen o a = refuses a why.NoSession refl

pub own-answered : (x : Client) (a : Act) (c : ℕ) (r : Answer) → r ≡ own_answer x a → session_of a ≡ Some (Owner c) → places a (OfClient x.carried x.seat) ≡ InSession c ∷ [] → IsSessionAnswer a (OfClient x.carried x.seat) r
own-answered x a c r e own placed = subst (λ (y : Answer). IsSessionAnswer a (OfClient x.carried x.seat) y) (sym e) (own-is x.carried x.seat a c own placed)

pub own-replied : (d : Deployed) (x : Client) (a : Act) (r : Answer) → r ≡ own_answer x a → IsReply d x.carried a r
own-replied d x a r e = subst (IsReply d x.carried a) (sym e) (own-reply d x.carried x.seat a)

above-one : (n : ℕ) → n < n + 1
above-one n = omega arith

pub alone-session : (d : Deployed) (x : SessionSeen) (a : Act) (r : Answer) → IsSession d x → x.number < length d.clients → r ≡ own_answer x.client a → session_of a ≡ Some (Owner x.number) → InRange d a → places a (OfClient x.client.carried x.client.seat) ≡ InSession x.number ∷ [] →
    IsSession d (session_then (x.lamport + 1) None a r x)
alone-session d x a r is lt e own range placed =
    let s : session_at d x.number ≡ Owner x.number = of-client d x.number lt in
    session-more d x (x.lamport + 1) None a r is (above-one x.lamport) (own ∙ ap (λ (t : Session). Some t) (sym s))
    (subst (λ (t : Session). places a (given_of t x.client) ≡ note_places t None) (sym s) placed) (λ w. range)
    (λ w. subst (λ (t : Session). IsSessionAnswer a (given_of t x.client) r) (sym s) (own-answered x.client a x.number r e own placed))
    (own-replied d x.client a r e)

pub alone_kept : (d : Deployed) (x : SessionSeen) (a : Act) (r : Answer) (y : SessionSeen) (client : Client) (olds news : List Noted) → y ≡ x → IsSession d y → x.number < length d.clients → session_of a ≡ Some (Owner x.number) → InRange d a →
    places a (OfClient x.client.carried x.client.seat) ≡ InSession x.number ∷ [] → r ≡ own_answer y.client a → olds ≡ y.noted → news ≡ olds ++ note (y.lamport + 1) None y.client.carried a r ∷ [] → client ≡ told a r y.client →
    IsSession d (record { number = y.number; client = client; lamport = y.lamport + 1; noted = news })
alone_kept d x a r y client olds news same is lt own range placed answer kept noted tells =
    subst (λ (z : SessionSeen). IsSession d z)
    (λ i. record { number = y.number; client = sym tells i; lamport = y.lamport + 1; noted = sym (noted ∙ (λ j. kept j ++ note (y.lamport + 1) None y.client.carried a r ∷ [])) i })
    (alone-session d y a r is (subst (λ (z : SessionSeen). z.number < length d.clients) (sym same) lt) answer
    (subst (λ (z : SessionSeen). session_of a ≡ Some (Owner z.number)) (sym same) own) range
    (subst (λ (z : SessionSeen). places a (OfClient z.client.carried z.client.seat) ≡ InSession z.number ∷ []) (sym same) placed))
