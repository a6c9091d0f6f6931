-- What sessions take to nodes meets what is asked of it.
use Rattle.std.proofs.Common.{◌≡◌, ◌<◌, ◌==◌, ℕ, Bool, true, false, List, [], ◌∷◌, length, Option, Some, None, is_some, refl, sym, ap, ◌∙◌, subst, arith}
use Rattle.sat_label.specs.declared.node.NodeName.{NodeName}
use Rattle.sat_label.specs.declared.node.NodeName.TheVariants as named
use Rattle.std.proofs.lemmas.Bool.{and_parts}
use Rattle.sat_label.specs.Order.{name_eq}
use Rattle.sat_opened.proofs.Numbers.{same-is}
use Rattle.sat_act.specs.declared.act.Act.{Act}
use Rattle.sat_act.specs.declared.act.Act.TheVariants as act
use Rattle.sat_act.specs.declared.answer.Answer.{Answer}
use Rattle.sat_act.specs.declared.answer.Answer.TheVariants as ans
use Rattle.sat_act.specs.declared.answer.Refusal.TheVariants as why
use Rattle.sat_act.specs.Answers.{refused_if}
use Rattle.sat_act.specs.Deployed.{Deployed}
use Rattle.sat_act.specs.Done.{Written, write_in}
use Rattle.sat_model.specs.Fits.{is_site, is_goal}
use Rattle.sat_model.specs.State.{SiteState}
use Rattle.sat_site.specs.declared.input.SiteInput.{SiteInput}
use Rattle.sat_site.specs.declared.input.SiteInput.TheVariants as input
use Rattle.sat_node.specs.Links.{IsLocal}
use Rattle.sat_node.specs.Meanings.{replay}
use Rattle.sat_node.specs.Seen.{NodeSeen}
use Rattle.sat_machines.specs.Acts.{ActSeen}
use Rattle.sat_machines.specs.Serials.{serial_meaning, epoch_in, serial_in}
use Rattle.sat_machines.specs.Sites.{is_standing, number_of, site_meaning, site_takes, AnswersAt}
use Rattle.sat_machines.specs.declared.site_answer.SiteAnswer.{SiteAnswer}
use Rattle.sat_machines.specs.declared.serial_act.SerialAct.{SerialAct}
use Rattle.sat_machines.specs.declared.serial_act.SerialAct.TheVariants as serial
use Rattle.sat_machines.specs.declared.serial_act.SerialAnswer.{SerialAnswer}
use Rattle.sat_stitch.specs.Kept.{OfClient}
use Rattle.sat_stitch.specs.Places.{Place, AtSite, places, seat_places, attach_places, Session, Client as Owner, Operator, session_of}
use Rattle.sat_opened.specs.Opened.{place_at}
use Rattle.sat_session.specs.Notes.{SessionSeen, session_at}
use Rattle.sat_session.specs.Sessions.{IsSession}
use Rattle.sat_session.specs.Calls.{of_site, of_serial, asked_by}
use Rattle.sat_session.specs.Replies.{IsReply, refuses, killed, HasSpare, given_of, Looked, Asks}
use Rattle.sat_session.proofs.Answering.{wrote-so, read-so, moved-so, attached-so, closed-so, fallen-so, is_read, plain-spare, plain-reply, reply-stands}
use Rattle.sat_session.proofs.Begins.{of-client, of-operator}
use Rattle.sat_session.proofs.Written.{write-read, write-session, write-places}

-- ---- inputs that take nothing from a link

abbrev takes_none : SiteInput → Bool
takes_none (input.Turn front) = false
takes_none (input.Bulk from gear number payload) = false
takes_none (input.BeatIn from number beat) = false
takes_none _ = true

takes-none : (name : NodeName) (k : ℕ) (by : Option ℕ) (given : SiteInput) (a : SiteAnswer) → takes_none given ≡ true → site_takes name k (asked_by by given) a ≡ None
takes-none (named.Serializer e z) k by given a t = refl
takes-none (named.Gear e z) k by given a t = refl
takes-none (named.Site i) k by (input.Turn front) a t = absurd (cc)
takes-none (named.Site i) k by (input.Bulk from gear number payload) a t = absurd (cc)
takes-none (named.Site i) k by (input.BeatIn from number beat) a t = absurd (cc)
takes-none (named.Site i) k by _ a t = refl

module _ {M : Type 0} (d : Deployed) (x : SessionSeen) (node : NodeSeen M ActSeen SiteAnswer) where
  abbrev state : SiteState
  state = replay (site_meaning d) node.name node.entries

  -- what the site answers to this
  abbrev Answers : Option ℕ → SiteInput → SiteAnswer → Type 0
  Answers by given r = AnswersAt d (number_of node.name) state (asked_by by given) r

  local : (by : Option ℕ) (given : SiteInput) (a : Act) → takes_none given ≡ true → ((r : SiteAnswer) → Answers by given r → IsReply d x.client.carried a r.answer) → IsLocal (site_meaning d) node (asked_by by given)
  local by given a t f = record { stands = λ r w. reply-stands d x.client.carried a r.answer (f r w); takes = λ r k w. takes-none node.name k by given r t }

  -- an act that is no read
  asks : (by : Option ℕ) (given : SiteInput) (a : Act) → takes_none given ≡ true → is_read a ≡ false → session_of a ≡ Some (session_at d x.number) → places a (given_of (session_at d x.number) x.client) ≡ place_at node.name ∷ [] →
      ((r : SiteAnswer) → Answers by given r → IsReply d x.client.carried a r.answer) → Asks d (site_meaning d) of_site x node (asked_by by given) a None
  asks by given a t e own placed f = record {
    own = own;
    placed = placed;
    replies = f;
    spares = λ r w. plain-spare r.answer None (plain-reply d x.client.carried a r.answer (f r w) e);
    stays = local by given a t f;
  }

  module _ (is : IsSession d x) (lt : x.number < length d.clients) where
    own-client : (a : Act) → session_of a ≡ Some (Owner x.number) → session_of a ≡ Some (session_at d x.number)
    own-client a e = e ∙ ap (λ (s : Session). Some s) (sym (of-client d x.number lt))

    module _ (i : ℕ) (at : node.name ≡ named.Site i) where
      number-is : number_of node.name ≡ i
      number-is = ap number_of at

      placed-here : (a : Act) → places a (given_of (Owner x.number) x.client) ≡ AtSite i ∷ [] → places a (given_of (session_at d x.number) x.client) ≡ place_at node.name ∷ []
      placed-here a e = ap (λ (s : Session). places a (given_of s x.client)) (of-client d x.number lt) ∙ (e ∙ ap (λ (n : NodeName). place_at n ∷ []) (sym at))

      module _ (seated : x.client.seat ≡ Some i) where
        here : is_site d (number_of node.name) ≡ true
        here = ap (is_site d) number-is ∙ subst (λ (o : Option ℕ). is_goal d o ≡ true) seated is.sits

        pub asks-write : (a : Act) (w : Written) → write_in a ≡ Some w → w.client ≡ x.number → Asks d (site_meaning d) of_site x node (asked_by (Some x.number) (input.Write x.client.carried w.items w.values)) a None
        asks-write a w e own =
            asks (Some x.number) (input.Write x.client.carried w.items w.values) a refl (write-read a w e) (own-client a (write-session a w x.number e own))
            (placed-here a (ap (λ (o : Option ℕ). places a (OfClient x.client.carried o)) seated ∙ write-places a w x.client.carried i e))
            (λ r v. wrote-so d x.client.carried (number_of node.name) state r.answer a w e here v.answer)

        pub asks-move : (j : ℕ) → is_site d j ≡ true → Asks d (site_meaning d) of_site x node (asked_by (Some x.number) (input.Move x.client.carried j)) (act.Move x.number j) None
        asks-move j there =
            asks (Some x.number) (input.Move x.client.carried j) (act.Move x.number j) refl refl (own-client (act.Move x.number j) refl)
            (placed-here (act.Move x.number j) (ap (seat_places x.number) seated))
            (λ r w. moved-so d x.client.carried (number_of node.name) state r.answer x.number j here there w.answer)

        pub asks-read : (n : ℕ) (spare : Option Answer) → Looked d (number_of node.name) state n spare → Asks d (site_meaning d) of_site x node (asked_by (Some x.number) (input.Read x.client.carried n)) (act.Read x.number n) spare
        asks-read n spare looked =
            let f : (r : SiteAnswer) → Answers (Some x.number) (input.Read x.client.carried n) r → IsReply d x.client.carried (act.Read x.number n) r.answer =
            λ r w. read-so d x.client.carried (number_of node.name) state r.answer x.number n looked.points w.answer in
            record {
              own = own-client (act.Read x.number n) refl;
              placed = placed-here (act.Read x.number n) (ap (seat_places x.number) seated);
              replies = f;
              spares = λ r w. looked.spares x.client.carried r.answer w.answer;
              stays = local (Some x.number) (input.Read x.client.carried n) (act.Read x.number n) refl f;
            }

      pub asks-attach : x.client.seat ≡ None → is_site d i ≡ true → Asks d (site_meaning d) of_site x node (asked_by (Some x.number) (input.Attach x.client.carried)) (act.Attach x.number i) None
      asks-attach unseated there =
          asks (Some x.number) (input.Attach x.client.carried) (act.Attach x.number i) refl refl (own-client (act.Attach x.number i) refl)
          (placed-here (act.Attach x.number i) (ap (attach_places x.number i) unseated))
          (λ r w. subst (λ (j : ℕ). IsReply d x.client.carried (act.Attach x.number j) r.answer) number-is
          (attached-so d x.client.carried (number_of node.name) state r.answer x.number (ap (is_site d) number-is ∙ there) w.answer))

  -- ---- by the operator

  module _ (operator : x.number ≡ length d.clients) (i : ℕ) (at : node.name ≡ named.Site i) where
    own-operator : (a : Act) → session_of a ≡ Some Operator → session_of a ≡ Some (session_at d x.number)
    own-operator a e = e ∙ ap (λ (s : Session). Some s) (sym (ap (session_at d) operator ∙ of-operator d))

    operator-number : number_of node.name ≡ i
    operator-number = ap number_of at

    pub asks-close : Asks d (site_meaning d) of_site x node (asked_by None input.Close) (act.Close i) None
    asks-close =
        asks None input.Close (act.Close i) refl refl (own-operator (act.Close i) refl) (ap (λ (n : NodeName). place_at n ∷ []) (sym at))
        (λ r w. subst (λ (j : ℕ). IsReply d x.client.carried (act.Close j) r.answer) operator-number (closed-so d x.client.carried (number_of node.name) state r.answer w.answer))

    pub asks-fall : Asks d (site_meaning d) of_site x node (asked_by None input.Fall) (act.Fall i) None
    asks-fall =
        asks None input.Fall (act.Fall i) refl refl (own-operator (act.Fall i) refl) (ap (λ (n : NodeName). place_at n ∷ []) (sym at))
        (λ r w. subst (λ (j : ℕ). IsReply d x.client.carried (act.Fall j) r.answer) operator-number (fallen-so d x.client.carried (number_of node.name) state r.answer w.answer))

-- ---- a kill

kill-reply : (d : Deployed) (x : SessionSeen) (e z : ℕ) (dead : Bool) → IsReply d x.client.carried (act.Kill e z) (refused_if dead why.Already ans.Killed)
kill-reply d x e z true = refuses (act.Kill e z) why.Already refl
kill-reply d x e z false = killed e z

pub asks-kill : {M : Type 0} (d : Deployed) (x : SessionSeen) (node : NodeSeen M SerialAct SerialAnswer) (e z : ℕ) → x.number ≡ length d.clients → node.name ≡ named.Serializer e z →
    Asks d (serial_meaning d) of_serial x node serial.Kill (act.Kill e z) None
asks-kill d x node e z operator at =
    let dead : Bool = replay (serial_meaning d) node.name node.entries in
    record {
      own = sym (ap (λ (s : Session). Some s) (ap (session_at d) operator ∙ of-operator d));
      placed = ap (λ (n : NodeName). place_at n ∷ []) (sym at);
      replies = λ r w. subst (IsReply d x.client.carried (act.Kill e z)) (sym w.answer) (kill-reply d x e z dead);
      spares = λ r w. plain-spare r.answer None (plain-reply d x.client.carried (act.Kill e z) r.answer (subst (IsReply d x.client.carried (act.Kill e z)) (sym w.answer) (kill-reply d x e z dead)) refl);
      stays = record { stands = λ r w. refl; takes = λ r k w. refl };
    }

-- ---- as the code has it

pub same-name : (m n : NodeName) → name_eq m n ≡ true → m ≡ n
same-name (named.Site i) (named.Site k) e = ap named.Site (same-is i k e)
same-name (named.Serializer e y) (named.Serializer f z) w =
    let k = and_parts (e == f) (y == z) w in
    ap (λ (n : ℕ). named.Serializer n y) (same-is e f k.0) ∙ ap (named.Serializer f) (same-is y z k.1)
same-name (named.Gear i g) (named.Gear k h) w =
    let s = and_parts (i == k) (g == h) w in
    ap (λ (n : ℕ). named.Gear n g) (same-is i k s.0) ∙ ap (named.Gear k) (same-is g h s.1)
same-name _ _ e = absurd (cc)

pub none-is : (o : Option ℕ) → is_some o ≡ false → o ≡ None
none-is None e = refl
none-is (Some n) e = absurd (cc)

-- a session by its fields, and an input that was made
pub asks-by : {M : Type 0} (d : Deployed) (x y : SessionSeen) (node : NodeSeen M ActSeen SiteAnswer) (input made : ActSeen) (a : Act) (spare : Option Answer) → y ≡ x → made ≡ input →
    Asks d (site_meaning d) of_site y node input a spare → Asks d (site_meaning d) of_site x node made a spare
asks-by d x y node input made a spare same is asked =
    subst (λ (z : SessionSeen). Asks d (site_meaning d) of_site z node made a spare) same (subst (λ (w : ActSeen). Asks d (site_meaning d) of_site y node w a spare) (sym is) asked)
