-- What a turn and a stamp give, and what they are given.
use Rattle.std.specs.Prelude.{◌≡◌, ◌<◌, ℕ, Bool, true, false, Option, Some, None, option_copied, option_map, IfOk, IfSome, MatchResult, OnErr, OnOk, if◌then◌else◌, refl}
use Rattle.std.proofs.Common.{Bor, Result, Ok, Err, subst, ap, sym, ◌∙◌}
use Rattle.std.proofs.lemmas.Bool.{eqb-false}
use Rattle.sat_label.specs.declared.label.Label.{Label}
use Rattle.sat_label.specs.declared.items.Items.{Items}
use Rattle.sat_label.specs.declared.label.Kind.{Kind}
use Rattle.sat_label.specs.declared.label.Kind.TheVariants.{Update, Move, Pulse, Close}
use Rattle.sat_label.specs.Members.{In}
use Rattle.sat_bulk.specs.Payloads.{Payload}
use Rattle.sat_pool.specs.Pool.{all_waiting}
use Rattle.sat_epoch.specs.Epochs.{Epochs, in_stamp}
use Rattle.sat_act.specs.declared.answer.Answer.{Answer}
use Rattle.sat_act.specs.declared.answer.Answer.TheVariants as ans
use Rattle.sat_proxy.specs.declared.proxy.Turned.{Turned}
use Rattle.sat_proxy.specs.declared.proxy.Turned.TheVariants as turned
use Rattle.sat_proxy.specs.declared.proxy.TurnFault.{TurnFault}
use Rattle.sat_proxy.specs.declared.proxy.TurnFault.TheVariants as turn
use Rattle.sat_proxy.specs.declared.proxy.StampFault.{StampFault}
use Rattle.sat_proxy.specs.declared.proxy.StampFault.TheVariants as stamp
use Rattle.sat_proxy.specs.Proxy.{ProxySeen}
use Rattle.sat_proxy.specs.Steps as made
use Rattle.sat_proxy.specs.Answers.{done_answer, front_answer, next_answer, stamp_answer, turn_answer}
use Rattle.sat_hub.specs.Seen.{HubSeen, IsGuest, IsHub}
use Rattle.sat_hub.specs.Inputs.{IsFront}
use Rattle.sat_hub.specs.Changes.{stamped, turned as turned_seen}
use Rattle.sat_hub.specs.HubSteps.{stamp_given, stamp_told, turn_given, turn_told}
use Rattle.sat_hub.proofs.Waits.{Found, found, Next, next-payload}

-- ---- the front that a turn is given

front-of : (w x : HubSeen) (front : Option Label) → w ≡ x → ((l : Label) → front ≡ Some l → IsFront x l) → (l : Label) → front ≡ Some l → IsFront w l
front-of w x front same f l e = subst (λ (y : HubSeen). IsFront y l) (sym same) (f l e)

pub turn-from : (w x : HubSeen) (front : Option Label) → w ≡ x → IsHub w → ((l : Label) → front ≡ Some l → IsFront x l) → (l : Label) → front ≡ Some l → l.point.site < w.proxy.sites
turn-from w x front same k f l e = subst (λ (n : ℕ). l.point.site < n) (sym k.proxy.sites) (front-of w x front same f l e).from

pub turn-other : (w x : HubSeen) (front : Option Label) → w ≡ x → IsHub w → ((l : Label) → front ≡ Some l → IsFront x l) → (l : Label) → front ≡ Some l → l.point.site ≡ w.proxy.site → ⊥
turn-other w x front same k f l e own = eqb-false l.point.site w.shape.site (front-of w x front same f l e).other (own ∙ k.proxy.own)

pub turn-close : (w x : HubSeen) (front : Option Label) → w ≡ x → ((l : Label) → front ≡ Some l → IsFront x l) → (l : Label) (n : ℕ) → front ≡ Some l → l.kind ≡ Close n → n ≡ w.views.view
turn-close w x front same f l n e kind = (front-of w x front same f l e).close n kind

-- ---- what a turn gives

abbrev told : Turned → Answer
told (turned.Show q) = ans.Shown q.label
told (turned.Took l) = ans.Took l

record Gave (views : Epochs) (p : ProxySeen) (front : Option Label) (t : Turned) : Type 0 where
  answer : told t ≡ turn_answer views p front
  waits : (q : Payload) → t ≡ turned.Show q → In (all_waiting p.pool) q

gave : (views : Epochs) (p : ProxySeen) (front : Option Label) (t : Turned) → made.turn_gives views p front ≡ Some t → Gave views p front t
gave views p front t e = go (in_stamp views) refl front e
  where
    here : (l : Label) (r : Answer) → (b : Bool) → in_stamp views ≡ b → b ≡ false → front_answer (made.link_fault p.pool (Some l)) (Some l) ≡ r → turn_answer views p (Some l) ≡ r
    here l r b m f e = ap (λ (c : Bool). front_answer (if c then Some turn.StampOrder else made.link_fault p.pool (Some l)) (Some l)) (m ∙ f) ∙ e

    update : (l : Label) (items : Items) (o : Option Payload) → l.kind ≡ Update items → made.waiting_of p.pool l ≡ o → option_map turned.Show o ≡ Some t → in_stamp views ≡ false → Gave views p (Some l) t
    update l items None kind at e m = absurd (cc)
    update l items (Some q) kind at e m =
        let w : Found p.pool l q = found p.pool l q at in
        let same : turned.Show q ≡ t = cc in
        let fault : made.link_fault p.pool (Some l) ≡ None = (λ j. made.front_fault p.pool l (kind j)) ∙ ap (made.missing l) at in
        let done : front_answer (made.link_fault p.pool (Some l)) (Some l) ≡ ans.Shown l = ap (λ (o : Option _). front_answer o (Some l)) fault ∙ ap (done_answer l) kind in
        subst (λ (t : Turned). Gave views p (Some l) t) same (record {
          answer = sym (here l (ans.Shown q.label) false m refl (done ∙ ap ans.Shown (sym w.label)));
          waits = λ x same. (let is : q ≡ x = cc in subst (λ (y : Payload). In (all_waiting p.pool) y) is w.there);
        })

    takes : (l : Label) (kind : Kind) → l.kind ≡ kind → made.front_fault p.pool l kind ≡ None → done_answer l kind ≡ ans.Took l → Some (turned.Took l) ≡ Some t → in_stamp views ≡ false → Gave views p (Some l) t
    takes l kind e free took is m =
        let same : turned.Took l ≡ t = cc in
        let fault : made.link_fault p.pool (Some l) ≡ None = (λ j. made.front_fault p.pool l (e j)) ∙ free in
        let done : front_answer (made.link_fault p.pool (Some l)) (Some l) ≡ ans.Took l = ap (λ (o : Option _). front_answer o (Some l)) fault ∙ (ap (done_answer l) e ∙ took) in
        subst (λ (t : Turned). Gave views p (Some l) t) same (record { answer = sym (here l (ans.Took l) false m refl done); waits = λ x same. absurd (cc) })

    kinds : (l : Label) (kind : Kind) → l.kind ≡ kind → made.front_gives p.pool l kind ≡ Some t → in_stamp views ≡ false → Gave views p (Some l) t
    kinds l (Update items) kind e m = update l items (made.waiting_of p.pool l) kind refl e m
    kinds l (Move j) kind e m = takes l (Move j) kind refl refl e m
    kinds l Pulse kind e m = takes l Pulse kind refl refl e m
    kinds l (Close n) kind e m = takes l (Close n) kind refl refl e m

    go : (b : Bool) → in_stamp views ≡ b → (front : Option Label) → (if b then None else made.link_gives p.pool front) ≡ Some t → Gave views p front t
    go true m front e = absurd (cc)
    go false m None e = absurd (cc)
    go false m (Some l) e = kinds l l.kind refl e m

faulty : (f : TurnFault) (front : Option Label) → turn_told (Err f) ≡ front_answer (Some f) front
faulty turn.StampOrder front = refl
faulty turn.Empty front = refl
faulty (turn.NoPayload l) front = refl

telling : (t : Turned) → turn_told (Ok t) ≡ told t
telling (turned.Show q) = refl
telling (turned.Took l) = refl

pub turn-told : (w x : HubSeen) (front : Option Label) (r : Result Turned TurnFault) → w ≡ x → MatchResult r (λ t. made.turn_fault w.views w.proxy front ≡ None) (λ f. made.turn_fault w.views w.proxy front ≡ Some f) → IfOk r (λ t. made.turn_gives w.views w.proxy front ≡ Some t) → turn_told r ≡ turn_answer x.views x.proxy front
turn-told w x front (Ok t) same fault gives = telling t ∙ ((gave w.views w.proxy front t gives).answer ∙ ap (λ (y : HubSeen). turn_answer y.views y.proxy front) same)
turn-told w x front (Err f) same fault gives = faulty f front ∙ (ap (λ (o : Option TurnFault). front_answer o front) (sym fault) ∙ ap (λ (y : HubSeen). turn_answer y.views y.proxy front) same)

-- what a turn shows waits
shows-waits : (views : Epochs) (p : ProxySeen) (front : Option Label) (q : Payload) → made.turn_shows views p front ≡ Some q → In (all_waiting p.pool) q
shows-waits views p front q e = go (in_stamp views) front e
  where
    kinds : (l : Label) (kind : Kind) → made.front_shows p.pool l kind ≡ Some q → In (all_waiting p.pool) q
    kinds l (Update items) e = (found p.pool l q e).there
    kinds l (Move j) e = absurd (cc)
    kinds l Pulse e = absurd (cc)
    kinds l (Close n) e = absurd (cc)

    go : (b : Bool) (front : Option Label) → (if b then None else made.link_shows p.pool front) ≡ Some q → In (all_waiting p.pool) q
    go true front e = absurd (cc)
    go false None e = absurd (cc)
    go false (Some l) e = kinds l l.kind e

pub shows-guest : (w x : HubSeen) (front : Option Label) (q : Payload) → w ≡ x → IsHub w → made.turn_shows x.views x.proxy front ≡ Some q → IsGuest x.shape q
shows-guest w x front q same k e = (subst IsHub same k).proxy.waiting q (shows-waits x.views x.proxy front q e)

pub shown-guest : (w x : HubSeen) (front : Option Label) (r : Option (Bor Payload)) → w ≡ x → IsHub w → option_copied r ≡ made.turn_shows w.views w.proxy front → IfSome r (λ p. IsGuest x.shape p.now)
shown-guest w x front None same k e = tt
shown-guest w x front (Some p) same k e = subst (λ (y : HubSeen). IsGuest y.shape p.now) same (k.proxy.waiting p.now (shows-waits w.views w.proxy front p.now (sym e)))

-- ---- what the payload of a label is, and leaves

pub front-from : (w x : HubSeen) (l : Label) → w ≡ x → IsHub w → IsFront x l → l.point.site < w.proxy.sites
front-from w x l same k f = subst (λ (n : ℕ). l.point.site < n) (sym k.proxy.sites) (subst (λ (y : HubSeen). IsFront y l) (sym same) f).from

pub front-guest : (w x : HubSeen) (l : Label) (o : Option Payload) → w ≡ x → IsHub w → o ≡ made.waiting_of w.proxy.pool l → IfSome o (λ p. IsGuest x.shape p)
front-guest w x l None same k e = tt
front-guest w x l (Some p) same k e = subst (λ (y : HubSeen). IsGuest y.shape p) same (k.proxy.waiting p (found w.proxy.pool l p (sym e)).there)

pub front-after : (w x : HubSeen) (l : Label) (p : ProxySeen) → w ≡ x → p ≡ made.shown_after w.proxy l (made.waiting_of w.proxy.pool l) → record w { proxy = p } ≡ record x { proxy = made.shown_after x.proxy l (made.waiting_of x.proxy.pool l) }
front-after w x l p same e = (λ j. record w { proxy = e j }) ∙ ap (λ (y : HubSeen). record y { proxy = made.shown_after y.proxy l (made.waiting_of y.proxy.pool l) }) same

-- ---- what a turn shows and leaves

-- a payload that a turn gives is shown
gives-shows : (views : Epochs) (p : ProxySeen) (front : Option Label) (q : Payload) → made.turn_gives views p front ≡ Some (turned.Show q) → made.turn_shows views p front ≡ Some q
gives-shows views p front q e = go (in_stamp views) front e
  where
    waits : (o : Option Payload) → option_map turned.Show o ≡ Some (turned.Show q) → o ≡ Some q
    waits None e = absurd (cc)
    waits (Some r) e = let is : r ≡ q = cc in ap Some is

    kinds : (l : Label) (kind : Kind) → made.front_gives p.pool l kind ≡ Some (turned.Show q) → made.front_shows p.pool l kind ≡ Some q
    kinds l (Update items) e = waits (made.waiting_of p.pool l) e
    kinds l (Move j) e = absurd (cc)
    kinds l Pulse e = absurd (cc)
    kinds l (Close n) e = absurd (cc)

    go : (b : Bool) (front : Option Label) → (if b then None else made.link_gives p.pool front) ≡ Some (turned.Show q) → (if b then None else made.link_shows p.pool front) ≡ Some q
    go true front e = absurd (cc)
    go false None e = absurd (cc)
    go false (Some l) e = kinds l l.kind e

-- a label that a turn takes shows nothing
takes-nothing : (views : Epochs) (p : ProxySeen) (front : Option Label) (m : Label) → made.turn_gives views p front ≡ Some (turned.Took m) → made.turn_shows views p front ≡ None
takes-nothing views p front m e = go (in_stamp views) front e
  where
    waits : (o : Option Payload) → option_map turned.Show o ≡ Some (turned.Took m) → o ≡ None
    waits None e = refl
    waits (Some r) e = absurd (cc)

    kinds : (l : Label) (kind : Kind) → made.front_gives p.pool l kind ≡ Some (turned.Took m) → made.front_shows p.pool l kind ≡ None
    kinds l (Update items) e = waits (made.waiting_of p.pool l) e
    kinds l (Move j) e = refl
    kinds l Pulse e = refl
    kinds l (Close n) e = refl

    go : (b : Bool) (front : Option Label) → (if b then None else made.link_gives p.pool front) ≡ Some (turned.Took m) → (if b then None else made.link_shows p.pool front) ≡ None
    go true front e = refl
    go false None e = refl
    go false (Some l) e = kinds l l.kind e

-- a turn that does nothing shows nothing, and leaves all
abbrev leaves : Epochs → ProxySeen → Option Payload → ProxySeen → Epochs → Type 0
leaves views p shows after heard = (shows ≡ None) × (after ≡ p) × (heard ≡ views)

fault-leaves : (views : Epochs) (p : ProxySeen) (front : Option Label) (f : TurnFault) → made.turn_fault views p front ≡ Some f → leaves views p (made.turn_shows views p front) (made.turn_after views p front) (made.turn_views views front)
fault-leaves views p front f e = go (in_stamp views) front e
  where
    missed : (l : Label) (o : Option Payload) → made.missing l o ≡ Some f → leaves views p o (made.shown_after p l o) views
    missed l None e = (refl, refl, refl)
    missed l (Some q) e = absurd (cc)

    kinds : (l : Label) (kind : Kind) → made.front_fault p.pool l kind ≡ Some f → leaves views p (made.front_shows p.pool l kind) (made.front_after p l kind) (made.front_views views l kind)
    kinds l (Update items) e = missed l (made.waiting_of p.pool l) e
    kinds l (Move j) e = absurd (cc)
    kinds l Pulse e = absurd (cc)
    kinds l (Close n) e = absurd (cc)

    go : (b : Bool) (front : Option Label) → (if b then Some turn.StampOrder else made.link_fault p.pool front) ≡ Some f →
        leaves views p (if b then None else made.link_shows p.pool front) (if b then p else made.link_after p front) (if b then views else made.link_views views front)
    go true front e = (refl, refl, refl)
    go false None e = (refl, refl, refl)
    go false (Some l) e = kinds l l.kind e

pub turn-gives : (w x : HubSeen) (front : Option Label) (r : Result Turned TurnFault) → w ≡ x → MatchResult r (λ t. made.turn_fault w.views w.proxy front ≡ None) (λ f. made.turn_fault w.views w.proxy front ≡ Some f) → IfOk r (λ t. made.turn_gives w.views w.proxy front ≡ Some t) → turn_given r ≡ made.turn_shows x.views x.proxy front
turn-gives w x front (Ok (turned.Show q)) same fault gives = sym (gives-shows w.views w.proxy front q gives) ∙ ap (λ (y : HubSeen). made.turn_shows y.views y.proxy front) same
turn-gives w x front (Ok (turned.Took l)) same fault gives = sym (takes-nothing w.views w.proxy front l gives) ∙ ap (λ (y : HubSeen). made.turn_shows y.views y.proxy front) same
turn-gives w x front (Err f) same fault gives = sym (fault-leaves w.views w.proxy front f fault).0 ∙ ap (λ (y : HubSeen). made.turn_shows y.views y.proxy front) same

pub turn-after : (w x : HubSeen) (front : Option Label) (r : Result Turned TurnFault) (views : Epochs) (proxy : ProxySeen) → w ≡ x → MatchResult r (λ t. made.turn_fault w.views w.proxy front ≡ None) (λ f. made.turn_fault w.views w.proxy front ≡ Some f) →
    OnOk r (proxy ≡ made.turn_after w.views w.proxy front) → OnOk r (views ≡ made.turn_views w.views front) → OnErr r (proxy ≡ w.proxy) → OnErr r (views ≡ w.views) → record w { views = views; proxy = proxy } ≡ turned_seen x front
turn-after w x front (Ok t) views proxy same fault new heard err unheard = (λ j. record w { views = heard j; proxy = new j }) ∙ ap (λ (y : HubSeen). turned_seen y front) same
turn-after w x front (Err f) views proxy same fault new heard err unheard =
    let k = fault-leaves w.views w.proxy front f fault in
    (λ j. record w { views = (unheard ∙ sym k.2) j; proxy = (err ∙ sym k.1) j }) ∙ ap (λ (y : HubSeen). turned_seen y front) same

-- ---- what a stamp gives

record StampGave (x : HubSeen) (q : Payload) : Type 0 where
  waits : In (all_waiting x.proxy.pool) q
  answer : ans.Shown q.label ≡ stamp_answer x.views x.proxy

stamp-gave : (x : HubSeen) (q : Payload) → IsHub x → made.stamp_shows x.views x.proxy ≡ Some q → StampGave x q
stamp-gave x q k e = go (in_stamp x.views) refl e
  where
    by : (o : Option Label) → made.stamp_label x.views x.proxy ≡ o → made.payload_at x.proxy.pool o ≡ Some q → in_stamp x.views ≡ true → StampGave x q
    by None at e m = absurd (cc)
    by (Some l) at e m =
        let n : Next x.views x.proxy l = next-payload x.views x.proxy l k.proxy.sound at in
        let both : Some n.payload ≡ Some q = sym n.found ∙ e in
        let same : n.payload ≡ q = cc in
        record {
          waits = subst (λ (y : Payload). In (all_waiting x.proxy.pool) y) same n.there;
          answer =
              ap ans.Shown (ap (λ (y : Payload). y.label) (sym same) ∙ n.label) ∙
              ((λ j. next_answer (made.not_yet (sym at j)) (sym at j)) ∙
              ap (λ (c : Bool). next_answer (if c then made.not_yet (made.stamp_label x.views x.proxy) else Some stamp.TreeOrder) (made.stamp_label x.views x.proxy)) (sym m));
        }

    go : (b : Bool) → in_stamp x.views ≡ b → (if b then made.payload_at x.proxy.pool (made.stamp_label x.views x.proxy) else None) ≡ Some q → StampGave x q
    go true m e = by (made.stamp_label x.views x.proxy) refl e m
    go false m e = absurd (cc)

pub stamps-guest : (w x : HubSeen) (q : Payload) → w ≡ x → IsHub w → made.stamp_shows x.views x.proxy ≡ Some q → IsGuest x.shape q
stamps-guest w x q same k e = let n : IsHub x = subst IsHub same k in n.proxy.waiting q (stamp-gave x q n e).waits

pub next-guest : (w x : HubSeen) (r : Option (Bor Payload)) → w ≡ x → IsHub w → option_copied r ≡ made.stamp_shows w.views w.proxy → IfSome r (λ p. IsGuest x.shape p.now)
next-guest w x None same k e = tt
next-guest w x (Some p) same k e = subst (λ (y : HubSeen). IsGuest y.shape p.now) same (k.proxy.waiting p.now (stamp-gave w p.now k (sym e)).waits)

pub stamp-ok : (w x : HubSeen) (r : Result Payload StampFault) → w ≡ x → IsHub w → IfOk r (λ q. made.stamp_shows w.views w.proxy ≡ Some q) → IfOk r (λ q. IsGuest x.shape q)
stamp-ok w x (Ok q) same k e = stamps-guest w x q same k (ap (λ (y : HubSeen). made.stamp_shows y.views y.proxy) (sym same) ∙ e)
stamp-ok w x (Err f) same k e = tt

unstamped : (f : StampFault) (o : Option Label) → stamp_told (Err f) ≡ next_answer (Some f) o
unstamped stamp.TreeOrder o = refl
unstamped stamp.NotYet o = refl

pub stamp-told : (w x : HubSeen) (r : Result Payload StampFault) → w ≡ x → IsHub w → MatchResult r (λ q. made.stamp_fault w.views w.proxy ≡ None) (λ f. made.stamp_fault w.views w.proxy ≡ Some f) → IfOk r (λ q. made.stamp_shows w.views w.proxy ≡ Some q) → stamp_told r ≡ stamp_answer x.views x.proxy
stamp-told w x (Ok q) same k fault shown = (stamp-gave w q k shown).answer ∙ ap (λ (y : HubSeen). stamp_answer y.views y.proxy) same
stamp-told w x (Err f) same k fault shown =
    unstamped f (made.stamp_label w.views w.proxy) ∙ (ap (λ (o : Option StampFault). next_answer o (made.stamp_label w.views w.proxy)) (sym fault) ∙ ap (λ (y : HubSeen). stamp_answer y.views y.proxy) same)

stamps-nothing : (views : Epochs) (p : ProxySeen) (f : StampFault) → made.stamp_fault views p ≡ Some f → made.stamp_shows views p ≡ None
stamps-nothing views p f e = go (in_stamp views) (made.stamp_label views p) e
  where
    go : (b : Bool) (o : Option Label) → (if b then made.not_yet o else Some stamp.TreeOrder) ≡ Some f → (if b then made.payload_at p.pool o else None) ≡ None
    go true None e = refl
    go true (Some l) e = absurd (cc)
    go false o e = refl

pub stamp-gives : (w x : HubSeen) (r : Result Payload StampFault) → w ≡ x → MatchResult r (λ q. made.stamp_fault w.views w.proxy ≡ None) (λ f. made.stamp_fault w.views w.proxy ≡ Some f) → IfOk r (λ q. made.stamp_shows w.views w.proxy ≡ Some q) → stamp_given r ≡ made.stamp_shows x.views x.proxy
stamp-gives w x (Ok q) same fault shown = sym shown ∙ ap (λ (y : HubSeen). made.stamp_shows y.views y.proxy) same
stamp-gives w x (Err f) same fault shown = sym (stamps-nothing w.views w.proxy f fault) ∙ ap (λ (y : HubSeen). made.stamp_shows y.views y.proxy) same

pub stamp-after : (w x : HubSeen) (r : Result Payload StampFault) (proxy : ProxySeen) → w ≡ x → MatchResult r (λ q. made.stamp_fault w.views w.proxy ≡ None) (λ f. made.stamp_fault w.views w.proxy ≡ Some f) → OnOk r (proxy ≡ made.stamp_after w.views w.proxy) → OnErr r (proxy ≡ w.proxy) → record w { proxy = proxy } ≡ stamped x
stamp-after w x (Ok q) proxy same fault new err = (λ j. record w { proxy = new j }) ∙ ap stamped same
stamp-after w x (Err f) proxy same fault new err =
    let still : made.stamp_after w.views w.proxy ≡ w.proxy = ap (made.left_after w.proxy) (stamps-nothing w.views w.proxy f fault) in
    (λ j. record w { proxy = (err ∙ sym still) j }) ∙ ap stamped same
