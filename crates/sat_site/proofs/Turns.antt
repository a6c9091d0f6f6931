-- A turn, and the next update in timestamp order.
use Rattle.std.specs.Prelude.{◌≡◌, ◌<◌, ℕ, Bool, true, false, Option, Some, None, if◌then◌else◌, refl}
use Rattle.std.proofs.Common.{subst, ap, sym, ◌∙◌}
use Rattle.sat_label.specs.declared.label.Label.{Label}
use Rattle.sat_label.specs.declared.items.Items.{Items}
use Rattle.sat_label.specs.declared.label.Kind.{Kind}
use Rattle.sat_label.specs.declared.label.Kind.TheVariants.{Update, Move, Pulse, Close}
use Rattle.sat_label.specs.Members.{In}
use Rattle.sat_bulk.specs.Payloads.{Payload}
use Rattle.sat_pool.specs.Pool.{all_waiting, waiting_at}
use Rattle.sat_epoch.specs.Epochs.{in_stamp}
use Rattle.sat_act.specs.declared.answer.Answer.TheVariants as ans
use Rattle.sat_act.specs.declared.answer.Answer.{Answer}
use Rattle.sat_act.specs.declared.answer.Refusal.TheVariants as why
use Rattle.sat_act.specs.Deployed.{Deployed}
use Rattle.sat_act.specs.Settling.{is_done}
use Rattle.sat_model.specs.Input as given
use Rattle.sat_model.specs.State.{SiteState}
use Rattle.sat_model.specs.Next.{proxy_next, site_next, views_next}
use Rattle.sat_proxy.specs.Steps as made
use Rattle.sat_proxy.specs.Answers.{done_answer, front_answer, next_answer, turn_answer, stamp_answer}
use Rattle.sat_proxy.specs.Stands.{StandsProxy}
use Rattle.sat_proxy.specs.declared.proxy.TurnFault.TheVariants as turn
use Rattle.sat_proxy.specs.declared.proxy.StampFault.TheVariants as stamp
use Rattle.sat_site.specs.Seen.{SiteSeen, IsSite}
use Rattle.sat_site.specs.Stands.{StandsSite, StandsViews}
use Rattle.sat_site.specs.Inputs.{IsFront}
use Rattle.sat_site.specs.SiteSteps.{show_some, turned_after, stamped_after}
use Rattle.sat_site.specs.Gives.{label_sent}
use Rattle.sat_hub.proofs.Waits.{Found, found, Next, next-payload}
use Rattle.sat_site.proofs.Epochs.{took-views}
use Rattle.sat_site.proofs.Shows.{shown-stands}
use Rattle.sat_site.proofs.Still.{refuses}

-- ---- a turn

took-rest : (d : Deployed) (i : ℕ) (x : SiteSeen) (s : SiteState) (l : Label) (kind : Kind) → l.kind ≡ kind → done_answer l kind ≡ ans.Took l → StandsSite d i x s → l.point.site < x.shape.sites → IsSite x → ((e : ℕ) → kind ≡ Close e → e ≡ x.views.view) →
    StandsProxy (made.knowing x.proxy l) (proxy_next d i s (given.Turn (Some l)) (ans.Took l)) → StandsSite d i (record x { views = made.front_views x.views l kind; proxy = made.knowing x.proxy l }) (site_next d i s (given.Turn (Some l)) (ans.Took l))
unfolding site_next
took-rest d i x s l kind e took st lt k now proxy = record {
  shape = st.shape;
  gears = st.gears;
  sink = st.sink;
  views = subst (λ (r : Answer). StandsViews d i (made.front_views x.views l kind) (views_next s.views r)) took (took-views d i x.views s.views l kind e (subst (λ (n : ℕ). l.point.site < n) (sym k.views.heard) lt) now st.views);
  proxy = proxy;
  store = st.store;
  made = st.made;
}

abbrev turn_stands : Deployed → ℕ → SiteSeen → SiteState → Option Label → Type 0
turn_stands d i x s front = StandsProxy (made.turn_after x.views x.proxy front) (proxy_next d i s (given.Turn front) (turn_answer x.views x.proxy front)) → StandsSite d i (turned_after x front) (site_next d i s (given.Turn front) (turn_answer x.views x.proxy front))

pub turns-stand : (d : Deployed) (i : ℕ) (x : SiteSeen) (s : SiteState) (front : Option Label) → IsSite x → ((l : Label) → front ≡ Some l → IsFront x l) → StandsSite d i x s → turn_stands d i x s front
turns-stand d i x s front k f st = go front f (in_stamp x.views)
  where
    by_mode : Option Label → Bool → Type 0
    by_mode front b =
        StandsProxy (if b then x.proxy else made.link_after x.proxy front) (proxy_next d i s (given.Turn front) (front_answer (if b then Some turn.StampOrder else made.link_fault x.proxy.pool front) front)) →
        StandsSite d i (show_some (record x { views = if b then x.views else made.link_views x.views front; proxy = if b then x.proxy else made.link_after x.proxy front }) (if b then None else made.link_shows x.proxy.pool front))
        (site_next d i s (given.Turn front) (front_answer (if b then Some turn.StampOrder else made.link_fault x.proxy.pool front) front))

    update : (l : Label) (items : Items) (o : Option Payload) → l.kind ≡ Update items → made.waiting_of x.proxy.pool l ≡ o →
        StandsProxy (made.shown_after x.proxy l o) (proxy_next d i s (given.Turn (Some l)) (front_answer (made.missing l o) (Some l))) →
        StandsSite d i (show_some (record x { proxy = made.shown_after x.proxy l o }) o) (site_next d i s (given.Turn (Some l)) (front_answer (made.missing l o) (Some l)))
    update l items None e at proxy = refuses d i x s (given.Turn (Some l)) (why.NoPayload l) st
    update l items (Some p) e at proxy =
        let w : Found x.proxy.pool l p = found x.proxy.pool l p at in
        let done : done_answer l l.kind ≡ ans.Shown l = ap (done_answer l) e in
        subst (λ (r : Answer). StandsSite d i (show_some (record x { proxy = made.showing x.proxy l }) (Some p)) (site_next d i s (given.Turn (Some l)) r)) (sym done)
        (subst (λ (m : Label). StandsSite d i (show_some (record x { proxy = made.showing x.proxy l }) (Some p)) (site_next d i s (given.Turn (Some l)) (ans.Shown m))) w.label
        (shown-stands d i x s p (given.Turn (Some l)) x.views (made.showing x.proxy l) k w.there st st.views
        (subst (λ (m : Label). StandsProxy (made.showing x.proxy l) (proxy_next d i s (given.Turn (Some l)) (ans.Shown m))) (sym w.label) (subst (λ (r : Answer). StandsProxy (made.showing x.proxy l) (proxy_next d i s (given.Turn (Some l)) r)) done proxy))))

    takes : (l : Label) (kind : Kind) → l.kind ≡ kind → done_answer l kind ≡ ans.Took l → IsFront x l → StandsProxy (made.knowing x.proxy l) (proxy_next d i s (given.Turn (Some l)) (done_answer l l.kind)) →
        StandsSite d i (record x { views = made.front_views x.views l kind; proxy = made.knowing x.proxy l }) (site_next d i s (given.Turn (Some l)) (done_answer l l.kind))
    takes l kind e took front proxy =
        let done : done_answer l l.kind ≡ ans.Took l = ap (done_answer l) e ∙ took in
        subst (λ (r : Answer). StandsSite d i (record x { views = made.front_views x.views l kind; proxy = made.knowing x.proxy l }) (site_next d i s (given.Turn (Some l)) r)) (sym done)
        (took-rest d i x s l kind e took st front.from k (λ n same. front.close n (e ∙ same)) (subst (λ (r : Answer). StandsProxy (made.knowing x.proxy l) (proxy_next d i s (given.Turn (Some l)) r)) done proxy))

    other : (l : Label) (kind : Kind) → l.kind ≡ kind → IsFront x l →
        StandsProxy (made.front_after x.proxy l kind) (proxy_next d i s (given.Turn (Some l)) (front_answer (made.front_fault x.proxy.pool l kind) (Some l))) →
        StandsSite d i (show_some (record x { views = made.front_views x.views l kind; proxy = made.front_after x.proxy l kind }) (made.front_shows x.proxy.pool l kind)) (site_next d i s (given.Turn (Some l)) (front_answer (made.front_fault x.proxy.pool l kind) (Some l)))
    other l (Update items) e front proxy = update l items (made.waiting_of x.proxy.pool l) e refl proxy
    other l (Move n) e front proxy = takes l (Move n) e refl front proxy
    other l Pulse e front proxy = takes l Pulse e refl front proxy
    other l (Close n) e front proxy = takes l (Close n) e refl front proxy

    go : (front : Option Label) → ((l : Label) → front ≡ Some l → IsFront x l) → (b : Bool) → by_mode front b
    go front f true proxy = refuses d i x s (given.Turn front) why.StampOrder st
    go None f false proxy = refuses d i x s (given.Turn None) why.Empty st
    go (Some l) f false proxy = other l l.kind refl (f l refl) proxy

-- ---- what a turn answers, and that it changes nothing where it is refused

pub turn-quiet : (x : SiteSeen) (front : Option Label) → label_sent (turn_answer x.views x.proxy front) ≡ None
turn-quiet x front = go (in_stamp x.views) front
  where
    kinds : (l : Label) (kind : Kind) → label_sent (done_answer l kind) ≡ None
    kinds l (Update items) = refl
    kinds l (Move n) = refl
    kinds l Pulse = refl
    kinds l (Close n) = refl

    missed : (l : Label) (o : Option Payload) → label_sent (front_answer (made.missing l o) (Some l)) ≡ None
    missed l None = refl
    missed l (Some p) = kinds l l.kind

    by : (l : Label) (kind : Kind) → label_sent (front_answer (made.front_fault x.proxy.pool l kind) (Some l)) ≡ None
    by l (Update items) = missed l (made.waiting_of x.proxy.pool l)
    by l (Move n) = kinds l l.kind
    by l Pulse = kinds l l.kind
    by l (Close n) = kinds l l.kind

    go : (b : Bool) (front : Option Label) → label_sent (front_answer (if b then Some turn.StampOrder else made.link_fault x.proxy.pool front) front) ≡ None
    go true front = refl
    go false None = refl
    go false (Some l) = by l l.kind

pub turn-refused : (x : SiteSeen) (front : Option Label) → is_done (turn_answer x.views x.proxy front) ≡ false → turned_after x front ≡ x
turn-refused x front = go (in_stamp x.views) front
  where
    kinds : (l : Label) (kind : Kind) → is_done (done_answer l kind) ≡ false → ⊥
    kinds l (Update items) e = cc
    kinds l (Move n) e = cc
    kinds l Pulse e = cc
    kinds l (Close n) e = cc

    missed : (l : Label) (o : Option Payload) → is_done (front_answer (made.missing l o) (Some l)) ≡ false → show_some (record x { proxy = made.shown_after x.proxy l o }) o ≡ x
    missed l None e = refl
    missed l (Some p) e = absurd (kinds l l.kind e)

    by : (l : Label) (kind : Kind) → is_done (front_answer (made.front_fault x.proxy.pool l kind) (Some l)) ≡ false →
        show_some (record x { views = made.front_views x.views l kind; proxy = made.front_after x.proxy l kind }) (made.front_shows x.proxy.pool l kind) ≡ x
    by l (Update items) e = missed l (made.waiting_of x.proxy.pool l) e
    by l (Move n) e = absurd (kinds l l.kind e)
    by l Pulse e = absurd (kinds l l.kind e)
    by l (Close n) e = absurd (kinds l l.kind e)

    go : (b : Bool) (front : Option Label) → is_done (front_answer (if b then Some turn.StampOrder else made.link_fault x.proxy.pool front) front) ≡ false →
        show_some (record x { views = if b then x.views else made.link_views x.views front; proxy = if b then x.proxy else made.link_after x.proxy front }) (if b then None else made.link_shows x.proxy.pool front) ≡ x
    go true front e = refl
    go false None e = refl
    go false (Some l) e = by l l.kind e

-- ---- the next update in timestamp order

abbrev stamp_stands : Deployed → ℕ → SiteSeen → SiteState → Type 0
stamp_stands d i x s = StandsProxy (made.stamp_after x.views x.proxy) (proxy_next d i s given.Stamp (stamp_answer x.views x.proxy)) → StandsSite d i (stamped_after x) (site_next d i s given.Stamp (stamp_answer x.views x.proxy))

pub stamps-stand : (d : Deployed) (i : ℕ) (x : SiteSeen) (s : SiteState) → IsSite x → StandsSite d i x s → stamp_stands d i x s
stamps-stand d i x s k st = go (in_stamp x.views)
  where
    payload : (l : Label) (o : Option Payload) → waiting_at x.proxy.pool l.point ≡ o → Next x.views x.proxy l →
        StandsProxy (made.left_after x.proxy o) (proxy_next d i s given.Stamp (ans.Shown l)) → StandsSite d i (show_some (record x { proxy = made.left_after x.proxy o }) o) (site_next d i s given.Stamp (ans.Shown l))
    payload l None at n proxy = absurd (let clash : Some n.payload ≡ None = sym n.found ∙ at in cc)
    payload l (Some p) at n proxy =
        let both : Some n.payload ≡ Some p = sym n.found ∙ at in
        let same : n.payload ≡ p = cc in
        let label : p.label ≡ l = ap (λ (q : Payload). q.label) (sym same) ∙ n.label in
        subst (λ (m : Label). StandsSite d i (show_some (record x { proxy = made.left_after x.proxy (Some p) }) (Some p)) (site_next d i s given.Stamp (ans.Shown m))) label
        (shown-stands d i x s p given.Stamp x.views (made.left_after x.proxy (Some p)) k (subst (λ (q : Payload). In (all_waiting x.proxy.pool) q) same n.there) st st.views
        (subst (λ (m : Label). StandsProxy (made.left_after x.proxy (Some p)) (proxy_next d i s given.Stamp (ans.Shown m))) (sym label) proxy))

    label : (o : Option Label) → made.stamp_label x.views x.proxy ≡ o →
        StandsProxy (made.left_after x.proxy (made.payload_at x.proxy.pool o)) (proxy_next d i s given.Stamp (next_answer (made.not_yet o) o)) →
        StandsSite d i (show_some (record x { proxy = made.left_after x.proxy (made.payload_at x.proxy.pool o) }) (made.payload_at x.proxy.pool o)) (site_next d i s given.Stamp (next_answer (made.not_yet o) o))
    label None e proxy = refuses d i x s given.Stamp why.NotYet st
    label (Some l) e proxy = payload l (waiting_at x.proxy.pool l.point) refl (next-payload x.views x.proxy l k.proxy.sound e) proxy

    go : (b : Bool) →
        StandsProxy (made.left_after x.proxy (if b then made.payload_at x.proxy.pool (made.stamp_label x.views x.proxy) else None)) (proxy_next d i s given.Stamp (next_answer (if b then made.not_yet (made.stamp_label x.views x.proxy) else Some stamp.TreeOrder) (made.stamp_label x.views x.proxy))) →
        StandsSite d i (show_some (record x { proxy = made.left_after x.proxy (if b then made.payload_at x.proxy.pool (made.stamp_label x.views x.proxy) else None) }) (if b then made.payload_at x.proxy.pool (made.stamp_label x.views x.proxy) else None))
        (site_next d i s given.Stamp (next_answer (if b then made.not_yet (made.stamp_label x.views x.proxy) else Some stamp.TreeOrder) (made.stamp_label x.views x.proxy)))
    go true proxy = label (made.stamp_label x.views x.proxy) refl proxy
    go false proxy = refuses d i x s given.Stamp why.TreeOrder st

pub stamp-quiet : (x : SiteSeen) → label_sent (stamp_answer x.views x.proxy) ≡ None
stamp-quiet x = go (in_stamp x.views) (made.stamp_label x.views x.proxy)
  where
    go : (b : Bool) (o : Option Label) → label_sent (next_answer (if b then made.not_yet o else Some stamp.TreeOrder) o) ≡ None
    go true None = refl
    go true (Some l) = refl
    go false o = refl

pub stamp-refused : (x : SiteSeen) → is_done (stamp_answer x.views x.proxy) ≡ false → stamped_after x ≡ x
stamp-refused x = go (in_stamp x.views) (made.stamp_label x.views x.proxy)
  where
    go : (b : Bool) (o : Option Label) → is_done (next_answer (if b then made.not_yet o else Some stamp.TreeOrder) o) ≡ false →
        show_some (record x { proxy = made.left_after x.proxy (if b then made.payload_at x.proxy.pool o else None) }) (if b then made.payload_at x.proxy.pool o else None) ≡ x
    go true None e = refl
    go true (Some l) e = absurd (cc)
    go false o e = refl
