-- Labels of the link to a site that are turned one after another.
use Rattle.std.specs.Prelude.{◌≡◌, ◌≤◌, ◌<◌, ◌+◌, ◌==◌, ℕ, zero, suc, Bool, true, false, List, [], ◌∷◌, length, drop, slice_get, Option, Some, None, is_some, IfSome, if◌then◌else◌, refl}
use Rattle.std.proofs.Common.{subst, ap, sym, ◌∙◌, arith}
use Rattle.std.proofs.lemmas.List.{drop-drop}
use Rattle.sat_label.specs.declared.label.Label.{Label}
use Rattle.sat_label.specs.declared.items.Items.{Items}
use Rattle.sat_label.specs.declared.label.Kind.{Kind}
use Rattle.sat_label.specs.declared.label.Kind.TheVariants.{Update, Move, Pulse, Close}
use Rattle.sat_label.specs.Grouped.{list_of}
use Rattle.sat_label.specs.Members.{In}
use Rattle.sat_label.proofs.Members.{In-get}
use Rattle.sat_bulk.specs.Payloads.{Payload}
use Rattle.sat_epoch.specs.Epochs.{Epochs, in_stamp}
use Rattle.sat_sites.specs.Interested.{AreBelow}
use Rattle.sat_sites.specs.declared.shape.Shape.{Shape}
use Rattle.sat_act.specs.declared.answer.Answer.{Answer}
use Rattle.sat_act.specs.declared.answer.Answer.TheVariants as ans
use Rattle.sat_act.specs.declared.answer.Refusal.TheVariants as why
use Rattle.sat_act.specs.Settling.{is_done}
use Rattle.sat_gear.specs.Gear.{GearSeen}
use Rattle.sat_proxy.specs.Proxy.{ProxySeen}
use Rattle.sat_proxy.specs.Steps as made
use Rattle.sat_proxy.specs.Answers.{done_answer, front_answer, turn_answer}
use Rattle.sat_proxy.specs.declared.proxy.TurnFault.TheVariants as turn
use Rattle.sat_hub.specs.Seen.{HubSeen}
use Rattle.sat_hub.proofs.Waits.{found}
use Rattle.sat_site.specs.Seen.{SiteSeen, IsGuest, IsSite, site_of}
use Rattle.sat_site.specs.Inputs.{IsFront}
use Rattle.sat_site.specs.SiteSteps.{show_some, shown_of, shown_parts, turned, turned_after}
use Rattle.sat_site.specs.Turns.{TurnsOn, none, more, shown_more}
use Rattle.sat_site.proofs.Taken.{guest-count, guest-items}
use Rattle.sat_site.proofs.Turns.{turn-refused}

-- ---- what stays through a turn

-- that a label is a front depends on these alone
pub record Keeps (x y : SiteSeen) : Type 0 where
  pub shape : y.shape ≡ x.shape
  pub view : y.views.view ≡ x.views.view
  pub mode : in_stamp y.views ≡ in_stamp x.views

pub keeps-front : (x y : SiteSeen) (l : Label) → Keeps x y → IsFront x l → IsFront y l
keeps-front x y l k f = record {
  from = subst (λ (s : Shape). l.point.site < s.sites) (sym k.shape) f.from;
  other = ap (λ (s : Shape). l.point.site == s.site) k.shape ∙ f.other;
  close = λ e is. f.close e is ∙ sym k.view;
}

keeps-both : (x y z : SiteSeen) → Keeps x y → Keeps y z → Keeps x z
keeps-both x y z f g = record { shape = g.shape ∙ f.shape; view = g.view ∙ f.view; mode = g.mode ∙ f.mode }

shows-keep : (x y : SiteSeen) (o : Option Payload) → Keeps x y → Keeps x (show_some y o)
shows-keep x y None k = k
shows-keep x y (Some p) k = kinds p.label.kind
  where
    kinds : (kind : Kind) → Keeps x (shown_of y p kind)
    kinds (Update items) = record { shape = k.shape; view = k.view; mode = k.mode }
    kinds (Move j) = k
    kinds Pulse = k
    kinds (Close e) = k

abbrev SameViews : Epochs → Epochs → Type 0
SameViews v w = (w.view ≡ v.view) × (in_stamp w ≡ in_stamp v)

views-keep : (v : Epochs) (front : Option Label) → SameViews v (made.turn_views v front)
views-keep v front = go (in_stamp v) front
  where
    kinds : (l : Label) (kind : Kind) → SameViews v (made.front_views v l kind)
    kinds l (Update items) = (refl, refl)
    kinds l (Move j) = (refl, refl)
    kinds l Pulse = (refl, refl)
    kinds l (Close e) = (refl, refl)

    go : (b : Bool) (front : Option Label) → SameViews v (if b then v else made.link_views v front)
    go true front = (refl, refl)
    go false None = (refl, refl)
    go false (Some l) = kinds l l.kind

turned-keeps : (x : SiteSeen) (front : Option Label) → Keeps x (turned_after x front)
turned-keeps x front =
    let w : SameViews x.views (made.turn_views x.views front) = views-keep x.views front in
    shows-keep x (turned x front) (made.turn_shows x.views x.proxy front) (record { shape = refl; view = w.0; mode = w.1 })

pub turns-keep : (x : SiteSeen) (ls : List Label) (k m : ℕ) (y : SiteSeen) → TurnsOn x ls k m y → Keeps x y
turns-keep x ls _ _ _ none = record { shape = refl; view = refl; mode = refl }
turns-keep x ls _ _ _ (more k m y l t s at d) = keeps-both x y (turned_after y (Some l)) (turns-keep x ls k m y t) (turned-keeps y (Some l))

-- ---- how many showed an update

shows-one : (r : Answer) (m : ℕ) → shown_more r m ≤ m + 1
shows-one (ans.Shown l) m = omega arith
shows-one r m = omega arith

pub turns-count : (x : SiteSeen) (ls : List Label) (k m : ℕ) (y : SiteSeen) → TurnsOn x ls k m y → m ≤ k
turns-count x ls _ _ _ none = omega arith
turns-count x ls _ _ _ (more k m y l t s at d) = omega (arith, shows-one (turn_answer y.views y.proxy (Some l)) m, turns-count x ls k m y t)

-- ---- a label of an update, by whether its payload waits

abbrev update_answer : Label → Option Payload → Answer
update_answer l None = ans.Refused (why.NoPayload l)
update_answer l (Some p) = ans.Shown l

update-is : (v : Epochs) (p : ProxySeen) (l : Label) (items : Items) → in_stamp v ≡ false → l.kind ≡ Update items → turn_answer v p (Some l) ≡ update_answer l (made.waiting_of p.pool l)
update-is v p l items tree kind = (λ j. front_answer (if tree j then Some turn.StampOrder else made.front_fault p.pool l (kind j)) (Some l)) ∙ go (made.waiting_of p.pool l)
  where
    go : (o : Option Payload) → front_answer (made.missing l o) (Some l) ≡ update_answer l o
    go None = refl
    go (Some q) = ap (done_answer l) kind

update-after : (x : SiteSeen) (l : Label) (items : Items) (o : Option Payload) → in_stamp x.views ≡ false → l.kind ≡ Update items → made.waiting_of x.proxy.pool l ≡ o → turned_after x (Some l) ≡ show_some (record x { proxy = made.shown_after x.proxy l o }) o
update-after x l items o tree kind at =
    (λ j. show_some (record x { views = if tree j then x.views else made.front_views x.views l (kind j); proxy = if tree j then x.proxy else made.front_after x.proxy l (kind j) }) (if tree j then None else made.front_shows x.proxy.pool l (kind j))) ∙
    (λ j. show_some (record x { proxy = made.shown_after x.proxy l (at j) }) (at j))

pub update-shown : (x : SiteSeen) (l : Label) (items : Items) (b : Bool) (m : ℕ) → in_stamp x.views ≡ false → l.kind ≡ Update items → b ≡ is_some (made.waiting_of x.proxy.pool l) → b ≡ true → m + 1 ≡ shown_more (turn_answer x.views x.proxy (Some l)) m
update-shown x l items b m tree kind waits e = go (made.waiting_of x.proxy.pool l) (sym waits ∙ e) ∙ ap (λ (r : Answer). shown_more r m) (sym (update-is x.views x.proxy l items tree kind))
  where
    go : (o : Option Payload) → is_some o ≡ true → m + 1 ≡ shown_more (update_answer l o) m
    go None e = absurd (cc)
    go (Some q) e = refl

-- the hub h of the site gave o, and is then n
abbrev Gives : HubSeen → HubSeen → Label → Option Payload → Type 0
Gives h n l o = (o ≡ made.waiting_of h.proxy.pool l) × (n ≡ record h { proxy = made.shown_after h.proxy l (made.waiting_of h.proxy.pool l) })

show-after : (h n : HubSeen) (gears : List GearSeen) (x y : SiteSeen) (l : Label) (items : Items) (o p : Option Payload) → site_of h gears ≡ x → in_stamp x.views ≡ false → l.kind ≡ Update items → Gives h n l o → o ≡ p → y ≡ show_some (site_of n gears) p → y ≡ turned_after x (Some l)
show-after h n gears x y l items o p same tree kind gives e is =
    is ∙ ((λ j. show_some (site_of (gives.1 j) gears) ((sym e ∙ gives.0) j)) ∙
    (ap (λ (z : SiteSeen). show_some (record z { proxy = made.shown_after z.proxy l (made.waiting_of z.proxy.pool l) }) (made.waiting_of z.proxy.pool l)) same ∙
    sym (update-after x l items (made.waiting_of x.proxy.pool l) tree kind refl)))

given-label : (h n : HubSeen) (l : Label) (o : Option Payload) (q : Payload) → Gives h n l o → o ≡ Some q → q.label ≡ l
given-label h n l o q gives e = (found h.proxy.pool l q (sym gives.0 ∙ e)).label

pub show-some : (h n : HubSeen) (gears : List GearSeen) (x y : SiteSeen) (l : Label) (items : Items) (o : Option Payload) (q : Payload) → site_of h gears ≡ x → in_stamp x.views ≡ false → l.kind ≡ Update items → Gives h n l o → o ≡ Some q → y ≡ shown_parts (site_of n gears) q.label items q.values → y ≡ turned_after x (Some l)
show-some h n gears x y l items o q same tree kind gives e is =
    let update : q.label.kind ≡ Update items = ap (λ (m : Label). m.kind) (given-label h n l o q gives e) ∙ kind in
    show-after h n gears x y l items o (Some q) same tree kind gives e (is ∙ ap (shown_of (site_of n gears) q) (sym update))

show-guest : (h n : HubSeen) (l : Label) (o : Option Payload) (q : Payload) → IfSome o (λ p. IsGuest h.shape p) → Gives h n l o → o ≡ Some q → IsGuest n.shape q
show-guest h n l o q guest gives e = subst (λ (m : HubSeen). IsGuest m.shape q) (sym gives.1) (subst (λ (o : Option Payload). IfSome o (λ p. IsGuest h.shape p)) e guest)

pub show-items : (h n : HubSeen) (l : Label) (items : Items) (o : Option Payload) (q : Payload) → IfSome o (λ p. IsGuest h.shape p) → Gives h n l o → l.kind ≡ Update items → o ≡ Some q → AreBelow (length n.shape.interest.replicas) (list_of items)
show-items h n l items o q guest gives kind e = guest-items n.shape q l items (show-guest h n l o q guest gives e) (sym (given-label h n l o q gives e)) kind

pub show-count : (h n : HubSeen) (l : Label) (items : Items) (o : Option Payload) (q : Payload) → IfSome o (λ p. IsGuest h.shape p) → Gives h n l o → l.kind ≡ Update items → o ≡ Some q → length q.values ≡ length (list_of items)
show-count h n l items o q guest gives kind e = guest-count n.shape q q l items (show-guest h n l o q guest gives e) (sym (given-label h n l o q gives e)) refl kind

-- ---- where no label is left

pub empty-refused : (v : Epochs) (p : ProxySeen) (o : Option Label) → o ≡ None → is_done (turn_answer v p o) ≡ false
empty-refused v p o e = ap (λ (o : Option Label). is_done (turn_answer v p o)) e ∙ go (in_stamp v)
  where
    go : (b : Bool) → is_done (front_answer (if b then Some turn.StampOrder else Some turn.Empty) None) ≡ false
    go true = refl
    go false = refl

-- ---- the queue, of which the first k labels were taken out

at-drop : (ls : List Label) (k : ℕ) → slice_get (drop k ls) 0 ≡ slice_get ls k
at-drop ls zero = refl
at-drop [] (suc k) = refl
at-drop (l ∷ ls) (suc k) = at-drop ls k

pub front-at : (ls now : List Label) (k : ℕ) (o p : Option Label) → now ≡ drop k ls → o ≡ slice_get now 0 → o ≡ p → slice_get ls k ≡ p
front-at ls now k o p left e is = sym (e ∙ (ap (λ (m : List Label). slice_get m 0) left ∙ at-drop ls k)) ∙ is

pub front-keeps : (x y : SiteSeen) (ls now : List Label) (k m : ℕ) (l : Label) (o : Option Label) → TurnsOn x ls k m y → ((l : Label) → In ls l → IsFront x l) → now ≡ drop k ls → o ≡ slice_get now 0 → o ≡ Some l → IsFront y l
front-keeps x y ls now k m l o t fronts left e is = keeps-front x y l (turns-keep x ls k m y t) (fronts l (In-get ls k l (front-at ls now k o (Some l) left e is)))

pub mode-keeps : (x y : SiteSeen) (ls : List Label) (k m : ℕ) → TurnsOn x ls k m y → in_stamp x.views ≡ false → in_stamp y.views ≡ false
mode-keeps x y ls k m t tree = (turns-keep x ls k m y t).mode ∙ tree

pub left-more : (ls now after : List Label) (k : ℕ) → now ≡ drop k ls → after ≡ drop 1 now → after ≡ drop (k + 1) ls
left-more ls now after k left e = e ∙ (ap (drop 1) left ∙ drop-drop 1 k ls)

slice-end : (ls : List Label) → slice_get ls (length ls) ≡ None
slice-end [] = refl
slice-end (l ∷ ls) = slice-end ls

pub all-refused : (v : Epochs) (p : ProxySeen) (ls : List Label) (n : ℕ) → n ≡ length ls → is_done (turn_answer v p (slice_get ls n)) ≡ false
all-refused v p ls n e = empty-refused v p (slice_get ls n) (ap (λ (m : ℕ). slice_get ls m) e ∙ slice-end ls)

-- ---- one label more

-- what one turn of a label tells
abbrev Tells : SiteSeen → SiteSeen → Label → ℕ → Option ℕ → Type 0
Tells y z l m r =
    (is_some r ≡ is_done (turn_answer y.views y.proxy (Some l))) × IfSome r (λ n. n ≡ shown_more (turn_answer y.views y.proxy (Some l)) m) × (z ≡ turned_after y (Some l))

pub turns-go : (x y z : SiteSeen) (ls : List Label) (k m n : ℕ) (l : Label) (r : Option ℕ) → TurnsOn x ls k m y → IsSite y → slice_get ls k ≡ Some l → Tells y z l m r → r ≡ Some n → TurnsOn x ls (k + 1) n z
turns-go x y z ls k m n l r t site at tells e =
    let done : is_done (turn_answer y.views y.proxy (Some l)) ≡ true = sym tells.0 ∙ ap (λ (o : Option ℕ). is_some o) e in
    let count : n ≡ shown_more (turn_answer y.views y.proxy (Some l)) m = subst (λ (o : Option ℕ). IfSome o (λ n. n ≡ shown_more (turn_answer y.views y.proxy (Some l)) m)) e tells.1 in
    let next : suc k ≡ k + 1 = omega arith in
    subst (λ (j : ℕ). TurnsOn x ls j n z) next
    (subst (λ (i : ℕ). TurnsOn x ls (suc k) i z) (sym count)
    (subst (λ (w : SiteSeen). TurnsOn x ls (suc k) (shown_more (turn_answer y.views y.proxy (Some l)) m) w) (sym tells.2) (more k m y l t site at done)))

stays : (y z : SiteSeen) (l : Label) (m : ℕ) (r : Option ℕ) → Tells y z l m r → r ≡ None → z ≡ y
stays y z l m r tells e = tells.2 ∙ turn-refused y (Some l) (sym tells.0 ∙ ap (λ (o : Option ℕ). is_some o) e)

pub turns-stop : (x y z : SiteSeen) (ls : List Label) (k m : ℕ) (l : Label) (r : Option ℕ) → TurnsOn x ls k m y → Tells y z l m r → r ≡ None → TurnsOn x ls k m z
turns-stop x y z ls k m l r t tells e = subst (TurnsOn x ls k m) (sym (stays y z l m r tells e)) t

pub turns-end : (y z : SiteSeen) (ls : List Label) (k m : ℕ) (l : Label) (r : Option ℕ) → slice_get ls k ≡ Some l → Tells y z l m r → r ≡ None → is_done (turn_answer z.views z.proxy (slice_get ls k)) ≡ false
turns-end y z ls k m l r at tells e =
    ap (λ (o : Option Label). is_done (turn_answer z.views z.proxy o)) at ∙
    (ap (λ (w : SiteSeen). is_done (turn_answer w.views w.proxy (Some l))) (stays y z l m r tells e) ∙ (sym tells.0 ∙ ap (λ (o : Option ℕ). is_some o) e))
